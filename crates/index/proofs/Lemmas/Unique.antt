-- Two trees with the same members are equal: their roots both beat all others, and their halves have the same members, since each
-- tree has a number between the keys of its halves.
use Rattle.std.specs.Prelude.{ℕ, ◌+◌, ◌≤◌, ◌<◌, ◌≡◌, refl, Bool, true, false, not, List, [], ◌∷◌, ◌++◌, length, eqb, leb}
use Rattle.std.proofs.Common.{arith, sym, ap, ap₂, ◌∙◌, true≢false, take-append-drop, leb-true, leb-false, eqb-true, ne_eqb}
use Rattle.std.proofs.lemmas.Bool.{eqb-false}
use Rattle.lists.specs.Tests.{bit}
use Rattle.lists.proofs.TestLaws.{by_cases, bit_true, bit_false, bit_not_true}
use Rattle.lists.specs.Counting.{count, ◌≈◌, times, Distinct, non, both, under}
use Rattle.lists.proofs.CountLaws.{count_le, count_not, count_split, both_le, times_le, times_self, alike_length, under_le, over_le}
use Rattle.index.specs.Tree.{half, first, second}
use Rattle.index.specs.Valid.{Order, heads, is_tree, Split}
use Rattle.index.proofs.Lemmas.Trees.{first_length, count_halves, by_halves, tested}

-- two cuts of alike lists, of the same length, each with a number between the keys: the first parts are alike
module _ (k : ℕ → ℕ) (l r l' r' : List ℕ) (same : (p : ℕ → Bool) → count p l + count p r ≡ count p l' + count p r')
    (len : length l ≡ length l') (s : Split k l r) (s' : Split k l' r') where
  -- the test that parts l from r
  abbrev parts : ℕ → Bool
  parts = under k s.between

  right_too : count parts r' ≡ 0
  right_too = by_cases (leb s.between s'.between) less more
    where
      less : leb s.between s'.between ≡ true → count parts r' ≡ 0
      less e = omega (arith, under_le k s.between s'.between (leb-true s.between s'.between e) r')

      more : leb s.between s'.between ≡ false → count parts r' ≡ 0
      more e =
          let a : s'.between < s.between = leb-false s.between s'.between e in
          omega (arith, over_le k s'.between s.between (omega arith) l', count_not parts l, count_not parts l', same parts)

  left_too : count (non parts) l' ≡ 0
  left_too = omega (arith, right_too, count_not parts l, count_not parts l', same parts)

  same_first : l ≈ l'
  same_first p =
      omega (
        arith,
        same (both parts p),
        count_split p parts l,
        count_split p parts l',
        both_le parts p r,
        both_le parts p r',
        both_le (non parts) p l,
        both_le (non parts) p l',
        right_too,
        left_too,
      )

-- the root of a tree beats all others
pub record Node (beats : ℕ → ℕ → Bool) (key : Bool → ℕ → ℕ) (axis : Bool) (r : ℕ) (e : List ℕ) : Type 0 where
  pub beaten : count (non (beats r)) e ≡ 0
  pub split : Split (key axis) (first e) (second e)
  pub left : is_tree beats key (not axis) (first e) ≡ true
  pub right : is_tree beats key (not axis) (second e) ≡ true

module _ (beats : ℕ → ℕ → Bool) (key : Bool → ℕ → ℕ) (ord : Order beats) where
  -- who beats the root of a tree beats all of it
  abbrev BeatsAll : Bool → List ℕ → Type 0
  BeatsAll axis e = is_tree beats key axis e ≡ true → (r : ℕ) → heads beats r e ≡ true → count (non (beats r)) e ≡ 0

  root_beats : (axis : Bool) (e : List ℕ) → BeatsAll axis e
  root_beats = by_halves BeatsAll (λ axis v r h. refl) join
    where
      join : (axis : Bool) (x : ℕ) (e : List ℕ) → BeatsAll (not axis) (first e) → BeatsAll (not axis) (second e)
          → BeatsAll axis (x ∷ e)
      join axis x e left right v r h =
          let n = tested beats key axis x e v in
          omega (
            arith,
            bit_not_true h,
            count_not (beats r) e,
            count_not (beats x) e,
            count_le (beats x) (beats r) (λ y b. ord.trans r x y h b) e,
            count_halves (non (beats x)) e,
            left n.left x n.left_head,
            right n.right x n.right_head,
          )

  pub tree_node : (axis : Bool) (r : ℕ) (e : List ℕ) → is_tree beats key axis (r ∷ e) ≡ true → Node beats key axis r e
  tree_node axis r e v =
      let n = tested beats key axis r e v in
      let left = root_beats (not axis) (first e) n.left r n.left_head in
      let right = root_beats (not axis) (second e) n.right r n.right_head in
      record {
        beaten = omega (arith, count_halves (non (beats r)) e);
        split = n.split;
        left = n.left;
        right = n.right;
      }

  -- ---- no number stands twice in a tree

  abbrev Once : Bool → List ℕ → Type 0
  Once axis e = is_tree beats key axis e ≡ true → Distinct e

  pub tree_distinct : (axis : Bool) (e : List ℕ) → Once axis e
  tree_distinct = by_halves Once (λ axis v x. omega arith) join
    where
      join : (axis : Bool) (r : ℕ) (e : List ℕ) → Once (not axis) (first e) → Once (not axis) (second e) → Once axis (r ∷ e)
      join axis r e left right v x =
          by_cases (eqb x r) (λ q. omega (arith, bit_true q, n.beaten, times_le (non (beats r)) x (self q) e))
          (λ q. omega (arith, bit_false q, count_halves (eqb x) e, by_cases (parts x) in_first in_second))
        where
          n : Node beats key axis r e
          n = tree_node axis r e v

          self : eqb x r ≡ true → non (beats r) x ≡ true
          self q = rw (eqb-true x r q) (ap not (by_cases (beats r r) (λ b. ord.asym r r b) (λ b. b)))

          -- the test that parts the halves
          parts : ℕ → Bool
          parts = under (key axis) n.split.between

          in_first : parts x ≡ true → times x (first e) + times x (second e) ≤ 1
          in_first u = omega (arith, left n.left x, times_le parts x u (second e), n.split.right)

          in_second : parts x ≡ false → times x (first e) + times x (second e) ≤ 1
          in_second u = omega (arith, right n.right x, times_le (non parts) x (ap not u) (first e), n.split.left)

  -- ---- only one tree has its members

  -- where two alike lists differ in the first number, that of the one stands behind that of the other, which beats it
  wins : (a c : ℕ) (l m : List ℕ) → (a ∷ l) ≈ (c ∷ m) → count (non (beats c)) m ≡ 0 → (a ≡ c → ⊥) → beats c a ≡ true
  wins a c l m same b other =
      by_cases (beats c a) (λ q. q)
      (λ q. absurd (omega (arith, same (eqb a), times_self a, bit_false (ne_eqb a c other), times_le (non (beats c)) a (ap not q) m)))

  same_root : (r r' : ℕ) (e e' : List ℕ) → count (non (beats r)) e ≡ 0 → count (non (beats r')) e' ≡ 0 → (r ∷ e) ≈ (r' ∷ e') → r ≡ r'
  same_root r r' e e' b b' same = by_cases (eqb r r') (λ q. eqb-true r r' q) (λ q. absurd (clash (eqb-false r r' q)))
    where
      clash : (r ≡ r' → ⊥) → ⊥
      clash other =
          let there = wins r r' e e' same b' other in
          let back = wins r' r e' e (λ p. sym (same p)) b (λ z. other (sym z)) in
          true≢false (sym back ∙ ord.asym r' r there)

  abbrev Only : Bool → List ℕ → Type 0
  Only axis e = (e' : List ℕ) → is_tree beats key axis e ≡ true → is_tree beats key axis e' ≡ true → e ≈ e' → e ≡ e'

  pub tree_unique : (axis : Bool) (e : List ℕ) → Only axis e
  tree_unique = by_halves Only none join
    where
      none : (axis : Bool) → Only axis []
      none axis [] v v' h = refl
      none axis (r ∷ e) v v' h = absurd (omega (arith, alike_length [] (r ∷ e) h))

      join : (axis : Bool) (r : ℕ) (e : List ℕ) → Only (not axis) (first e) → Only (not axis) (second e) → Only axis (r ∷ e)
      join axis r e left right [] v v' h = absurd (omega (arith, alike_length (r ∷ e) [] h))
      join axis r e left right (r' ∷ e') v v' h =
          ap₂ ◌∷◌ root (sym (take-append-drop (half (length e)) e) ∙ ap₂ ◌++◌ l q ∙ take-append-drop (half (length e')) e')
        where
          n : Node beats key axis r e
          n = tree_node axis r e v

          n' : Node beats key axis r' e'
          n' = tree_node axis r' e' v'

          root : r ≡ r'
          root = same_root r r' e e' n.beaten n'.beaten h

          rest : e ≈ e'
          rest p = omega (arith, h p, ap (λ (z : ℕ). bit (p z)) root)

          cuts : (p : ℕ → Bool) → count p (first e) + count p (second e) ≡ count p (first e') + count p (second e')
          cuts p = omega (arith, rest p, count_halves p e, count_halves p e')

          long : length (first e) ≡ length (first e')
          long = omega (arith, first_length e, first_length e', ap half (alike_length e e' rest))

          firsts : first e ≈ first e'
          firsts = same_first (key axis) (first e) (second e) (first e') (second e') cuts long n.split n'.split

          l : first e ≡ first e'
          l = left (first e') n.left n'.left firsts

          q : second e ≡ second e'
          q = right (second e') n.right n'.right (λ p. omega (arith, cuts p, firsts p))
