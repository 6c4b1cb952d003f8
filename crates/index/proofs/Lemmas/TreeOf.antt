-- What `tree_of` gives is a tree over the members that it is given, and so the only one: its root is beaten by none, and the others,
-- sorted, have a number between the keys of any two parts.
use Prim.Native.Nat.{ℕ, zero, suc, ◌+◌, ◌-◌, ◌≤◌, ◌<◌}
use Rattle.std.proofs.Common.{arith, sym, ap, ap₂, ◌∙◌, true≢false, length-append, take_at, drop_at, eq-eqb, ne_eqb}
use Rattle.std.specs.Prelude.{◌≡◌, Bool, true, false, not, cond, ◌&&◌, length, eqb}
use Rattle.std.proofs.Math.Path.{refl}
use mathlib.Core.List.{List, [], ◌∷◌, ◌++◌}
use Rattle.std.proofs.lemmas.Bool.{eqb-false, not-true}
use Rattle.lists.proofs.TestLaws.{by_cases, and_right, and_both, bit_false, bit_not_zero}
use Rattle.lists.specs.Counting.{count, ◌≈◌, times, non, both, below, under, keyed, without}
use Rattle.lists.specs.Blocks.{up_to}
use Rattle.lists.specs.Sorting.{sort}
use Rattle.lists.proofs.CountLaws.{count_append, count_le, times_le, times_self, alike_length, without_count, without_alike}
use Rattle.lists.proofs.BlockLaws.{all_numbers, block_length, block_once}
use Rattle.lists.proofs.SortLaws.{sort_alike, sort_rising}
use Rattle.index.specs.Tree.{half, first, second, best, tree_of}
use Rattle.index.specs.Valid.{Order, heads, valid, is_tree, Split}
use Rattle.index.proofs.Lemmas.Trees.{half_le, first_length, second_length, count_halves, tests_pass}
use Rattle.index.proofs.Lemmas.Unique.{tree_distinct, tree_unique}
use Rattle.index.proofs.Lemmas.Separated.{rising_split}

-- y is another than b, and b does not beat it
abbrev pub rival : (ℕ → ℕ → Bool) → ℕ → ℕ → Bool
rival beats b = both (non (eqb b)) (non (beats b))

-- the keys tell the members of l apart
abbrev pub Keyed : (Bool → ℕ → ℕ) → List ℕ → Type 0
Keyed key l = (axis : Bool) (v : ℕ) → count (keyed (key axis) v) l ≤ 1

-- ---- the root

module _ (beats : ℕ → ℕ → Bool) (ord : Order beats) where
  pub self_rival : (x : ℕ) → rival beats x x ≡ false
  self_rival x = ap (λ (z : Bool). not z && not (beats x x)) (eq-eqb x x refl)

  -- who beats b has no rivals but b's
  pub rival_pass : (x b z : ℕ) → beats x b ≡ true → rival beats x z ≡ true → rival beats b z ≡ true
  rival_pass x b z h r = and_both (ap not (ne_eqb b z other)) (ap not (by_cases (beats b z) worse (λ e. e)))
    where
      unbeaten : beats x z ≡ false
      unbeaten = not-true (beats x z) (and_right (not (eqb x z)) (not (beats x z)) r)

      other : b ≡ z → ⊥
      other q = true≢false (sym h ∙ ap (beats x) q ∙ unbeaten)

      worse : beats b z ≡ true → beats b z ≡ false
      worse e = absurd (true≢false (sym (ord.trans x b z h e) ∙ unbeaten))

  -- and who does not beat b is no rival of b
  pub rival_lost : (x b : ℕ) → beats x b ≡ false → rival beats b x ≡ false
  rival_lost x b h =
      by_cases (eqb b x) (λ q. ap (λ (z : Bool). not z && not (beats b x)) q)
      (λ q. by_cases (beats b x) (λ s. ap₂ (λ (z w : Bool). not z && not w) q s) (λ s. absurd (eqb-false b x q (ord.total b x s h))))

  best_in : (x : ℕ) (l : List ℕ) → 1 ≤ times (best beats x l) (x ∷ l)
  best_in x [] = omega (arith, times_self x)
  best_in x (y ∷ l) = go (beats x (best beats y l)) (best_in y l)
    where
      go : (c : Bool) → 1 ≤ times (best beats y l) (y ∷ l) → 1 ≤ times (cond c x (best beats y l)) (x ∷ y ∷ l)
      go true h = omega (arith, times_self x)
      go false h = omega arith

  best_beats : (x : ℕ) (l : List ℕ) → count (rival beats (best beats x l)) (x ∷ l) ≡ 0
  best_beats x [] = omega (arith, bit_false (self_rival x))
  best_beats x (y ∷ l) = go (best beats y l) (beats x (best beats y l)) refl (best_beats y l)
    where
      go : (b : ℕ) (c : Bool) → beats x b ≡ c → count (rival beats b) (y ∷ l) ≡ 0
          → count (rival beats (cond c x b)) (x ∷ y ∷ l) ≡ 0
      go b true e h =
          omega (arith, bit_false (self_rival x), count_le (rival beats x) (rival beats b) (λ z r. rival_pass x b z e r) (y ∷ l))
      go b false e h = omega (arith, bit_false (rival_lost x b e))

-- `tree_of` makes of l a tree over l's members
pub record Made (beats : ℕ → ℕ → Bool) (key : Bool → ℕ → ℕ) (f : ℕ) (axis : Bool) (l : List ℕ) : Type 0 where
  pub alike : tree_of beats key f axis l ≈ l
  pub tree : is_tree beats key axis (tree_of beats key f axis l) ≡ true

-- ---- the root and the two halves

module _ (beats : ℕ → ℕ → Bool) (key : Bool → ℕ → ℕ) (ord : Order beats) where
  heads_of : (r : ℕ) (l : List ℕ) → count (non (beats r)) l ≡ 0 → heads beats r l ≡ true
  heads_of r [] h = refl
  heads_of r (y ∷ l) h = bit_not_zero (beats r y) (omega arith)

  -- Trees over the halves of a list whose members r beats are, joined under r, a tree.
  pub join : (axis : Bool) (r : ℕ) (rest l m : List ℕ) → count (non (beats r)) rest ≡ 0 → Split (key axis) (first rest) (second rest)
      → l ≈ first rest → m ≈ second rest → is_tree beats key (not axis) l ≡ true → is_tree beats key (not axis) m ≡ true
      → is_tree beats key axis (r ∷ (l ++ m)) ≡ true
  join axis r rest l m b s al am tl tm =
      tests_pass beats key axis r (l ++ m)
      (record {
        left_head = rw at_l (heads_of r l (omega (arith, al (non (beats r)), beaten)));
        right_head = rw at_m (heads_of r m (omega (arith, am (non (beats r)), beaten)));
        split = rw (at_l, at_m) split;
        left = rw at_l tl;
        right = rw at_m tm;
      })
    where
      beaten : count (non (beats r)) (first rest) + count (non (beats r)) (second rest) ≡ 0
      beaten = omega (arith, count_halves (non (beats r)) rest)

      parts : ℕ → Bool
      parts = under (key axis) s.between

      split : Split (key axis) l m
      split = record { between = s.between; left = al (non parts) ∙ s.left; right = am parts ∙ s.right }

      left_long : length l ≡ half (length rest)
      left_long = alike_length l (first rest) al ∙ first_length rest

      right_long : length m ≡ length rest - half (length rest)
      right_long = alike_length m (second rest) am ∙ second_length rest

      both_long : length rest ≡ length (l ++ m)
      both_long = omega (arith, length-append l m, left_long, right_long, half_le (length rest))

      long : length l ≡ half (length (l ++ m))
      long = left_long ∙ ap half both_long

      at_l : first (l ++ m) ≡ l
      at_l = take_at l m (half (length (l ++ m))) long

      at_m : second (l ++ m) ≡ m
      at_m = drop_at l m (half (length (l ++ m))) long

  -- what `tree_of` makes of a list before it goes down: the root, and the others in order
  module _ (axis : Bool) (x : ℕ) (l : List ℕ) (d : Keyed key (x ∷ l)) where
    abbrev root : ℕ
    root = best beats x l

    abbrev others : List ℕ
    others = without root (x ∷ l)

    abbrev rest : List ℕ
    rest = sort (key axis) others

    once : times root (x ∷ l) ≤ 1
    once =
        let k = key true root in
        omega (arith, d true k, times_le (keyed (key true) k) root (eq-eqb k k refl) (x ∷ l))

    others_alike : (x ∷ l) ≈ root ∷ others
    others_alike = without_alike root (x ∷ l) (omega (arith, best_in beats ord x l, once))

    rest_alike : (x ∷ l) ≈ root ∷ rest
    rest_alike p = omega (arith, others_alike p, sort_alike (key axis) others p)

    rest_beaten : count (non (beats root)) rest ≡ 0
    rest_beaten =
        let p = non (beats root) in
        omega (arith, sort_alike (key axis) others p, without_count p root (x ∷ l), best_beats beats ord x l)

    rest_split : Split (key axis) (first rest) (second rest)
    rest_split =
        rising_split (key axis) (half (length rest)) rest (sort_rising (key axis) others)
        (λ v. omega (arith, d axis v, rest_alike (keyed (key axis) v)))

    -- the keys tell apart the members of a part of the others
    part_keyed : (m : List ℕ) → ((p : ℕ → Bool) → count p m ≤ count p rest) → Keyed key m
    part_keyed m less ax v = omega (arith, d ax v, rest_alike (keyed (key ax) v), less (keyed (key ax) v))

    rest_long : length (x ∷ l) ≡ suc (length rest)
    rest_long = alike_length (x ∷ l) (root ∷ rest) rest_alike

    made_join : (f : ℕ) → Made beats key f (not axis) (first rest) → Made beats key f (not axis) (second rest)
        → Made beats key (suc f) axis (x ∷ l)
    unfolding tree_of
    made_join f a b =
        let left = tree_of beats key f (not axis) (first rest) in
        let right = tree_of beats key f (not axis) (second rest) in
        record {
          alike = λ p. omega (arith, rest_alike p, count_halves p rest, a.alike p, b.alike p, count_append p left right);
          tree = join axis root rest left right rest_beaten rest_split a.alike b.alike a.tree b.tree;
        }

  made : (f : ℕ) (axis : Bool) (l : List ℕ) → length l ≤ f → Keyed key l → Made beats key f axis l
  unfolding tree_of is_tree valid
  made zero axis [] h d = record { alike = λ p. refl; tree = refl }
  made zero axis (x ∷ l) h d = absurd (omega arith)
  made (suc f) axis [] h d = record { alike = λ p. refl; tree = refl }
  made (suc f) axis (x ∷ l) h d =
      let e = rest axis x l d in
      made_join axis x l d f
      (made f (not axis) (first e) (omega (arith, rest_long axis x l d, first_length e, half_le (length e)))
      (part_keyed axis x l d (first e) (λ p. omega (arith, count_halves p e))))
      (made f (not axis) (second e) (omega (arith, rest_long axis x l d, second_length e))
      (part_keyed axis x l d (second e) (λ p. omega (arith, count_halves p e))))

  -- ---- the tree of n marks

  module _ (n : ℕ) (differ : (axis : Bool) (a b : ℕ) → a < b → b < n → key axis a ≡ key axis b → ⊥) where
    pub tree_made : Made beats key n true (up_to n)
    tree_made = made n true (up_to n) (omega (arith, block_length (λ i. i) 0 n))
        (λ axis v. block_once (key axis) (λ i. i) 0 n (λ a b c d f. differ axis a b d (omega arith)) v)

    -- n numbers below n that are a tree are the tree of n marks
    pub tree_is : (e : List ℕ) → length e ≡ n → count (non (below n)) e ≡ 0 → is_tree beats key true e ≡ true
        → e ≡ tree_of beats key n true (up_to n)
    tree_is e len small t =
        tree_unique beats key ord true e (tree_of beats key n true (up_to n)) t tree_made.tree
        (λ p. all_numbers n e (tree_distinct beats key ord true e t) len small p ∙ sym (tree_made.alike p))
