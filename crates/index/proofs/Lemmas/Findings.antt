-- What the check finds of a block is what it finds of the halves, joined under the root.
use Prim.Native.Nat.{ℕ, suc, ◌+◌, ◌-◌, ◌*◌, ◌≤◌, max, min}
use Rattle.std.proofs.Common.{arith, sym, ◌∙◌, take-append-drop}
use Rattle.std.specs.Prelude.{◌≡◌, Bool, not, cond, ◌&&◌, ◌≢◌, length, ltb, Option, Some, None}
use Rattle.std.specs.Bool.{then_some}
use Rattle.std.proofs.Math.Path.{refl, ap, ap₂}
use Rattle.std.proofs.Math.Bool.{true, false}
use mathlib.Core.List.{List, [], ◌∷◌, ◌++◌}
use Rattle.std.proofs.Math.Dec.{leb}
use borrow.Author.Tests.{le-leb, lt-ltb, ltb-true}
use Rattle.lists.proofs.TestLaws.{bit_not_zero}
use Rattle.lists.specs.Counting.{count, non, below, under}
use Rattle.lists.specs.Blocks.{block}
use Rattle.lists.proofs.CountLaws.{count_le, count_not}
use Rattle.lists.proofs.BlockLaws.{block_all}
use Rattle.numbers.specs.Little.{Bytes}
use Rattle.numbers.proofs.Laws.{le_bound}
use Rattle.index.specs.Tree.{half, first, second}
use Rattle.index.specs.Index.{beats, axis_key}
use Rattle.index.specs.Valid.{top, low, separated, heads, is_tree}
use Rattle.index.specs.Blocks.{entry_at, others_of, left_of, right_of}
use Rattle.index.specs.Check.{key_bound, span_of, keys_of, keys_found, join_spans, side, join_keys}
use Rattle.index.specs.declared.Span.{Span}
use Rattle.index.specs.declared.Keys.{Keys}
use Rattle.index.proofs.Lemmas.Trees.{count_halves, tree_step}
use Rattle.index.proofs.Lemmas.Blocks.{block_root, block_left, block_right}
use Rattle.index.proofs.Lemmas.Keys.{key_small}
use Rattle.index.proofs.Lemmas.Separated.{under_top}

-- ---- by a key

module _ (k : ℕ → ℕ) where
  -- the least and the greatest key of a list from those of its halves

  low_le : (c : ℕ) (l : List ℕ) → low k c l ≤ c
  low_le c [] = omega arith
  low_le c (x ∷ l) = omega (arith, low_le c l)

  low_append : (c : ℕ) (l m : List ℕ) → low k c (l ++ m) ≡ min (low k c l) (low k c m)
  low_append c [] m = omega (arith, low_le c m)
  low_append c (x ∷ l) m = omega (arith, low_append c l m)

  top_append : (l m : List ℕ) → top k (l ++ m) ≡ max (top k l) (top k m)
  top_append [] m = omega arith
  top_append (x ∷ l) m = omega (arith, top_append l m)

  span_step : (r : ℕ) (e : List ℕ) → span_of k (r ∷ e) ≡ join_spans (k r) (span_of k (first e)) (span_of k (second e))
  unfolding span_of join_spans
  span_step r e = ap₂ span (ap (min (k r)) low_is) (ap (max (suc (k r))) top_is)
    where
      span : ℕ → ℕ → Span
      span l h = record { low = l; high = h }

      whole : e ≡ first e ++ second e
      whole = sym (take-append-drop (half (length e)) e)

      low_is : low k key_bound e ≡ min (low k key_bound (first e)) (low k key_bound (second e))
      low_is = ap (low k key_bound) whole ∙ low_append key_bound (first e) (second e)

      top_is : top k e ≡ max (top k (first e)) (top k (second e))
      top_is = ap (top k) whole ∙ top_append (first e) (second e)

  -- the test by the spans

  low_first : (c y : ℕ) (m : List ℕ) → k y ≤ c → low k (k y) m ≡ min (k y) (low k c m)
  low_first c y [] h = omega arith
  low_first c y (x ∷ m) h = omega (arith, low_first c y m h)

  separated_is : (l m : List ℕ) → count (non (under k key_bound)) l ≡ 0 → count (non (under k key_bound)) m ≡ 0
      → leb (span_of k l).high (span_of k m).low ≡ separated k l m
  unfolding span_of
  separated_is l [] a b = le-leb (top k l) key_bound (under_top k l key_bound a)
  separated_is l (y ∷ m) a b = ap (leb (top k l)) (sym (low_first key_bound y m small))
    where
      small : k y ≤ key_bound
      small = omega (arith, ltb-true (k y) key_bound (bit_not_zero (ltb (k y) key_bound) (omega arith)))

-- ---- by both axes

module _ (s p : List ℕ) where
  keys_small : (axis : Bool) (l : List ℕ) → count (non (below 65536)) l ≡ 0 → count (non (under (axis_key s axis) key_bound)) l ≡ 0
  keys_small axis l z =
      omega (arith, count_not (below 65536) l, count_not (under k key_bound) l, count_le (below 65536) (under k key_bound) small l)
    where
      k : ℕ → ℕ
      k = axis_key s axis

      small : (y : ℕ) → below 65536 y ≡ true → under k key_bound y ≡ true
      small y e = lt-ltb (k y) key_bound (key_small s axis y (ltb-true y 65536 e))

  side_is : (axis : Bool) (l : List ℕ) → side axis (keys_of s l) ≡ span_of (axis_key s axis) l
  unfolding keys_of
  side_is true l = refl
  side_is false l = refl

  module _ (axis : Bool) (r : ℕ) (e : List ℕ) (small : count (non (below 65536)) e ≡ 0) where
    abbrev is_separated : Bool
    is_separated = leb (side axis (keys_of s (first e))).high (side axis (keys_of s (second e))).low

    separated_too : is_separated ≡ separated (axis_key s axis) (first e) (second e)
    separated_too =
        let halves = count_halves (non (below 65536)) e in
        rw (side_is axis (first e), side_is axis (second e))
        (separated_is (axis_key s axis) (first e) (second e) (keys_small axis (first e) (omega arith))
        (keys_small axis (second e) (omega arith)))

    tree_is : is_tree (beats p) (axis_key s) axis (r ∷ e)
        ≡ ((heads (beats p) r (first e) && heads (beats p) r (second e)) && is_separated
        && (is_tree (beats p) (axis_key s) (not axis) (first e) && is_tree (beats p) (axis_key s) (not axis) (second e)))
    tree_is = rw separated_too (tree_step (beats p) (axis_key s) axis r e)

    keys_step : keys_of s (r ∷ e) ≡ join_keys (axis_key s true r) (axis_key s false r) (keys_of s (first e)) (keys_of s (second e))
    unfolding keys_of join_keys
    keys_step = λ i. record { x = span_step (axis_key s true) r e i; y = span_step (axis_key s false) r e i }

-- what is found, where there is a tree and where there is none
some_found : {a b : Keys} (t : Bool) → Some a ≡ cond t (Some b) None → (t ≡ true) × (a ≡ b)
some_found true e = (refl, cc)
some_found false e = cc

none_found : (b : Keys) (t : Bool) → None ≡ cond t (Some b) None → t ≡ false
none_found b true e = cc
none_found b false e = refl

pub then_some_is : (k : Keys) (t : Bool) → then_some t k ≡ cond t (Some k) None
then_some_is k true = refl
then_some_is k false = refl

-- a half that is no tree fails the whole
no_tree_left : (a b c d : Bool) → c ≡ false → (a && b && (c && d)) ≡ false
no_tree_left true true c d e = rw e
no_tree_left true false c d e = refl
no_tree_left false b c d e = refl

no_tree_right : (a b c d : Bool) → d ≡ false → (a && b && (c && d)) ≡ false
no_tree_right true true true d e = rw e
no_tree_right true true false d e = refl
no_tree_right true false c d e = refl
no_tree_right false b c d e = refl

-- of true halves only the other two tests count
tests_left : (a b : Bool) → (a && b && (true && true)) ≡ (a && b)
tests_left true true = refl
tests_left true false = refl
tests_left false b = refl

-- ---- the same of a block of an index

module _ (s p t : List ℕ) (bytes : Bytes t) (axis : Bool) (lo size : ℕ) (some : size ≢ 0) where
  abbrev e : ℕ → ℕ
  e = entry_at t

  abbrev found : Bool → List ℕ → Option Keys
  found = keys_found s p

  others_small : count (non (below 65536)) (others_of e lo size) ≡ 0
  others_small = block_all (below 65536) e (lo + 1) (size - 1) (λ i a b. lt-ltb (e i) 65536 (le_bound 2 t (2 * i) bytes))

  block_tree : is_tree (beats p) (axis_key s) axis (block e lo size)
      ≡ ((heads (beats p) (e lo) (left_of e lo size) && heads (beats p) (e lo) (right_of e lo size))
      && leb (side axis (keys_of s (left_of e lo size))).high (side axis (keys_of s (right_of e lo size))).low
      && (is_tree (beats p) (axis_key s) (not axis) (left_of e lo size) && is_tree (beats p) (axis_key s) (not axis) (right_of e lo size)))
  block_tree =
      rw (block_root e lo size some, ← block_left e lo size some, ← block_right e lo size some)
      (tree_is s p axis (e lo) (others_of e lo size) others_small)

  block_keys : keys_of s (block e lo size)
      ≡ join_keys (axis_key s true (e lo)) (axis_key s false (e lo)) (keys_of s (left_of e lo size)) (keys_of s (right_of e lo size))
  block_keys =
      rw (block_root e lo size some, ← block_left e lo size some, ← block_right e lo size some)
      (keys_step s p axis (e lo) (others_of e lo size) others_small)

  pub none_heads : {root : ℕ} {ha hb : Bool} → root ≡ e lo → ha ≡ heads (beats p) root (left_of e lo size)
      → hb ≡ heads (beats p) root (right_of e lo size) → (ha && hb) ≡ false → None ≡ found axis (block e lo size)
  unfolding keys_found
  none_heads root ha hb h =
      let f : (heads (beats p) (e lo) (left_of e lo size) && heads (beats p) (e lo) (right_of e lo size)) ≡ false = rw (← root, ← ha, ← hb) h in
      rw (block_tree, f)

  pub none_left : None ≡ found (not axis) (left_of e lo size) → None ≡ found axis (block e lo size)
  unfolding keys_found
  none_left h = rw (block_tree, no_tree_left _ _ _ _ (none_found _ _ h))

  pub none_right : None ≡ found (not axis) (right_of e lo size) → None ≡ found axis (block e lo size)
  unfolding keys_found
  none_right h = rw (block_tree, no_tree_right _ _ _ _ (none_found _ _ h))

  -- as the code makes it, with a name for each result
  module _ {root : ℕ} {ha hb : Bool} {a b : Keys} (root_is : root ≡ e lo)
      (left : Some a ≡ found (not axis) (left_of e lo size)) (right : Some b ≡ found (not axis) (right_of e lo size))
      (ha_is : ha ≡ heads (beats p) root (left_of e lo size)) (hb_is : hb ≡ heads (beats p) root (right_of e lo size)) where
    tree_made : is_tree (beats p) (axis_key s) axis (block e lo size) ≡ (ha && hb && leb (side axis a).high (side axis b).low)
    unfolding keys_found
    tree_made =
        let l = some_found _ left in
        let r = some_found _ right in
        rw (block_tree, l.0, r.0, ha_is, hb_is, root_is, l.1, r.1, tests_left)

    -- what is found, by the test of the two sides
    pub keys_made : (ha && hb) ≡ true → {kx ky : ℕ} {k : Keys} → kx ≡ axis_key s true root → ky ≡ axis_key s false root → k ≡ join_keys kx ky a b
        → cond (leb (side axis a).high (side axis b).low) (Some k) None ≡ found axis (block e lo size)
    unfolding keys_found
    keys_made h kx ky k =
        let l = some_found _ left in
        let r = some_found _ right in
        rw (tree_made, h, block_keys, k, kx, ky, root_is, l.1, r.1)
