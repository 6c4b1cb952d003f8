-- Any cut of a list that rises, no two of its keys equal, has a number between the keys of the two sides, and so has a cut of a block with
-- each key on the left below each on the right; and `separated` tells whether two lists have one.
use Rattle.std.specs.Prelude.{ℕ, zero, suc, ◌+◌, ◌-◌, ◌≤◌, ◌<◌, ◌≡◌, refl, true, false, List, [], ◌∷◌, take, drop, ltb, leb}
use Rattle.std.proofs.Common.{arith, ltb-true, ltb-false, leb-true, leb-false, lt-ltb, le-ltb, le-leb}
use Rattle.lists.proofs.TestLaws.{by_cases, bit_false, bit_not_true, bit_zero, bit_not_zero}
use Rattle.lists.specs.Counting.{count, non, under, keyed}
use Rattle.lists.specs.Blocks.{block}
use Rattle.lists.proofs.BlockLaws.{block_take, block_drop, block_all, none_pass}
use Rattle.lists.proofs.CountLaws.{count_cut, times_self, over_le, under_zero, under_more}
use Rattle.lists.specs.Sorting.{Rising}
use Rattle.index.specs.Valid.{top, low, separated, Split}

module _ (k : ℕ → ℕ) where
  -- ---- a number between

  pub rising_split : (h : ℕ) (l : List ℕ) → Rising k l → ((v : ℕ) → count (keyed k v) l ≤ 1) → Split k (take h l) (drop h l)
  rising_split zero l r once = record { between = 0; left = refl; right = under_zero k l }
  rising_split (suc h) [] r once = record { between = 0; left = refl; right = refl }
  rising_split (suc h) (x ∷ l) r once = go (rising_split h l r.1 (λ v. omega (arith, once v)))
    where
      go : Split k (take h l) (drop h l) → Split k (x ∷ take h l) (drop h l)
      go s = by_cases (leb s.between (k x)) past within
        where
          past : leb s.between (k x) ≡ true → Split k (x ∷ take h l) (drop h l)
          past e =
              let a : s.between ≤ k x = leb-true s.between (k x) e in
              record {
                between = suc (k x);
                left = omega (
                  arith,
                  bit_not_true (lt-ltb (k x) (suc (k x)) (omega arith)),
                  over_le k s.between (suc (k x)) (omega arith) (take h l),
                );
                right = omega (arith, r.0, once (k x), times_self (k x), under_more k (k x) l, count_cut (under k (suc (k x))) h l);
              }

          within : leb s.between (k x) ≡ false → Split k (x ∷ take h l) (drop h l)
          within e =
              let a : k x < s.between = leb-false s.between (k x) e in
              record {
                between = s.between;
                left = omega (arith, bit_not_true (lt-ltb (k x) s.between a));
                right = s.right;
              }

  pub top_under : (l : List ℕ) (t : ℕ) → top k l ≤ t → count (non (under k t)) l ≡ 0
  top_under [] t h = refl
  top_under (x ∷ l) t h = omega (arith, top_under l t (omega arith), bit_not_true (lt-ltb (k x) t (omega arith)))

  pub under_top : (l : List ℕ) (t : ℕ) → count (non (under k t)) l ≡ 0 → top k l ≤ t
  under_top [] t h = omega arith
  under_top (x ∷ l) t h = omega (arith, under_top l t (omega arith), ltb-true (k x) t (bit_not_zero (ltb (k x) t) (omega arith)))

  pub apart_split : (e : ℕ → ℕ) (lo m h : ℕ) → h ≤ m → ((i j : ℕ) → lo ≤ i → i < lo + h → lo + h ≤ j → j < lo + m → k (e i) < k (e j))
      → Split k (take h (block e lo m)) (drop h (block e lo m))
  apart_split e lo m h g apart =
      rw (block_take e lo m h g, block_drop e lo m h g)
      (record {
        between = top k left;
        left = top_under left (top k left) (omega arith);
        right = none_pass (under k (top k left)) e (lo + h) (m - h) (λ j a b. le-ltb (k (e j)) (top k left) (above j a (omega arith)));
      })
    where
      left : List ℕ
      left = block e lo h

      above : (j : ℕ) → lo + h ≤ j → j < lo + m → top k left ≤ k (e j)
      above j a b = under_top left (k (e j)) (block_all (under k (k (e j))) e lo h (λ i c d. lt-ltb (k (e i)) (k (e j)) (apart i j c d a b)))

  low_over : (c : ℕ) (l : List ℕ) (t : ℕ) → t ≤ low k c l → (count (under k t) l ≡ 0) × (t ≤ c)
  low_over c [] t h = (refl, h)
  low_over c (x ∷ l) t h =
      let r = low_over c l t (omega arith) in
      (omega (arith, r.0, bit_false (le-ltb (k x) t (omega arith))), r.1)

  over_low : (c : ℕ) (l : List ℕ) (t : ℕ) → count (under k t) l ≡ 0 → t ≤ c → t ≤ low k c l
  over_low c [] t h g = g
  over_low c (x ∷ l) t h g = omega (arith, over_low c l t (omega arith) g, ltb-false (k x) t (bit_zero (ltb (k x) t) (omega arith)))

  pub separated_split : (l m : List ℕ) → separated k l m ≡ true → Split k l m
  separated_split l [] h = record { between = top k l; left = top_under l (top k l) (omega arith); right = refl }
  separated_split l (y ∷ m) h =
      let r = low_over (k y) m (top k l) (leb-true (top k l) (low k (k y) m) h) in
      record {
        between = top k l;
        left = top_under l (top k l) (omega arith);
        right = omega (arith, r.0, bit_false (le-ltb (k y) (top k l) r.1));
      }

  pub split_separated : (l m : List ℕ) → Split k l m → separated k l m ≡ true
  split_separated l [] s = refl
  split_separated l (y ∷ m) s =
      let t = s.between in
      let b : t ≤ k y = ltb-false (k y) t (bit_zero (ltb (k y) t) (omega arith)) in
      le-leb (top k l) (low k (k y) m) (omega (arith, under_top l t s.left, over_low (k y) m t (omega arith) b))
