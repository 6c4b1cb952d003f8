-- Laws of pair values: they are symmetric fractions with positive denominators, at least the touching value and both popup values, and without
-- popups the touching values. Assumes nothing.
use Prim.Native.Nat.{ℕ, zero, suc, ◌*◌, ◌<◌, ◌≤◌}
use Rattle.std.specs.Prelude.{◌≡◌, refl, false, List, [], ◌∷◌, ltb, length}
use Rattle.std.proofs.Common.{sym, inl, inr}
use Rattle.std.proofs.Math.Nat.{mul-le-mul}
use native.Mathlib.Omega.{arith}
use borrow.Author.Tests.{ltb-true, ltb-false}
use Rattle.lists.proofs.TestLaws.{by_cases}
use Rattle.numbers.specs.Little.{le_at, Bytes}
use Rattle.fractions.specs.declared.Fraction.{Fraction}
use Rattle.fractions.specs.Order.{less, AtMost, Small}
use Rattle.fractions.proofs.Laws.{less_iff}
use Rattle.marks.specs.Marks.{used_at, larger, touching}
use Rattle.marks.specs.Pairs.{popup_at, popup_value, pair_of, pair_value, GoodPopup, GoodPopups}
use Rattle.marks.proofs.Laws.{larger_symmetric, larger_most, touching_symmetric, touching_positive, touching_small}

-- ---- a value and a popup

module _ (f : Fraction) (k : ℕ) where
  pub pair_positive : 0 < f.den → 0 < (pair_of f k).den
  unfolding pair_of
  pair_positive h = by_cases (less f (popup_value k)) (λ e. rw e (omega arith)) (λ e. rw e h)

  -- and only then
  pub positive_pair : 0 < (pair_of f k).den → 0 < f.den
  unfolding pair_of
  positive_pair h =
      by_cases (less f (popup_value k)) (λ e. some f.den ((less_iff f (popup_value k)).0 e).cross) (λ e. rw e at h)
    where
      some : (d : ℕ) → f.num * 4096 < k * k * d → 0 < d
      some zero l = absurd (omega arith)
      some (suc d) l = omega arith

  pub pair_small : Small f → k ≤ 65536 → Small (pair_of f k)
  unfolding pair_of
  pair_small h m =
      by_cases (less f (popup_value k)) (λ e. rw e (record { num_small = omega (arith, mul-le-mul m m); den_small = omega arith })) (λ e. rw e h)

  -- It is at least the value,
  pub pair_least : AtMost f (pair_of f k)
  unfolding pair_of
  pair_least =
      by_cases (less f (popup_value k)) (λ e. rw e (record { cross = omega (arith, ((less_iff f (popup_value k)).0 e).cross) })) (λ e. rw e (record { cross = omega arith }))

  not_less : less f (popup_value k) ≡ false → k * k * f.den ≤ f.num * 4096
  unfolding less
  not_less e = omega (arith, ltb-false (f.num * 4096) (k * k * f.den) e)

  -- and at least the popup's.
  pub pair_popup : AtMost (popup_value k) (pair_of f k)
  unfolding pair_of
  pair_popup = by_cases (less f (popup_value k)) (λ e. rw e (record { cross = omega arith })) (λ e. rw e (record { cross = not_less e }))

-- a later popup has a greater value
pub popup_grows : {j k : ℕ} → j ≤ k → AtMost (popup_value j) (popup_value k)
popup_grows h = record { cross = omega (arith, mul-le-mul h h) }

-- no popup, no change
pub pair_none : (f : Fraction) → pair_of f 0 ≡ f
unfolding pair_of less
pair_none f = by_cases (ltb (f.num * 4096) (0 * f.den)) (λ e. absurd (omega (arith, ltb-true (f.num * 4096) (0 * f.den) e))) (λ e. rw e)

-- ---- of two marks

le_nothing : (k at : ℕ) → le_at k [] at ≡ 0
unfolding le_at
le_nothing zero at = refl
le_nothing (suc k) at = omega (arith, le_nothing k (suc at))

pub popup_none : (m : ℕ) → popup_at [] m ≡ 0
popup_none m = le_nothing 4 (4 * m)

module _ (shape : ℕ) (s q : List ℕ) (a b : ℕ) where
  pub pairs_symmetric : pair_value shape s q a b ≡ pair_value shape s q b a
  unfolding pair_value
  pairs_symmetric = rw (touching_symmetric shape s a b, larger_symmetric (popup_at q a) (popup_at q b))

  pub pairs_positive : 0 < (pair_value shape s q a b).den
  unfolding pair_value
  pairs_positive = pair_positive (touching shape s a b) (larger (popup_at q a) (popup_at q b)) (touching_positive shape s a b)

  pub pairs_small : Bytes s → used_at s a ≤ 16383 → used_at s b ≤ 16383 → popup_at q a ≤ 65536 → popup_at q b ≤ 65536 → Small (pair_value shape s q a b)
  unfolding pair_value
  pairs_small bytes p r u v =
      pair_small (touching shape s a b) (larger (popup_at q a) (popup_at q b)) (touching_small shape s a b bytes p r) (larger_most (popup_at q a) (popup_at q b) 65536 u v)

  -- "The pair value becomes the larger of the touching value and both k²/4096."
  pub pairs_touching : AtMost (touching shape s a b) (pair_value shape s q a b)
  unfolding pair_value
  pairs_touching = pair_least (touching shape s a b) (larger (popup_at q a) (popup_at q b))

  pub pairs_popup : AtMost (popup_value (larger (popup_at q a) (popup_at q b))) (pair_value shape s q a b)
  unfolding pair_value
  pairs_popup = pair_popup (touching shape s a b) (larger (popup_at q a) (popup_at q b))

  -- all k = 0: the touching value, number for number
  pub pairs_none : popup_at q a ≡ 0 → popup_at q b ≡ 0 → pair_value shape s q a b ≡ touching shape s a b
  unfolding pair_value
  pairs_none u v = rw (u, v) (pair_none (touching shape s a b))

pub without_popups : (shape : ℕ) (s : List ℕ) (a b : ℕ) → pair_value shape s [] a b ≡ touching shape s a b
without_popups shape s a b = pairs_none shape s [] a b (popup_none a) (popup_none b)

-- as the code sees that there are none: the body is empty
pub unpopped : (shape : ℕ) (s q : List ℕ) (a b : ℕ) → length q ≡ 0 → touching shape s a b ≡ pair_value shape s q a b
unpopped shape s [] a b e = sym (without_popups shape s a b)
unpopped shape s (x ∷ q) a b e = absurd (omega arith)

-- each popup of good ones
pub good_popup : {q : List ℕ} {n m : ℕ} → GoodPopups q n → m < n → GoodPopup q m
good_popup {m = m} good h =
    record { there = elim good.sized [ inl e ↦ inl e | inr e ↦ inr (omega arith) ]; small = good.each m h }

-- no part 5 is a good one
pub none_good : (n : ℕ) → GoodPopups [] n
none_good n = record { sized = inl refl; each = λ m h. omega (arith, popup_none m) }
