-- Places counted from n below 0, where omega reads them: their differences and their order, as long as n is below them all.
use Rattle.std.specs.Prelude.{ℕ, zero, suc, ◌+◌, ◌-◌, ◌<◌, ◌≤◌, ◌≡◌, true, false, ltb, ℤ, pos, negsuc, ◌-ℤ◌, nat_abs}
use Rattle.std.proofs.Common.{arith, ltb-true, ltb-false, leb-true, leb-false}
use Rattle.std.proofs.Math.IntN.{sub_ℕ}
use Rattle.std.specs.Int.Signed.{mag, le_z}
use Rattle.lists.proofs.TestLaws.{by_cases}
use Rattle.reaching.specs.Shown.{above}

pub above_sub : (a b : ℕ) → above (sub_ℕ a b) ≡ a - b
above_sub a b = by_cases (ltb a b) (λ e. rw e (omega (arith, ltb-true a b e))) (λ e. rw e)

abs_sub : (a b : ℕ) → nat_abs (sub_ℕ a b) ≡ (a - b) + (b - a)
abs_sub a b =
    by_cases (ltb a b) (λ e. rw e (omega (arith, ltb-true a b e))) (λ e. rw e (omega (arith, ltb-false a b e)))

-- how far the place z lies above -n
abbrev pub from : ℕ → ℤ → ℕ
from n (pos a) = a + n
from n (negsuc a) = n - suc a

module _ (n : ℕ) where
  pub from_above : (a b : ℤ) → mag a < n → mag b < n → above (a -ℤ b) ≡ from n a - from n b
  from_above (pos a) (pos zero) p q = omega arith
  from_above (pos a) (pos (suc b)) p q = omega (arith, above_sub a (suc b))
  from_above (pos a) (negsuc b) p q = omega arith
  from_above (negsuc a) (pos zero) p q = omega (arith, above_sub 0 (suc a))
  from_above (negsuc a) (pos (suc b)) p q = omega arith
  from_above (negsuc a) (negsuc b) p q = omega (arith, above_sub (suc b) (suc a))

  pub from_abs : (a b : ℤ) → mag a < n → mag b < n → nat_abs (a -ℤ b) ≡ (from n a - from n b) + (from n b - from n a)
  from_abs (pos a) (pos zero) p q = omega arith
  from_abs (pos a) (pos (suc b)) p q = omega (arith, abs_sub a (suc b))
  from_abs (pos a) (negsuc b) p q = omega arith
  from_abs (negsuc a) (pos zero) p q = omega (arith, abs_sub 0 (suc a))
  from_abs (negsuc a) (pos (suc b)) p q = omega arith
  from_abs (negsuc a) (negsuc b) p q = omega (arith, abs_sub (suc b) (suc a))

  pub from_le : (a b : ℤ) → mag a < n → mag b < n → le_z a b ≡ true → from n a ≤ from n b
  from_le (pos a) (pos b) p q h = omega (arith, leb-true a b h)
  from_le (pos a) (negsuc b) p q h = absurd (let z : ◌≡◌ {A = ℕ} 0 1 = cc in omega arith)
  from_le (negsuc a) (pos b) p q h = omega arith
  from_le (negsuc a) (negsuc b) p q h = omega (arith, leb-true b a h)

  pub from_lt : (a b : ℤ) → mag a < n → mag b < n → le_z a b ≡ false → from n b < from n a
  from_lt (pos a) (pos b) p q h = omega (arith, leb-false a b h)
  from_lt (pos a) (negsuc b) p q h = omega arith
  from_lt (negsuc a) (pos b) p q h = absurd (let z : ◌≡◌ {A = ℕ} 0 1 = cc in omega arith)
  from_lt (negsuc a) (negsuc b) p q h = omega (arith, leb-false b a h)
