-- 02, request 7: the removal zoom as the printed schedule has it.
use Rattle.std.specs.Prelude.{◌≡◌, ℕ, zero, suc, ◌+◌, ◌-◌, ◌*◌, ◌/◌, ◌%◌, ◌<◌, ◌≤◌, cond, ◌&&◌, ◌==◌, nat_le}
use Rattle.fractions.specs.declared.Fraction.{Fraction}

-- ---- the nearest 64th

-- "the removal zoom to the nearest 64th, an exact half to the even number": 64 times the true zoom, whose square is 4096 num / den, lies from
-- k - 1/2 to k + 1/2, and where it is one of these, k is even. Over squares, times 4 den; Laws has that there is exactly one such k.
pub record Nearest (f : Fraction) (k : ℕ) : Type 0 where
  pub low : 0 < k → (2 * k - 1) * (2 * k - 1) * f.den ≤ 16384 * f.num
  pub high : 16384 * f.num ≤ (2 * k + 1) * (2 * k + 1) * f.den
  pub low_even : 0 < k → (2 * k - 1) * (2 * k - 1) * f.den ≡ 16384 * f.num → k % 2 ≡ 0
  pub high_even : 16384 * f.num ≡ (2 * k + 1) * (2 * k + 1) * f.den → k % 2 ≡ 0

-- ---- the same by computing

-- the root of v from that of v / 4: doubled, and one more where that fits
unfoldable pub root_step : ℕ → ℕ → ℕ
root_step r v = cond (nat_le ((2 * r + 1) * (2 * r + 1)) v) (2 * r + 1) (2 * r)

-- the largest r with r² ≤ v, for v below 4 to the power `width`
unfoldable pub root : ℕ → ℕ → ℕ
root zero v = 0
root (suc width) v = root_step (root width (v / 4)) v

-- From h, the zoom in 128ths cut off to a whole number: half of it, an odd one rounded up, but down where it is an exact half above an even number.
unfoldable pub nearest_from : Fraction → ℕ → ℕ
nearest_from f h = cond (h % 4 == 1 && h * h * f.den == 16384 * f.num) (h / 2) ((h + 1) / 2)

-- the k of `Nearest`
unfoldable pub nearest : Fraction → ℕ
nearest f = nearest_from f (root 32 (16384 * f.num / f.den))

-- ---- what it means

-- a / b is at most, and at least, 64 times the true zoom
pub record AtMostZoom (f : Fraction) (a b : ℕ) : Type 0 where
  pub cross : a * a * f.den ≤ 4096 * f.num * (b * b)

pub record AtLeastZoom (f : Fraction) (a b : ℕ) : Type 0 where
  pub cross : 4096 * f.num * (b * b) ≤ a * a * f.den

-- "The printed value differs from 64 times the true zoom by at most a half, stated over squares": every fraction up to 64 times the true zoom
-- is at most k + 1/2, and every one from there on at least k - 1/2.
pub record WithinHalf (f : Fraction) (k : ℕ) : Type 0 where
  pub below : (a b : ℕ) → AtMostZoom f a b → 2 * a ≤ (2 * k + 1) * b
  pub above : (a b : ℕ) → AtLeastZoom f a b → 2 * k * b ≤ 2 * a + b

-- No other number is nearer: 64 times the true zoom is not beyond the middle between it and k.
pub record NoneNearer (f : Fraction) (k : ℕ) : Type 0 where
  pub larger : (j : ℕ) → k < j → 16384 * f.num ≤ (j + k) * (j + k) * f.den
  pub smaller : (j : ℕ) → j < k → (j + k) * (j + k) * f.den ≤ 16384 * f.num
