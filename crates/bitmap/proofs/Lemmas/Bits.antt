-- The bits of a number: those of a sum of a low and a high part, and that they determine the number. Assumes nothing.
use Rattle.std.specs.Prelude.{ℕ, zero, suc, ◌+◌, ◌-◌, ◌*◌, ◌/◌, ◌%◌, ◌^◌, ◌≤◌, ◌<◌, ◌≡◌}
use Rattle.std.proofs.Common.{sym, ap, ◌∙◌, mul_assoc, pow-suc, zero-add, lt_of_lt_of_le, one-add, arith, pow-add, pow_pos, pow_mono, shr-shr}
use Rattle.std.proofs.Math.Nat.{div-eq_of_lt, add-mul-div_right, add-mul-mod_self_right}
use Rattle.std.proofs.Math.Pow.{field}
use Rattle.bitmap.specs.Facts.{bit_of}

pub bit_shift : (n j i : ℕ) → bit_of (n / 2 ^ j) i ≡ bit_of n (j + i)
bit_shift n j i = ap (λ (x : ℕ). x % 2) (shr-shr n j i)

pub bit_half : (n i : ℕ) → bit_of (n / 2) i ≡ bit_of n (suc i)
bit_half n i = bit_shift n 1 i ∙ ap (bit_of n) (one-add i)

pub half_small : (k n : ℕ) → n < 2 ^ suc k → n / 2 < 2 ^ k
half_small k n h = let e = pow-suc 2 k in omega arith

-- a number below 2 ^ j has no set bit from j on
pub bit_past : (n j i : ℕ) → n < 2 ^ j → j ≤ i → bit_of n i ≡ 0
bit_past n j i h k = ap (λ (x : ℕ). x % 2) (div-eq_of_lt (lt_of_lt_of_le h (pow_mono k)))

pub no_bit : (n i : ℕ) → n ≡ 0 → bit_of n i ≡ 0
no_bit n i z = bit_past n 0 i (omega arith) (omega arith)

-- a bit depends on the lower part of the number alone
low_part : (n i : ℕ) → n % 2 ^ suc i / 2 ^ i ≡ bit_of n i
low_part n i = rw (← one-add i) (field n 1 i)

pub bit_low : (w lo hi i : ℕ) → i < w → bit_of (lo + hi * 2 ^ w) i ≡ bit_of lo i
bit_low w lo hi i h =
    let e : w ≡ w - suc i + suc i = omega arith in
    let split : 2 ^ w ≡ 2 ^ (w - suc i) * 2 ^ suc i = ap (λ (x : ℕ). 2 ^ x) e ∙ pow-add 2 (w - suc i) (suc i) in
    let same : (lo + hi * 2 ^ w) % 2 ^ suc i ≡ lo % 2 ^ suc i = rw (split, ← mul_assoc, add-mul-mod_self_right) in
    sym (low_part (lo + hi * 2 ^ w) i) ∙ ap (λ (x : ℕ). x / 2 ^ i) same ∙ low_part lo i

pub bit_high : (w lo hi i : ℕ) → lo < 2 ^ w → bit_of (lo + hi * 2 ^ w) (w + i) ≡ bit_of hi i
bit_high w lo hi i h =
    let d : (lo + hi * 2 ^ w) / 2 ^ w ≡ hi = rw (add-mul-div_right lo hi (pow_pos w), div-eq_of_lt h) (zero-add hi) in
    sym (bit_shift (lo + hi * 2 ^ w) w i) ∙ ap (λ (x : ℕ). bit_of x i) d

-- two numbers of k bits are equal where their bits are
pub bits_same : (k a b : ℕ) → a < 2 ^ k → b < 2 ^ k → ((i : ℕ) → i < k → bit_of a i ≡ bit_of b i) → a ≡ b
bits_same zero a b p q h = omega arith
bits_same (suc k) a b p q h =
    let high = bits_same k (a / 2) (b / 2) (half_small k a p) (half_small k b q) rest in
    omega (arith, h 0 (omega arith), high)
  where
    rest : (i : ℕ) → i < k → bit_of (a / 2) i ≡ bit_of (b / 2) i
    rest i l = bit_half a i ∙ h (suc i) (omega arith) ∙ sym (bit_half b i)
