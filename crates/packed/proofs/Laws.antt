-- Packed decimal read back and written back, and places as 16 bits.
use Rattle.std.specs.Prelude.{ℕ, zero, suc, ◌+◌, ◌-◌, ◌*◌, ◌/◌, ◌%◌, ◌<◌, ◌≤◌, ◌≡◌, Bool, cond, not, ◌&&◌, ◌||◌, [], ◌∷◌, leb, eqb, ℤ, pos, negsuc, neg_ℤ, nat_abs}
use Rattle.std.proofs.Math.Path.{refl}
use Rattle.std.proofs.Common.{sym, ap₂, ◌∙◌, arith}
use Rattle.std.proofs.Math.Bool.{true, false}
use Rattle.std.proofs.lemmas.Bool.{false≢true}
use Rattle.std.proofs.Math.Decide.{dec_lt}
use Rattle.std.proofs.Math.Dec.{eqb-suc-zero}
use Rattle.std.specs.Int.Signed.{mag}
use borrow.Author.Tests.{leb-true, eqb-true, lt-ltb, le-ltb, le-leb, lt-leb, eq-eqb}
use Rattle.lists.proofs.TestLaws.{both_iff}
use Rattle.numbers.specs.Little.{signed}
use Rattle.marks.specs.Marks.{place_bits}
use Rattle.packed.specs.Packed.{magnitude, is_minus, with_sign, packed_value, coordinate_at, are_digits, is_last, is_packed, packed_at, is_place, packed_of, packed}

-- ---- the tests as statements

digits_of : (b : ℕ) → are_digits b ≡ true → (b / 16 ≤ 9) × (b % 16 ≤ 9)
unfolding are_digits
digits_of b e =
    let p = (both_iff (leb (b / 16) 9) _).0 e in (leb-true (b / 16) 9 p.0, leb-true (b % 16) 9 p.1)

of_digits : (b : ℕ) → (b / 16 ≤ 9) × (b % 16 ≤ 9) → are_digits b ≡ true
unfolding are_digits
of_digits b p = (both_iff (leb (b / 16) 9) _).1 (le-leb (b / 16) 9 p.0, le-leb (b % 16) 9 p.1)

-- the sign is the one that `is_minus` tells
sign_of : (c : ℕ) (minus : Bool) → is_minus c ≡ minus → is_last c ≡ true → (c / 16 ≤ 9) × (c % 16 ≡ cond minus 13 12)
unfolding is_last is_minus
sign_of c true e h =
    (leb-true (c / 16) 9 ((both_iff (leb (c / 16) 9) _).0 h).0, eqb-true (c % 16) 13 e)
sign_of c false e h =
    let p = (both_iff (leb (c / 16) 9) _).0 h in
    (leb-true (c / 16) 9 p.0, go (eqb (c % 16) 12) refl p.1)
  where
    go : (t : Bool) → eqb (c % 16) 12 ≡ t → t || eqb (c % 16) 13 ≡ true → c % 16 ≡ 12
    go true f q = eqb-true (c % 16) 12 f
    go false f q = absurd (false≢true (sym e ∙ q))

-- ---- what is read is written back

-- the digits of a number that is made of five
digits_out : (d₀ d₁ d₂ d₃ d₄ m : ℕ) → d₀ ≤ 9 → d₁ ≤ 9 → d₂ ≤ 9 → d₃ ≤ 9 → d₄ ≤ 9
    → m ≡ 10000 * d₀ + (1000 * d₁ + (100 * d₂ + (10 * d₃ + d₄)))
    → (m / 10000 % 10 ≡ d₀) × (m / 1000 % 10 ≡ d₁) × (m / 100 % 10 ≡ d₂) × (m / 10 % 10 ≡ d₃) × (m % 10 ≡ d₄)
digits_out d₀ d₁ d₂ d₃ d₄ m h₀ h₁ h₂ h₃ h₄ e =
    let e₀ : m / 10000 ≡ d₀ = omega arith in
    let e₁ : m / 1000 ≡ 10 * d₀ + d₁ = omega arith in
    let e₂ : m / 100 ≡ 100 * d₀ + 10 * d₁ + d₂ = omega arith in
    let e₃ : m / 10 ≡ 1000 * d₀ + 100 * d₁ + 10 * d₂ + d₃ = omega arith in
    (rw e₀ (omega arith), rw e₁ (omega arith), rw e₂ (omega arith), rw e₃ (omega arith), rw e (omega arith))

digits_back : (a b c sign : ℕ) → (a / 16 ≤ 9) × (a % 16 ≤ 9) → (b / 16 ≤ 9) × (b % 16 ≤ 9) → (c / 16 ≤ 9) × (c % 16 ≡ sign)
    → packed_of (magnitude a b c) sign ≡ a ∷ b ∷ c ∷ []
unfolding magnitude packed_of
digits_back a b c sign p q r =
    let d = digits_out (a / 16) (a % 16) (b / 16) (b % 16) (c / 16) _ p.0 p.1 q.0 q.1 r.0 refl in
    rw (d.0, d.1, d.2, d.3, d.4) (ap₂ ◌∷◌ (omega arith) (ap₂ ◌∷◌ (omega arith) (ap₂ ◌∷◌ (omega arith) refl)))

minus_packed : (m : ℕ) → (m ≡ 0 → ⊥) → packed (neg_ℤ (pos m)) ≡ packed_of m 13
minus_packed zero h = absurd (h refl)
minus_packed (suc m) h = refl

-- Three bytes that are packed decimal are that form of the number that they hold.
pub packed_back : (a b c : ℕ) → is_packed a b c ≡ true → packed (packed_value a b c) ≡ a ∷ b ∷ c ∷ []
unfolding is_packed with_sign
packed_back a b c e =
    let p = (both_iff (are_digits a && are_digits b) _).0 e in
    let q = (both_iff (are_digits a) _).0 p.0 in
    let r = (both_iff (is_last c) _).0 p.1 in
    go (is_minus c) refl (digits_of a q.0) (digits_of b q.1) r.0 r.1
  where
    go : (t : Bool) → is_minus c ≡ t → (a / 16 ≤ 9) × (a % 16 ≤ 9) → (b / 16 ≤ 9) × (b % 16 ≤ 9) → is_last c ≡ true
        → not (t && eqb (magnitude a b c) 0) ≡ true → packed (cond t (neg_ℤ (pos (magnitude a b c))) (pos (magnitude a b c))) ≡ a ∷ b ∷ c ∷ []
    go true f x y l z =
        minus_packed (magnitude a b c) (λ n. false≢true (rw (eq-eqb (magnitude a b c) 0 n) at z)) ∙ digits_back a b c 13 x y (sign_of c true f l)
    go false f x y l z = digits_back a b c 12 x y (sign_of c false f l)

-- ---- what is written is read back

-- the digits of a number below 100,000 make it again
digits_in : (m : ℕ) → m < 100000
    → 10000 * (m / 10000 % 10) + (1000 * (m / 1000 % 10) + (100 * (m / 100 % 10) + (10 * (m / 10 % 10) + m % 10))) ≡ m
digits_in m h =
    let e₁ : m / 1000 ≡ 10 * (m / 10000) + m / 1000 % 10 = omega arith in
    let e₂ : m / 100 ≡ 10 * (m / 1000) + m / 100 % 10 = omega arith in
    let e₃ : m / 10 ≡ 10 * (m / 100) + m / 10 % 10 = omega arith in
    let e₄ : m ≡ 10 * (m / 10) + m % 10 = omega arith in
    let e₀ : m / 10000 % 10 ≡ m / 10000 = omega arith in
    omega arith

halves : (d e : ℕ) → e < 16 → ((16 * d + e) / 16 ≡ d) × ((16 * d + e) % 16 ≡ e)
halves d e h = (omega arith, omega arith)

-- the three bytes
module _ (m sign : ℕ) (small : m < 100000) (half : sign < 16) where
  abbrev a : ℕ
  a = 16 * (m / 10000 % 10) + m / 1000 % 10

  abbrev b : ℕ
  b = 16 * (m / 100 % 10) + m / 10 % 10

  abbrev c : ℕ
  c = 16 * (m % 10) + sign

  magnitude_back : magnitude a b c ≡ m
  unfolding magnitude
  magnitude_back =
      let p = halves (m / 10000 % 10) (m / 1000 % 10) (omega arith) in
      let q = halves (m / 100 % 10) (m / 10 % 10) (omega arith) in
      rw (p.0, p.1, q.0, q.1, (halves (m % 10) sign half).0) (digits_in m small)

  digits_made : are_digits a && are_digits b ≡ true
  digits_made =
      let p = halves (m / 10000 % 10) (m / 1000 % 10) (omega arith) in
      let q = halves (m / 100 % 10) (m / 10 % 10) (omega arith) in
      (both_iff (are_digits a) _).1 (
        of_digits a (rw p.0 (omega arith), rw p.1 (omega arith)),
        of_digits b (rw q.0 (omega arith), rw q.1 (omega arith)),
      )

  sign_back : c % 16 ≡ sign
  sign_back = (halves (m % 10) sign half).1

  last_made : is_minus c || eqb sign 12 ≡ true → is_last c ≡ true
  unfolding is_last is_minus
  last_made h =
      let e = halves (m % 10) sign half in
      rw (e.0, e.1, le-leb (m % 10) 9 (omega arith)) (turn (eqb sign 12) (eqb sign 13) (rw e.1 at h))
    where
      turn : (x y : Bool) → y || x ≡ true → x || y ≡ true
      turn true y p = refl
      turn false true p = refl
      turn false false p = p

minus_of : (c : ℕ) {sign : ℕ} → c % 16 ≡ sign → is_minus c ≡ eqb sign 13
unfolding is_minus
minus_of c e = rw e

pub place_mag : (z : ℤ) → is_place z ≡ true → mag z < 32768
unfolding is_place
place_mag (pos n) e = omega (arith, leb-true n 32767 e)
place_mag (negsuc n) e = omega (arith, leb-true n 32767 ((both_iff (leb n 32767) true).0 e).0)

-- a place has five digits at the most
pub place_short : (z : ℤ) → is_place z ≡ true → nat_abs z ≤ 99999
place_short (pos n) e = omega (arith, place_mag (pos n) e)
place_short (negsuc n) e = omega (arith, place_mag (negsuc n) e)

pub mag_place : (z : ℤ) → mag z < 32768 → is_place z ≡ true
unfolding is_place
mag_place (pos n) h = le-leb n 32767 (omega arith)
mag_place (negsuc n) h = (both_iff (leb n 32767) true).1 (le-leb n 32767 (omega arith), refl)

-- A number of five digits as packed decimal passes 15, and is read back.
pub packed_read : (z : ℤ) → nat_abs z ≤ 99999 → (packed_at (packed z) 0 ≡ true) × (coordinate_at (packed z) 0 ≡ z)
unfolding is_packed packed_of with_sign
packed_read (pos n) e =
    let small : n < 100000 = omega (arith, e) in
    let m = minus_of (c n 12 small (omega arith)) (sign_back n 12 small (omega arith)) in
    let g = magnitude_back n 12 small (omega arith) in
    let l = last_made n 12 small (omega arith) (rw m) in
    (rw (digits_made n 12 small (omega arith), l, m), rw (m, g))
packed_read (negsuc n) e =
    let small : suc n < 100000 = omega (arith, e) in
    let m = minus_of (c (suc n) 13 small (omega arith)) (sign_back (suc n) 13 small (omega arith)) in
    let g = magnitude_back (suc n) 13 small (omega arith) in
    let l = last_made (suc n) 13 small (omega arith) (rw m) in
    (rw (digits_made (suc n) 13 small (omega arith), l, m, g, eqb-suc-zero n), rw (m, g))

-- ---- places as 16 bits

pub signed_place : (u : ℕ) → u < 65536 → is_place (signed 2 u) ≡ true
signed_place u h =
    elim (dec_lt u 32768) [
      | yes l ↦ rw (lt-ltb u 32768 l) (mag_place (pos u) l)
      | no l ↦ rw (le-ltb u 32768 (omega arith)) (mag_place (negsuc (65536 - suc u)) (omega arith))
    ]

-- ---- by sign and magnitude, as the code has them

pub place_minus : (m : ℕ) → is_place (with_sign true m) ≡ leb m 32768
unfolding is_place with_sign
place_minus zero = refl
place_minus (suc m) =
    elim (dec_lt m 32768) [
      | yes l ↦ rw (le-leb m 32767 (omega arith)) (sym (le-leb (suc m) 32768 (omega arith)))
      | no l ↦ rw (lt-leb m 32767 (omega arith)) (sym (lt-leb (suc m) 32768 (omega arith)))
    ]

pub place_plus : (m : ℕ) → is_place (with_sign false m) ≡ leb m 32767
unfolding is_place with_sign
place_plus m = refl

pub bits_minus : (m : ℕ) → m ≤ 32768 → place_bits (with_sign true m) ≡ (65536 - m) % 65536
unfolding place_bits with_sign
bits_minus zero h = refl
bits_minus (suc m) h = omega arith

pub bits_plus : (m : ℕ) → place_bits (with_sign false m) ≡ m
unfolding place_bits with_sign
bits_plus m = refl

-- 16 bits as sign and magnitude
pub packed_low : (u : ℕ) → u < 32768 → packed (signed 2 u) ≡ packed_of u 12
packed_low u h = rw (lt-ltb u 32768 h)

pub packed_high : (u : ℕ) → 32768 ≤ u → u < 65536 → packed (signed 2 u) ≡ packed_of (65536 - u) 13
packed_high u h l =
    let e : suc (65536 - suc u) ≡ 65536 - u = omega arith in
    rw (le-ltb u 32768 h, ← e)

-- which of the two `bits_of` takes
pub minus_small : {minus : Bool} (m : ℕ) → minus ≡ true → is_place (with_sign minus m) ≡ true → m ≤ 32768
minus_small m e h = leb-true m 32768 (sym (place_minus m) ∙ (rw e at h))

pub bits_taken : {minus : Bool} (m : ℕ) → minus ≡ true → is_place (with_sign minus m) ≡ true → (65536 - m) % 65536 ≡ place_bits (with_sign minus m)
bits_taken m e h = let s = minus_small m e h in rw e (sym (bits_minus m s))

pub bits_left : {minus : Bool} (m : ℕ) → minus ≡ false → m ≡ place_bits (with_sign minus m)
bits_left m e = rw e (sym (bits_plus m))
