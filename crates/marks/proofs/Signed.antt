-- What the machine makes of signed places, their differences and their squares, which it keeps as bits. Assumes nothing.
use Prim.Native.Nat.{◌*◌, ◌≤◌}
use mathlib.Core.Path.{◌≡◌, refl, ◌∙◌}
use native.Mathlib.Omega.{arith}
use native.Mathlib.Nat.{mul-le-mul}
use lib.Dec.{T, leb}
use lib.IntN.{ℤ, pos, negsuc, nat_abs, ◌-ℤ◌, ◌*ℤ◌}
use lib.Signed.{mag}
use mir.Syntax.{Width, w16, w32, w64}
use mir.Val.{hbits, SFits, to_z, of_z}
use mir.Facts.{sfits_widen, to_z-of_z}
use Rattle.marks.proofs.Laws.{difference_bound}

-- ---- a cast to a wider type keeps the number

module _ {w : Width} (w' : Width) {z : ℤ} (wider : T (leb (hbits w) (hbits w'))) (fits : SFits w z) where
  pub widens : SFits w' (to_z w (of_z w z))
  widens = rw (to_z-of_z fits) (sfits_widen wider fits)

  pub widened : to_z w' (of_z w' (to_z w (of_z w z))) ≡ z
  widened = to_z-of_z widens ∙ to_z-of_z fits

-- ---- a difference of places fits 32 bits

mag_le : (z : ℤ) → mag z ≤ nat_abs z
mag_le (pos n) = omega arith
mag_le (negsuc n) = omega arith

pub difference_fits : {a b : ℤ} → SFits w16 a → SFits w16 b → SFits w32 (a -ℤ b)
difference_fits {a} {b} p q = record { sfits = omega (arith, mag_le (a -ℤ b), difference_bound a b p q) }

-- ---- its square fits 64 bits and is not negative

abs_most : (d : ℤ) → SFits w32 d → nat_abs d ≤ 2147483648
abs_most (pos n) f = omega (arith, f.sfits)
abs_most (negsuc n) f = omega (arith, f.sfits)

pub square_most : (d : ℤ) → SFits w32 d → nat_abs d * nat_abs d ≤ 4611686018427387904
square_most d f = let h = abs_most d f in mul-le-mul h h

square_is : (d : ℤ) → d *ℤ d ≡ pos (nat_abs d * nat_abs d)
square_is (pos n) = refl
square_is (negsuc n) = refl

pub square_fits : (d : ℤ) → SFits w32 d → SFits w64 (d *ℤ d)
square_fits d f = rw (square_is d) (record { sfits = omega (arith, square_most d f) })

pub square_back : (d : ℤ) → SFits w32 d → to_z w64 (of_z w64 (d *ℤ d)) ≡ pos (nat_abs d * nat_abs d)
square_back d f = to_z-of_z (square_fits d f) ∙ square_is d

-- ---- what a call of `difference` gives, as the next call reads it

module _ {a b d : ℤ} (p : SFits w16 a) (q : SFits w16 b) (e : d ≡ to_z w16 (of_z w16 a) -ℤ to_z w16 (of_z w16 b)) where
  pub told : to_z w32 (of_z w32 d) ≡ a -ℤ b
  told = rw (e, to_z-of_z p, to_z-of_z q) (to_z-of_z (difference_fits p q))
