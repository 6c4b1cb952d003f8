-- What the machine makes of small products and their sum, which it keeps as bits. Assumes nothing.
use Prim.Native.Nat.{◌<◌, ◌≤◌}
use mathlib.Core.List.{List}
use mathlib.Core.Path.{◌≡◌, ap₂, ◌∙◌}
use native.Mathlib.Omega.{arith}
use native.Mathlib.Nat.{mul-le-mul}
use borrow.Author.Rules.{sfits_of}
use lib.IntN.{ℤ, nat_abs, ◌+ℤ◌, ◌*ℤ◌}
use lib.Signed.{mag}
use mir.Syntax.{w32}
use mir.Val.{SFits, to_z, of_z}
use mir.Facts.{to_z-of_z}
use Rattle.turns.specs.Turns.{row_by_column}
use Rattle.turns.specs.Small.{UpTo}
use Rattle.turns.proofs.Lemmas.Whole.{abs_times, abs_sum, mag_abs}
use Rattle.turns.proofs.Lemmas.Quarters.{up_to_grows}

fits_of : (z : ℤ) → nat_abs z ≤ 2147483647 → SFits w32 z
fits_of z h = record { sfits = omega (arith, mag_abs z) }

-- a number as the machine has it
abbrev read : ℤ → ℤ
read z = to_z w32 (of_z w32 z)

pub back : {z : ℤ} → UpTo 65536 z → read z ≡ z
back {z} h = to_z-of_z (fits_of z (omega (arith, h.most)))

pub back_small : {z : ℤ} → UpTo 65536 z → UpTo 65536 (read z)
back_small h = rw (back h) h

-- an entry is smaller than a place
pub as_place : {z : ℤ} → UpTo 16383 z → UpTo 65536 z
as_place h = up_to_grows (omega arith) h

-- as one call returns it, and the next place reads it
pub passed : {z v : ℤ} → mag z < 2147483648 → z ≡ v → read z ≡ v
passed h e = to_z-of_z {w = w32} (sfits_of h) ∙ e

-- ---- a product

module _ {p u : ℤ} (hp : UpTo 16383 p) (hu : UpTo 65536 u) where
  most : nat_abs (p *ℤ u) ≤ 1073676288
  most = rw (abs_times p u) (mul-le-mul hp.most hu.most)

  is : read p *ℤ read u ≡ p *ℤ u
  is = ap₂ ◌*ℤ◌ (back (as_place hp)) (back hu)

  pub product_fits : SFits w32 (read p *ℤ read u)
  product_fits = rw is (fits_of (p *ℤ u) (omega (arith, most)))

  product_back : read (read p *ℤ read u) ≡ p *ℤ u
  product_back = to_z-of_z product_fits ∙ is

-- ---- the sum of two

module _ {p q u v : ℤ} (hp : UpTo 16383 p) (hq : UpTo 16383 q) (hu : UpTo 65536 u) (hv : UpTo 65536 v) where
  sum_is : read (read p *ℤ read u) +ℤ read (read q *ℤ read v) ≡ p *ℤ u +ℤ q *ℤ v
  sum_is = ap₂ ◌+ℤ◌ (product_back hp hu) (product_back hq hv)

  pub sum_fits : SFits w32 (read (read p *ℤ read u) +ℤ read (read q *ℤ read v))
  sum_fits = rw sum_is (fits_of (p *ℤ u +ℤ q *ℤ v) (omega (arith, abs_sum (p *ℤ u) (q *ℤ v), most hp hu, most hq hv)))

  pub sum_back : read (read (read p *ℤ read u) +ℤ read (read q *ℤ read v)) ≡ p *ℤ u +ℤ q *ℤ v
  sum_back = to_z-of_z sum_fits ∙ sum_is

-- ---- what a call of `row_by_column` gives

pub row_told : (row : List ℤ) {u v r : ℤ} → UpTo 65536 u → UpTo 65536 v → mag r < 2147483648 → r ≡ row_by_column row (read u) (read v)
    → read r ≡ row_by_column row u v
row_told row hu hv ok e = passed ok (e ∙ ap₂ (λ x y. row_by_column row x y) (back hu) (back hv))
