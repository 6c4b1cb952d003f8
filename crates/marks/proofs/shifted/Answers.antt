-- `marks::shifted` meets its contract: 32 bits hold the sum, which is not negative. Assumes nothing.
use Prim.Native.Nat.{suc, ◌<◌}
use mathlib.Core.Path.{◌≡◌, refl, ◌∙◌}
use native.Mathlib.Omega.{arith}
use borrow.Author.Tests.{le-ltb}
use lib.IntN.{ℤ, pos, negsuc, ◌+ℤ◌}
use mir.Syntax.{w16, w32}
use mir.Val.{SFits, to_z, of_z}
use mir.Facts.{sfits_widen, to_z-of_z}
use Rattle.marks.specs.Marks.{shifted}
use Rattle.marks.proofs.shifted.Goals as goal

sum_is : (x : ℤ) → SFits w16 x → x +ℤ pos 32768 ≡ pos (shifted x)
sum_is (pos a) f = refl
sum_is (negsuc a) f = rw (le-ltb 32768 (suc a) (omega (arith, f.sfits)))

small : (x : ℤ) → SFits w16 x → shifted x < 65536
small (pos a) f = omega (arith, f.sfits)
small (negsuc a) f = omega arith

-- x as the machine keeps it, cast to 32 bits, and the sum
module _ (x : ℤ) (f : SFits w16 x) where
  wide_fits : SFits w32 (to_z w16 (of_z w16 x))
  wide_fits = rw (to_z-of_z f) (sfits_widen tt f)

  wide_sum : to_z w32 (of_z w32 (to_z w16 (of_z w16 x))) +ℤ pos 32768 ≡ pos (shifted x)
  wide_sum = rw (to_z-of_z wide_fits, to_z-of_z f) (sum_is x f)

  sum_fits : SFits w32 (to_z w32 (of_z w32 (to_z w16 (of_z w16 x))) +ℤ pos 32768)
  sum_fits = rw wide_sum (record { sfits = omega (arith, small x f) })

  back : to_z w32 (of_z w32 (to_z w32 (of_z w32 (to_z w16 (of_z w16 x))) +ℤ pos 32768)) ≡ pos (shifted x)
  back = to_z-of_z sum_fits ∙ wide_sum

pub overflow_cast-result : goal.overflow_cast-result
overflow_cast-result c = wide_fits c.args.v c.ranges.v

pub overflow_add-result : goal.overflow_add-result
overflow_add-result c = sum_fits c.args.v c.ranges.v

pub overflow_cast-result-2 : goal.overflow_cast-result-2
overflow_cast-result-2 c = rw (back c.args.v c.ranges.v) (tt, record { fits = omega (arith, small c.args.v c.ranges.v) })

pub returns : goal.returns
returns c = rw (back c.args.v c.ranges.v) refl
