-- `reaching::shifted` meets its contract: 32 bits hold the sum, which is not negative. Assumes nothing.
use Prim.Native.Nat.{suc}
use mathlib.Core.Path.{◌≡◌, refl, ◌∙◌}
use native.Mathlib.Omega.{arith}
use borrow.Author.Tests.{le-ltb}
use lib.IntN.{ℤ, pos, negsuc, ◌+ℤ◌}
use mir.Syntax.{w32}
use mir.Val.{SFits, to_z, of_z}
use mir.Facts.{to_z-of_z}
use Rattle.marks.specs.Marks.{shifted}
use Rattle.reaching.specs.Questions.{IsEdge}
use Rattle.reaching.proofs.Lemmas.Edges.{edge_abs, edge_shifted}
use Rattle.reaching.proofs.shifted.Goals as goal

sum_is : (x : ℤ) → IsEdge x → x +ℤ pos 32768 ≡ pos (shifted x)
sum_is (pos a) e = refl
sum_is (negsuc a) e = rw (le-ltb 32768 (suc a) (omega (arith, edge_abs (negsuc a) e)))

module _ (x : ℤ) (f : SFits w32 x) (edge : IsEdge x) where
  sum : to_z w32 (of_z w32 x) +ℤ pos 32768 ≡ pos (shifted x)
  sum = rw (to_z-of_z f) (sum_is x edge)

  sum_fits : SFits w32 (to_z w32 (of_z w32 x) +ℤ pos 32768)
  sum_fits = rw sum (record { sfits = omega (arith, edge_shifted x edge) })

  back : to_z w32 (of_z w32 (to_z w32 (of_z w32 x) +ℤ pos 32768)) ≡ pos (shifted x)
  back = to_z-of_z sum_fits ∙ sum

pub overflow_add-result : goal.overflow_add-result
overflow_add-result c = sum_fits c.args.v c.ranges.v c.requires

pub overflow_cast-result : goal.overflow_cast-result
overflow_cast-result c = rw (back c.args.v c.ranges.v c.requires) (tt, record { fits = omega (arith, edge_shifted c.args.v c.requires) })

pub returns : goal.returns
returns c = rw (back c.args.v c.ranges.v c.requires) refl
