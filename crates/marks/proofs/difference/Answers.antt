-- `marks::difference` meets its contract: two places of 16 bits have a difference that 32 bits hold. Assumes nothing.
use mathlib.Core.Path.{◌∙◌}
use mir.Syntax.{w32}
use mir.Facts.{to_z-of_z}
use Rattle.marks.proofs.Signed.{widens, widened, difference_fits}
use Rattle.marks.proofs.difference.Goals as goal

pub overflow_cast-result : goal.overflow_cast-result
overflow_cast-result c = widens w32 tt c.ranges.a

pub overflow_cast-result-2 : goal.overflow_cast-result-2
overflow_cast-result-2 c = widens w32 tt c.ranges.b

-- both casts read the places back, and their difference fits
pub overflow_sub-result : goal.overflow_sub-result
overflow_sub-result c =
    rw (widened w32 tt c.ranges.a, widened w32 tt c.ranges.b) (difference_fits c.ranges.a c.ranges.b)

pub returns : goal.returns
returns c = to_z-of_z (overflow_sub-result c) ∙ rw (widened w32 tt c.ranges.a, widened w32 tt c.ranges.b)
