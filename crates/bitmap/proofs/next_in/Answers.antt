-- `bitmap::next_in` meets its contract: it counts the zeros below a set bit, as Machine says. Assumes nothing.
use native.Mathlib.Omega.{arith}
use Rattle.bitmap.proofs.Machine.{no_next, is_next, next_inside}
use Rattle.bitmap.proofs.next_in.Goals as goal

pub returns-then-w-eq0-clause-next : goal.returns-then-w-eq0-clause-next
returns-then-w-eq0-clause-next c = no_next _ _ c.ranges.word.fits c.requires c.if-w-eq0.true

pub returns-clause-next : goal.returns-clause-next
returns-clause-next c = is_next _ _ c.ranges.word.fits c.requires c.if-w-eq0.false

pub returns-clause-inside : goal.returns-clause-inside
returns-clause-inside c = next_inside _ _ c.ranges.word.fits c.requires c.if-w-eq0.false

pub overflow_add-result : goal.overflow_add-result
overflow_add-result c = omega (arith, next_inside _ _ c.ranges.word.fits c.requires c.if-w-eq0.false)
