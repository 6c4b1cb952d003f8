-- `packed::bits_of`: a number below zero counts down from 65,536. Assumes nothing.
use Rattle.packed.proofs.Laws.{minus_small, bits_taken, bits_left}
use native.Mathlib.Omega.{arith}
use Rattle.packed.proofs.bits_of.Goals as goal

pub overflow_sub-result : goal.overflow_sub-result
overflow_sub-result c = omega (arith, minus_small c.args.m c.if-minus.true c.requires)

pub returns-then-minus : goal.returns-then-minus
returns-then-minus c = bits_taken c.args.m c.if-minus.true c.requires

pub returns : goal.returns
returns c = bits_left c.args.m c.if-minus.false
