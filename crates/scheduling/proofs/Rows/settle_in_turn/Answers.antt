-- `scheduling::Rows::settle_in_turn` meets its contract: each turn settles one mark more, in the order of rank. Assumes nothing.
use native.Mathlib.Omega.{arith}
use Rattle.scheduling.proofs.Progress.{start, advance, finish}
use Rattle.scheduling.proofs.Rows.settle_in_turn.Goals as goal

pub loop-p-init : goal.loop-p-init
loop-p-init c = start _ _ _

pub loop-p-preserved : goal.loop-p-preserved
loop-p-preserved c = advance c.loop-p-test.true c.loop-p.invariant c.settle.ensures

pub returns : goal.returns
returns c = finish (omega arith) c.loop-p.invariant
