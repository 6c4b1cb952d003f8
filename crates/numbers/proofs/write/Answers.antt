-- `numbers::write` meets its contract: the bytes left to write complete the result, as Turns says. Assumes nothing.
use native.Mathlib.Omega.{arith}
use Rattle.numbers.proofs.Turns.{write_more, write_all}
use Rattle.numbers.proofs.write.Goals as goal

pub loop-j-preserved : goal.loop-j-preserved
loop-j-preserved c = write_more c.loop-j.invariant (omega arith)

pub returns : goal.returns
returns c = write_all c.loop-j.invariant (omega arith)
