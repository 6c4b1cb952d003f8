-- `numbers::read` meets its contract: v stays the number of the bytes passed, as Turns says. Assumes nothing.
use Rattle.numbers.proofs.Turns.{Reading}
use Rattle.numbers.proofs.read.Given as goal

abbrev pub invariant-loop-j : goal.invariant-loop-j
invariant-loop-j l = Reading l.s l.at l.width l.v l.j
