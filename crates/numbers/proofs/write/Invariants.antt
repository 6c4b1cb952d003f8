-- `numbers::write` meets its contract: the bytes left to write complete the result, as Turns says. Assumes nothing.
use Rattle.numbers.proofs.Turns.{Writing}
use Rattle.numbers.proofs.write.Given as goal

abbrev pub invariant-loop-j : goal.invariant-loop-j
invariant-loop-j l = Writing l.initial.s l.at l.width l.v l.s l.rest l.j
