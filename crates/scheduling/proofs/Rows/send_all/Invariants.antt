-- The loop's invariant: the slots of the rows before q are filled.
use Rattle.scheduling.specs.Sending.{Spread}
use Rattle.scheduling.proofs.Rows.send_all.Given as goal

abbrev pub invariant-loop-q : goal.invariant-loop-q
invariant-loop-q l = Spread l.w l.fn.self.count l.q l.initial.out l.out
