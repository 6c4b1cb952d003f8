-- The loop's invariant: the marks of the rows before p are settled.
use Rattle.scheduling.proofs.Progress.{Progress}
use Rattle.scheduling.proofs.Rows.settle_in_turn.Given as goal

abbrev pub invariant-loop-p : goal.invariant-loop-p
invariant-loop-p l = Progress l.self.shape l.self.count l.p l.initial.w l.w
