-- The loop's invariant: the rows before q are written, and the other keys stay.
use Rattle.scheduling.specs.Filling.{RowsPut}
use Rattle.scheduling.proofs.put_rows.Given as goal

abbrev pub invariant-loop-q : goal.invariant-loop-q
invariant-loop-q l = RowsPut l.reel.marks.now l.reel.popups.now l.reel.count l.q l.initial.work l.work
