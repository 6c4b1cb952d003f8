-- The loop's invariant: the keys of the marks before i are written.
use Rattle.scheduling.specs.Filling.{Keyed}
use Rattle.scheduling.proofs.put_keys.Given as goal

abbrev pub invariant-loop-i : goal.invariant-loop-i
invariant-loop-i l = Keyed l.reel.edition l.reel.marks.now l.reel.count l.i l.initial.work l.work
