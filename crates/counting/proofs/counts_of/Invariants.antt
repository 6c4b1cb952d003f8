-- `counting::counts_of` meets its contract: the tables hold the marks before m; then the cells that are passed are counts, and are written. Assumes nothing.
use Rattle.counting.specs.Steps.{Entered}
use Rattle.counting.proofs.Lemmas.Adding.{Added}
use Rattle.counting.proofs.counts_of.Given as goal

abbrev pub invariant-loop-m : goal.invariant-loop-m
invariant-loop-m l = Entered l.marks l.schedule l.popups l.m l.table l.ends

abbrev pub invariant-loop-i : goal.invariant-loop-i
invariant-loop-i l = Added l.marks l.schedule l.popups l.n l.table l.ends l.counts l.i
