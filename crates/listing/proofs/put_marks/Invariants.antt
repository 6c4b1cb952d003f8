-- `listing::put_marks` meets its contract: while the loop runs, the lines of the marks before m are written. Assumes nothing.
use Rattle.text.specs.Text.{Wrote}
use Rattle.listing.specs.Lines.{mark_lines}
use Rattle.listing.specs.Listed.{removal_at}
use Rattle.listing.proofs.put_marks.Given as goal

abbrev pub invariant-loop-m : goal.invariant-loop-m
invariant-loop-m l = Wrote l.initial.out l.out l.at (mark_lines (removal_at l.schedule) l.m) l.next
