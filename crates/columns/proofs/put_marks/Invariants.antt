-- `columns::put_marks` meets its contract: each turn writes one mark, and keeps its place. Assumes nothing.
use Rattle.std.proofs.Common.{◌*◌}
use Rattle.columns.specs.Columns.{mark_of, in_columns, places_by, sums, entry}
use Rattle.columns.specs.Steps.{Laid, Kept}
use Rattle.columns.proofs.put_marks.Given as goal

abbrev pub invariant-loop-m : goal.invariant-loop-m
invariant-loop-m l = Laid l.initial.out 0 (mark_of (places_by sums (in_columns l.c l.n))) l.n l.out l.m × Kept (sums (entry 2 0 l.c)) l.x l.m × Kept (sums (entry 2 (2 * l.n) l.c)) l.y l.m
