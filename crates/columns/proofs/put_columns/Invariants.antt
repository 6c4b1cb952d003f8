-- `columns::put_columns` meets its contract: each turn fills all columns by one value. Assumes nothing.
use Rattle.std.proofs.Common.{◌≡◌, length}
use Rattle.columns.specs.Columns.{in_marks, places_by, differences, field}
use Rattle.columns.specs.Steps.{columns_of, filled_to, Kept}
use Rattle.columns.proofs.put_columns.Given as goal

abbrev pub invariant-loop-m : goal.invariant-loop-m
invariant-loop-m l =
    (length l.out ≡ length l.initial.out) × (l.out ≡ filled_to (columns_of (places_by differences (in_marks l.s)) l.n) l.m l.initial.out) × Kept (field 2 0 l.s) l.last_x l.m × Kept (field 2 2 l.s) l.last_y l.m
