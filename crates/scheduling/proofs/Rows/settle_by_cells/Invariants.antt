-- The loop's invariant: the marks of the rows before p are settled, and these rows are in the grid.
use Rattle.std.specs.Prelude.{◌*◌}
use Rattle.searching.specs.Rows.{row_size}
use Rattle.searching.specs.Cells.{Gridded}
use Rattle.scheduling.proofs.Progress.{Progress}
use Rattle.scheduling.proofs.Rows.settle_by_cells.Given as goal

abbrev pub invariant-loop-p : goal.invariant-loop-p
invariant-loop-p l = Progress l.self.shape l.self.count l.p l.initial.w l.w × Gridded l.w (row_size * l.self.count) l.plan.groups l.p
