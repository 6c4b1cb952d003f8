-- `scheduling::Rows::settle_by_cells` meets its contract: each turn settles one mark more and puts its row into the grid. Assumes nothing.
use native.Mathlib.Omega.{arith}
use Rattle.scheduling.proofs.Cells.{gridded_none}
use Rattle.scheduling.proofs.Progress.{same_kept, small_same, processed_like, start, ready, advance, finish}
use Rattle.scheduling.proofs.Rows.settle_by_cells.Goals as goal

pub loop-p-init : goal.loop-p-init
loop-p-init c =
    (start _ _ _, gridded_none (omega (arith, c.requires, c.over_rows-plan.ensures)) c.clear.ensures)

pub settle_in_grid-requires : goal.settle_in_grid-requires
settle_in_grid-requires c =
    let s = same_kept c.clear.ensures.kept in (
      ready c.args.self.few (omega (arith, c.requires.1, s.long)) (small_same s c.requires.2) c.loop-p-test.true c.loop-p.invariant.0,
      c.over_rows-plan.ensures,
      c.loop-p.invariant.1,
      omega (arith, c.requires.1, s.long, c.loop-p.invariant.0.fields.long),
      c.loop-p.invariant.0.zeroed (small_same s c.requires.2).some,
    )

pub loop-p-preserved : goal.loop-p-preserved
loop-p-preserved c =
    (advance c.loop-p-test.true c.loop-p.invariant.0 c.settle_in_grid.ensures.0, c.settle_in_grid.ensures.1)

pub returns : goal.returns
returns c =
    processed_like (same_kept c.clear.ensures.kept) (finish (omega arith) c.loop-p.invariant.0)
