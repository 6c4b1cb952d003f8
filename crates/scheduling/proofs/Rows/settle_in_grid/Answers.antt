-- `scheduling::Rows::settle_in_grid` meets its contract: what was found is read back from the row, and the grid has one row more. Assumes nothing.
use Prim.Native.Nat.{◌*◌}
use mathlib.Core.Path.{ap}
use native.Mathlib.Omega.{arith}
use Rattle.elimination.specs.Records.{fraction_of}
use Rattle.searching.specs.Rows.{row_size}
use Rattle.scheduling.specs.Planning.{Entered}
use Rattle.scheduling.proofs.Bytes.{put_kept}
use Rattle.scheduling.proofs.Cells.{entered_kept, gridded_more}
use Rattle.scheduling.proofs.Progress.{record_is, settles, search_for}
use Rattle.scheduling.proofs.Rows.settle_in_grid.Goals as goal

pub returns : goal.returns
returns c =
    let n = c.args.self.count in
    let groups = c.args.plan.groups in
    let p = c.args.p in
    let cell = c.cell_of-c.result in
    let found = c.best_in_grid-found.result in
    let x : Entered c.args.w.now c.enter.new.w (row_size * n) groups p cell c.row_label-label.result (fraction_of found) = rw c.fraction_of.ensures at c.enter.ensures in
    let ku = entered_kept (row_size * n) groups p cell c.row_label-label.result (fraction_of found) x in
    let is = record_is c.enter.new.w p found (omega (arith, c.requires.0.below, c.requires.0.room, ku.long)) c.best_in_grid-found.ensures.number (omega arith) (omega arith) c.put_record.ensures in (
      settles c.requires.0.below (omega (arith, c.requires.0.room)) (omega arith) (omega arith) ku c.put_record.ensures c.best_in_grid-found.ensures,
      gridded_more n groups p cell (fraction_of found) c.requires.0.below c.requires.2 (search_for c.requires.0 c.row_label-label.ensures) c.cell_of-c.ensures
          (omega (arith, c.requires.0.below, c.requires.1, c.requires.3)) c.best_in_grid-found.ensures.small c.best_in_grid-found.ensures.some ku
          (put_kept p found c.put_record.ensures) (ap fraction_of is) x,
    )
