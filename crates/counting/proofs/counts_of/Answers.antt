-- `counting::counts_of` meets its contract: the tables hold the marks before m; then the cells that are passed are counts, and are written. Assumes nothing.
use Rattle.std.proofs.Common.{◌≡◌, ◌<◌, refl, arith}
use Rattle.counting.proofs.Lemmas.Cells.{begin_small, end_small}
use Rattle.counting.proofs.Lemmas.Tallies.{entered_none, tallied_room, tallied_more}
use Rattle.counting.proofs.Lemmas.Adding.{blank, added_none, added_sum, added_small, added_more, added_all}
use Rattle.counting.specs.Steps.{begin_size, end_size}
use Rattle.counting.proofs.counts_of.Goals as goal
use Rattle.counting.proofs.counts_of.Goals.{After-cells_of-cells}

-- the cells of the mark lie in the tables
begin_in : (c : After-cells_of-cells) → c.cells_of-cells.result.begin < begin_size
begin_in c = omega (arith, c.cells_of-cells.ensures.begin_value, begin_small c.args.marks.now c.args.schedule.now c.args.popups.now c.loop-m.m)

end_in : (c : After-cells_of-cells) → c.cells_of-cells.result.end < end_size
end_in c = omega (arith, c.cells_of-cells.ensures.end_value, end_small c.args.marks.now c.args.schedule.now c.args.popups.now c.loop-m.m)

pub loop-m-init : goal.loop-m-init
loop-m-init c = entered_none _ _ _

pub offset_bounds-table-cells : goal.offset_bounds-table-cells
offset_bounds-table-cells c = omega (arith, begin_in (goal.at.offset_bounds-table-cells c).After-cells_of-cells)

pub bounds-table-cells : goal.bounds-table-cells
bounds-table-cells c = begin_in (goal.at.bounds-table-cells c).After-cells_of-cells

pub overflow_add-table : goal.overflow_add-table
overflow_add-table c =
    let room = tallied_room c.loop-m.invariant.begun (begin_in c) (omega (arith, c.requires.n_bound.0)) in
    record { fits = omega (arith, room.1) }

pub bounds-table-cells-in-loop-m : goal.bounds-table-cells-in-loop-m
bounds-table-cells-in-loop-m c = begin_in (goal.at.bounds-table-cells-in-loop-m c).After-cells_of-cells

pub offset_bounds-ends-cells : goal.offset_bounds-ends-cells
offset_bounds-ends-cells c = omega (arith, end_in (goal.at.offset_bounds-ends-cells c).After-cells_of-cells)

pub bounds-ends-cells : goal.bounds-ends-cells
bounds-ends-cells c = end_in (goal.at.bounds-ends-cells c).After-cells_of-cells

pub overflow_add-ends : goal.overflow_add-ends
overflow_add-ends c =
    let room = tallied_room c.loop-m.invariant.gone (end_in c) (omega (arith, c.requires.n_bound.0)) in
    record { fits = omega (arith, room.1) }

pub bounds-ends-cells-in-loop-m : goal.bounds-ends-cells-in-loop-m
bounds-ends-cells-in-loop-m c = end_in (goal.at.bounds-ends-cells-in-loop-m c).After-cells_of-cells

pub loop-m-preserved : goal.loop-m-preserved
loop-m-preserved c =
    let at = (goal.at.loop-m-preserved c).After-cells_of-cells in
    record {
      begun = tallied_more c.loop-m.invariant.begun c.cells_of-cells.ensures.begin_value (begin_in at) refl;
      gone = tallied_more c.loop-m.invariant.gone c.cells_of-cells.ensures.end_value (end_in at) refl;
    }

pub loop-i-init : goal.loop-i-init
unfolding blank
loop-i-init c = let e : c.loop-m.m ≡ c.args.n = omega arith in added_none (rw e at c.loop-m.invariant)

pub overflow_add-count : goal.overflow_add-count
overflow_add-count c = record { fits = omega (arith, added_small c.loop-i.invariant c.loop-i-test.true c.requires.n_bound.0) }

pub overflow_sub-count : goal.overflow_sub-count
overflow_sub-count c = omega (arith, added_sum c.loop-i.invariant c.loop-i-test.true)

pub loop-i-preserved : goal.loop-i-preserved
loop-i-preserved c = added_more c.loop-i.invariant c.loop-i-test.true refl refl c.write.ensures

pub returns : goal.returns
returns c = added_all c.loop-i.invariant c.loop-i-test.false
