-- `searching::CellSearch::scan_cell` meets its contract: each turn takes in one row more of the cell, from the last one down. Assumes nothing.
use Prim.Native.Nat.{◌≤◌}
use Rattle.grid.specs.Table.{entry_of}
use Rattle.searching.specs.Search.{Admitted}
use Rattle.searching.specs.Cells.{Walked}
use Rattle.searching.proofs.search.CellSearch.scan_cell.Given as goal

abbrev pub invariant-loop-next : goal.invariant-loop-next
invariant-loop-next l =
    let s = l.self.search in
    (entry_of l.next ≤ s.p) × Admitted s.p l.best × Walked s.shape s.w.now l.self.at l.self.groups s.p l.c (entry_of l.next) l.initial.best l.best

abbrev pub decreases-loop-next : goal.decreases-loop-next
decreases-loop-next l = entry_of l.next
