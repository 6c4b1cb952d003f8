-- `searching::CellSearch::scan_group` meets its contract: each turn takes in one cell more, and in 16 turns all of the group. Assumes nothing.
use Rattle.searching.specs.Search.{Admitted}
use Rattle.searching.specs.Cells.{CellAdded, FirstCells}
use Rattle.searching.proofs.search.CellSearch.scan_group.Given as goal

abbrev pub invariant-loop-i : goal.invariant-loop-i
invariant-loop-i l =
    let s = l.self.search in
    Admitted s.p l.best × CellAdded s.shape s.w.now l.self.at l.self.groups s.p (FirstCells l.g l.first l.i) l.initial.best l.best
