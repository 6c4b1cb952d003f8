-- `searching::CellSearch::scan_grid` meets its contract: each turn takes in one group more, and every row is in some group or stands for nobody. Assumes nothing.
use Rattle.searching.specs.Search.{none, Admitted}
use Rattle.searching.specs.Cells.{CellAdded, FirstGroups}
use Rattle.searching.proofs.search.CellSearch.scan_grid.Given as goal

abbrev pub invariant-loop-i : goal.invariant-loop-i
invariant-loop-i l =
    let s = l.self.search in
    Admitted s.p l.best × CellAdded s.shape s.w.now l.self.at l.self.groups s.p (FirstGroups l.self.groups l.group l.i) none l.best
