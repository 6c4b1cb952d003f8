-- `searching::CellSearch::best` meets its contract: a value that no pair value is below is the best of all in the order of rank. Assumes nothing.
use Rattle.searching.proofs.Steps.{least_all}
use Rattle.searching.proofs.search.CellSearch.best.Goals as goal

pub returns-then-is_least : goal.returns-then-is_least
returns-then-is_least c =
    let e = c.scan_rows-top.ensures in (e.admitted, least_all e c.is_least.ensures c.if-is_least.true)
