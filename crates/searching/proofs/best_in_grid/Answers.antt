-- `searching::best_in_grid` meets its contract: what goes before all rows above is what is found. Assumes nothing.
use Rattle.searching.proofs.best_in_grid.Goals as goal

pub returns : goal.returns
returns c = c.found.ensures.found _ c.best.ensures.1
