-- `grid::last_row` meets its contract: the number is read as it stands. Assumes nothing.
use borrow.Author.Rules.{rules}
use Rattle.grid.specs.Table.{region_at}
use Rattle.grid.proofs.last_row.Goals as goal

pub returns : goal.returns
unfolding region_at
returns c = search rules
