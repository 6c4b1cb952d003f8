-- `grid::put_sides` meets its contract: four numbers, one behind the other. Assumes nothing.
use Rattle.grid.proofs.Regions.{sides_put}
use Rattle.grid.proofs.put_sides.Goals as goal

pub returns : goal.returns
returns c = sides_put _ _ _ c.write.ensures c.write-2.ensures c.write-3.ensures c.write-4.ensures
