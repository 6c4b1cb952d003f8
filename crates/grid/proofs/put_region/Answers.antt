-- `grid::put_region` meets its contract: the sides and four numbers, one behind the other. Assumes nothing.
use Rattle.grid.proofs.Regions.{region_put, put_is}
use native.Mathlib.Omega.{arith}
use Rattle.grid.proofs.put_region.Goals as goal

pub returns : goal.returns
returns c =
    put_is c.args.at c.args.i c.args.r c.requires
    (record {
      west = omega arith;
      east = omega arith;
      south = omega arith;
      north = omega arith;
      radius = omega arith;
      last = omega arith;
      num = omega arith;
      den = omega arith;
    })
    (region_put _ _ _ c.put_sides.ensures c.write.ensures c.write-2.ensures c.write-3.ensures c.write-4.ensures)
