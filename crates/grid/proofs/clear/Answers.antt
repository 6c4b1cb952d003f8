-- `grid::clear` meets its contract: each turn clears one region more. Assumes nothing.
use native.Mathlib.Omega.{arith}
use Rattle.grid.proofs.Table.{cleared_more}
use Rattle.grid.proofs.clear.Goals as goal

pub loop-i-preserved : goal.loop-i-preserved
loop-i-preserved c = cleared_more (omega arith) c.loop-i.invariant c.put_region.ensures
