-- `grid::region_at` meets its contract: the numbers are read as they stand. Assumes nothing.
use Rattle.grid.specs.Table.{region_at}
use Rattle.grid.proofs.region_at.Goals as goal

pub returns : goal.returns
unfolding region_at
returns c =
    rw (c.read_u16.ensures, c.read_u16-2.ensures, c.read_u16-3.ensures, c.read_u16-4.ensures, c.read_u16-5.ensures, c.read_u16-6.ensures, c.read.ensures.0, c.read_u32.ensures)
