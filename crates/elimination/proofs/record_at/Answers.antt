-- `elimination::record_at` meets its contract: the three numbers are read as they stand. Assumes nothing.
use Rattle.elimination.proofs.record_at.Goals as goal

pub returns : goal.returns
returns c = rw (c.read.ensures.0, c.read_u32.ensures, c.read_u16.ensures)
