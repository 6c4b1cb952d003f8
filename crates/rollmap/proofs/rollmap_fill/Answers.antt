-- `rollmap::rollmap_fill`: what `conversions::fill` gives. Assumes nothing.
use Rattle.rollmap.proofs.rollmap_fill.Goals as goal

pub returns : goal.returns
returns c = rw c.from.ensures c.fill.ensures
