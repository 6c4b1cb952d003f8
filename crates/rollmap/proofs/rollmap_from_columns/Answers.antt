-- `rollmap::rollmap_from_columns`: what `conversions::from_columns` gives. Assumes nothing.
use Rattle.rollmap.proofs.rollmap_from_columns.Goals as goal

pub returns : goal.returns
returns c = rw c.from.ensures c.from_columns.ensures
