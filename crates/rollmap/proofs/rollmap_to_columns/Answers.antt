-- `rollmap::rollmap_to_columns`: what `conversions::to_columns` gives. Assumes nothing.
use Rattle.rollmap.proofs.rollmap_to_columns.Goals as goal

pub returns : goal.returns
returns c = rw c.from.ensures c.to_columns.ensures
