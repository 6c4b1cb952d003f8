-- `rollmap::rollmap_is_shown`: what `viewing::is_shown` gives. Assumes nothing.
use Rattle.rollmap.proofs.rollmap_is_shown.Goals as goal

pub returns : goal.returns
returns c = rw c.from.ensures c.is_shown.ensures
