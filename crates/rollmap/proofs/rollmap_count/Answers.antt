-- `rollmap::rollmap_count`: what `counts::count` gives. Assumes nothing.
use Rattle.rollmap.proofs.rollmap_count.Goals as goal

pub returns : goal.returns
returns c = rw c.from.ensures c.count.ensures
