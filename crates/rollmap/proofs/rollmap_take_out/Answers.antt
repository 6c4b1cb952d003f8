-- `rollmap::rollmap_take_out`: what `changes::take_out` gives. Assumes nothing.
use Rattle.rollmap.proofs.rollmap_take_out.Goals as goal

pub returns : goal.returns
returns c = rw c.from.ensures c.take_out.ensures
