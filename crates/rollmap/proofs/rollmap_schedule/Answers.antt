-- `rollmap::rollmap_schedule`: what `changes::schedule` gives. Assumes nothing.
use Rattle.rollmap.proofs.rollmap_schedule.Goals as goal

pub returns : goal.returns
returns c = rw c.from.ensures c.schedule.ensures
