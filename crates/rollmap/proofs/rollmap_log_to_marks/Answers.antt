-- `rollmap::rollmap_log_to_marks`: what `conversions::log_to_marks` gives. Assumes nothing.
use Rattle.rollmap.proofs.rollmap_log_to_marks.Goals as goal

pub returns : goal.returns
returns c = rw c.from.ensures c.log_to_marks.ensures
