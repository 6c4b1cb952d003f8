-- `rollmap::rollmap_marks_to_log`: what `conversions::marks_to_log` gives. Assumes nothing.
use Rattle.rollmap.proofs.rollmap_marks_to_log.Goals as goal

pub returns : goal.returns
returns c = rw c.from.ensures c.marks_to_log.ensures
