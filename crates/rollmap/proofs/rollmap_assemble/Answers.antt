-- `rollmap::rollmap_assemble`: what `assembly::assemble` gives. Assumes nothing.
use Rattle.rollmap.proofs.rollmap_assemble.Goals as goal

pub returns : goal.returns
returns c = rw c.from.ensures c.assemble.ensures
