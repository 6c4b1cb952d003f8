-- `rollmap::rollmap_judge`: what `judgement::judge` gives. Assumes nothing.
use Rattle.rollmap.proofs.rollmap_judge.Goals as goal

pub returns : goal.returns
returns c = rw c.verdict.ensures c.judge.ensures
