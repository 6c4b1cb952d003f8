-- `rollmap::rollmap_check`: the sheet's own answer. Assumes nothing.
use Rattle.jobs.proofs.Laws.Outcomes.{check_gives}
use Rattle.rollmap.proofs.rollmap_check.Goals as goal

pub returns : goal.returns
returns c = rw (c.verdict.ensures, c.check.ensures) (check_gives _)
