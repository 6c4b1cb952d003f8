-- `logs::is_log`: the two halves of question 4. Assumes nothing.
use Rattle.std.proofs.Common.{eq-eqb, ne_eqb}
use Rattle.logs.specs.Questions.{log_size}
use Rattle.logs.proofs.is_log.Goals as goal

pub returns-then-s-eq0 : goal.returns-then-s-eq0
unfolding log_size
returns-then-s-eq0 c = rw (eq-eqb _ _ c.if-s-eq0.true)

pub returns-else-s-eq0 : goal.returns-else-s-eq0
unfolding log_size
returns-else-s-eq0 c = rw (ne_eqb _ _ c.if-s-eq0.false)
