-- `logs::check_log`: 4, and then record by record. Assumes nothing.
use Rattle.std.proofs.Common.{sym, ◌∙◌}
use Rattle.contents.proofs.Laws.{asked_yes, asked_no}
use Rattle.logs.specs.Questions.{log_checks}
use Rattle.logs.proofs.check_log.Goals as goal

pub returns-then-not-is_log : goal.returns-then-not-is_log
unfolding log_checks
returns-then-not-is_log c = sym (asked_no 4 _ (sym c.is_log.ensures ∙ c.if-not-is_log.true))

pub returns : goal.returns
unfolding log_checks
returns c = c.check_records.ensures ∙ sym (asked_yes 4 _ (sym c.is_log.ensures ∙ c.if-not-is_log.false))
