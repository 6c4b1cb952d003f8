-- `parts::check_marks` meets its contract: 4 is asked before 5 and 6. Assumes nothing.
use mathlib.Core.Path.{sym, ◌∙◌}
use Rattle.contents.proofs.Laws.{asked_yes, asked_no}
use Rattle.parts.specs.Questions.{part1_questions}
use Rattle.parts.proofs.check_marks.Goals as goal

pub returns-then-not-is_marks : goal.returns-then-not-is_marks
unfolding part1_questions
returns-then-not-is_marks c = sym (asked_no 4 _ (sym c.is_marks.ensures ∙ c.if-not-is_marks.true))

pub returns : goal.returns
unfolding part1_questions
returns c =
    c.check_each.ensures ∙ sym (asked_yes 4 _ (sym c.is_marks.ensures ∙ c.if-not-is_marks.false))
