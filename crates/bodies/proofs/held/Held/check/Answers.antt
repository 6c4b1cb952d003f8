-- `bodies::held::Held::check` meets its contract: the first of seven tests that fails gives the number. Assumes nothing.
use mathlib.Core.Path.{sym, ◌∙◌}
use Rattle.contents.proofs.Laws.{none_asked, asked_yes, asked_no}
use Rattle.bodies.specs.Questions.{last_questions, question19, question24}
use Rattle.bodies.proofs.held.Held.check.Goals as goal

pub returns-then-not-has_sizes : goal.returns-then-not-has_sizes
unfolding last_questions question19 question24
returns-then-not-has_sizes c =
    sym (asked_no 7 _ (sym c.has_sizes.ensures ∙ c.if-not-has_sizes.true))

pub returns-then-not-has_choice : goal.returns-then-not-has_choice
unfolding last_questions question19 question24
returns-then-not-has_choice c =
    sym (asked_yes 7 _ (sym c.has_sizes.ensures ∙ c.if-not-has_sizes.false)
    ∙ asked_no 19 _ (sym c.has_choice.ensures ∙ c.if-not-has_choice.true))

pub returns-then-not-has_popups : goal.returns-then-not-has_popups
unfolding last_questions question19 question24
returns-then-not-has_popups c =
    sym (asked_yes 7 _ (sym c.has_sizes.ensures ∙ c.if-not-has_sizes.false)
    ∙ asked_yes 19 _ (sym c.has_choice.ensures ∙ c.if-not-has_choice.false)
    ∙ asked_no 21 _ (sym c.has_popups.ensures ∙ c.if-not-has_popups.true))

pub returns-then-not-has_choice-2 : goal.returns-then-not-has_choice-2
unfolding last_questions question19 question24
returns-then-not-has_choice-2 c =
    sym (asked_yes 7 _ (sym c.has_sizes.ensures ∙ c.if-not-has_sizes.false)
    ∙ asked_yes 19 _ (sym c.has_choice.ensures ∙ c.if-not-has_choice.false)
    ∙ asked_yes 21 _ (sym c.has_popups.ensures ∙ c.if-not-has_popups.false)
    ∙ asked_no 24 _ (sym c.has_choice-2.ensures ∙ c.if-not-has_choice-2.true))

pub returns-then-not-has_schedule : goal.returns-then-not-has_schedule
unfolding last_questions question19 question24
returns-then-not-has_schedule c =
    sym (asked_yes 7 _ (sym c.has_sizes.ensures ∙ c.if-not-has_sizes.false)
    ∙ asked_yes 19 _ (sym c.has_choice.ensures ∙ c.if-not-has_choice.false)
    ∙ asked_yes 21 _ (sym c.has_popups.ensures ∙ c.if-not-has_popups.false)
    ∙ asked_yes 24 _ (sym c.has_choice-2.ensures ∙ c.if-not-has_choice-2.false)
    ∙ asked_no 8 _ (sym c.has_schedule.ensures ∙ c.if-not-has_schedule.true))

pub returns-then-not-has_index : goal.returns-then-not-has_index
unfolding last_questions question19 question24
returns-then-not-has_index c =
    sym (asked_yes 7 _ (sym c.has_sizes.ensures ∙ c.if-not-has_sizes.false)
    ∙ asked_yes 19 _ (sym c.has_choice.ensures ∙ c.if-not-has_choice.false)
    ∙ asked_yes 21 _ (sym c.has_popups.ensures ∙ c.if-not-has_popups.false)
    ∙ asked_yes 24 _ (sym c.has_choice-2.ensures ∙ c.if-not-has_choice-2.false)
    ∙ asked_yes 8 _ (sym c.has_schedule.ensures ∙ c.if-not-has_schedule.false)
    ∙ asked_no 9 _ (sym c.has_index.ensures ∙ c.if-not-has_index.true))

pub returns-then-not-has_counts : goal.returns-then-not-has_counts
unfolding last_questions question19 question24
returns-then-not-has_counts c =
    sym (asked_yes 7 _ (sym c.has_sizes.ensures ∙ c.if-not-has_sizes.false)
    ∙ asked_yes 19 _ (sym c.has_choice.ensures ∙ c.if-not-has_choice.false)
    ∙ asked_yes 21 _ (sym c.has_popups.ensures ∙ c.if-not-has_popups.false)
    ∙ asked_yes 24 _ (sym c.has_choice-2.ensures ∙ c.if-not-has_choice-2.false)
    ∙ asked_yes 8 _ (sym c.has_schedule.ensures ∙ c.if-not-has_schedule.false)
    ∙ asked_yes 9 _ (sym c.has_index.ensures ∙ c.if-not-has_index.false)
    ∙ asked_no 23 _ (sym c.has_counts.ensures ∙ c.if-not-has_counts.true))

pub returns : goal.returns
unfolding last_questions question19 question24
returns c =
    sym (asked_yes 7 _ (sym c.has_sizes.ensures ∙ c.if-not-has_sizes.false)
    ∙ asked_yes 19 _ (sym c.has_choice.ensures ∙ c.if-not-has_choice.false)
    ∙ asked_yes 21 _ (sym c.has_popups.ensures ∙ c.if-not-has_popups.false)
    ∙ asked_yes 24 _ (sym c.has_choice-2.ensures ∙ c.if-not-has_choice-2.false)
    ∙ asked_yes 8 _ (sym c.has_schedule.ensures ∙ c.if-not-has_schedule.false)
    ∙ asked_yes 9 _ (sym c.has_index.ensures ∙ c.if-not-has_index.false)
    ∙ asked_yes 23 _ (sym c.has_counts.ensures ∙ c.if-not-has_counts.false)
    ∙ none_asked)
