-- `contents::check_contents` meets its contract: the first of three tests that fails gives the number. Assumes nothing.
use mathlib.Core.Path.{sym, ◌∙◌}
use Rattle.contents.specs.Questions.{contents_questions}
use Rattle.contents.proofs.Lemmas.Asked.{none_asked, asked_yes, asked_no}
use Rattle.contents.proofs.Lemmas.Laid.{whole_iff}
use Rattle.contents.proofs.check_contents.Goals as goal

pub returns-then-not-has_contents : goal.returns-then-not-has_contents
unfolding contents_questions
returns-then-not-has_contents c = sym (asked_no 1 _ (sym c.has_contents.ensures ∙ c.if-not-has_contents.true))

pub has_codes-requires : goal.has_codes-requires
has_codes-requires c = (whole_iff _).0 (sym c.has_contents.ensures ∙ c.if-not-has_contents.false)

pub returns-then-not-has_codes : goal.returns-then-not-has_codes
unfolding contents_questions
returns-then-not-has_codes c =
    sym (asked_yes 1 _ (sym c.has_contents.ensures ∙ c.if-not-has_contents.false)
    ∙ asked_no 2 _ (sym c.has_codes.ensures ∙ c.if-not-has_codes.true))

pub bodies_join-requires : goal.bodies_join-requires
bodies_join-requires c = (whole_iff _).0 (sym c.has_contents.ensures ∙ c.if-not-has_contents.false)

pub returns-then-not-bodies_join : goal.returns-then-not-bodies_join
unfolding contents_questions
returns-then-not-bodies_join c =
    sym (asked_yes 1 _ (sym c.has_contents.ensures ∙ c.if-not-has_contents.false)
    ∙ asked_yes 2 _ (sym c.has_codes.ensures ∙ c.if-not-has_codes.false)
    ∙ asked_no 3 _ (sym c.bodies_join.ensures ∙ c.if-not-bodies_join.true))

pub returns : goal.returns
unfolding contents_questions
returns c =
    sym (asked_yes 1 _ (sym c.has_contents.ensures ∙ c.if-not-has_contents.false)
    ∙ asked_yes 2 _ (sym c.has_codes.ensures ∙ c.if-not-has_codes.false)
    ∙ asked_yes 3 _ (sym c.bodies_join.ensures ∙ c.if-not-bodies_join.false)
    ∙ none_asked)
