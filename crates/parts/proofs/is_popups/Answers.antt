-- `parts::is_popups` meets its contract: the tests of the definition in their order. Assumes nothing.
use borrow.Author.Tests.{tests, eq-eqb, ne_eqb}
use Rattle.std.proofs.Common.{rules}
use Rattle.marks.specs.Pairs.{popup_at}
use Rattle.parts.specs.Questions.{is_popup, is_popups}
use Rattle.parts.proofs.Lemmas.Ranges.{every_from_all}
use Rattle.parts.proofs.is_popups.Goals as goal

pub returns-then-body-n : goal.returns-then-body-n
unfolding is_popups
returns-then-body-n c =
    rw (eq-eqb _ _ c.if-body-n.true)
    (every_from_all (λ m. is_popup (popup_at c.args.body.now m)) c.args.n _ _ _ c.all.ensures.ran (λ x b q k. search (rules, tests)))

pub returns-else-body-n : goal.returns-else-body-n
unfolding is_popups
returns-else-body-n c = rw (ne_eqb _ _ c.if-body-n.false)
