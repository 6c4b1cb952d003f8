-- `clashing::proposal::Proposal::pair_with` meets its contract: it is made as `marks::pair` makes it, from a label that is at hand. Assumes nothing.
use mathlib.Core.Path.{◌≡◌, ap₂, ◌∙◌, sym}
use borrow.Author.Tests.{eqb-true}
use Rattle.marks.specs.Marks.{larger, touching_of, touching}
use Rattle.marks.specs.Pairs.{pair_of, pair_value}
use Rattle.marks.proofs.PairLaws.{unpopped}
use Rattle.clashing.proofs.proposal.Proposal.pair_with.Goals as goal
use Rattle.clashing.proofs.proposal.Proposal.pair_with.Goals.{After-touching_of-touch}

touch_is : (c : After-touching_of-touch) → c.touching_of-touch.result ≡ touching c.args.self.now.reel.shape c.args.self.now.reel.marks.now c.args.g c.args.q.m
unfolding touching
touch_is c =
    c.touching_of-touch.ensures.0 ∙ rw c.requires.2 (ap₂ (touching_of c.args.self.now.reel.shape) c.label_at.ensures c.requires.0.label_is)

pub returns-then-is_empty : goal.returns-then-is_empty
returns-then-is_empty c =
    let r = c.args.self.now.reel in
    let none = eqb-true _ _ (sym c.is_empty.ensures ∙ c.if-is_empty.true) in
    (touch_is (goal.at.returns-then-is_empty c).After-touching_of-touch ∙ unpopped r.shape r.marks.now r.popups.now c.args.g c.args.q.m none, c.touching_of-touch.ensures.1)

pub returns : goal.returns
unfolding pair_value
returns c =
    (c.pair_of.ensures.0 ∙ ap₂ pair_of (touch_is (goal.at.returns c).After-touching_of-touch) (c.larger-k.ensures ∙ ap₂ larger c.popup_at.ensures c.popup_at-2.ensures), c.pair_of.ensures.1)
