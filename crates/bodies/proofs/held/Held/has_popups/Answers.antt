-- `bodies::held::Held::has_popups` meets its contract: part 5 is found by its code. Assumes nothing.
use Rattle.bodies.specs.Questions.{question21}
use Rattle.bodies.proofs.held.Held.has_popups.Goals as goal

pub returns-in_default : goal.returns-in_default
unfolding question21
returns-in_default c = rw (← c.in_default.ensures.there)

pub returns : goal.returns
unfolding question21
returns c =
    rw (← c.in-Some.ensures.there, ← c.in-Some.ensures.body, ← c.args.self.now.marked.counted) c.is_popups.ensures
