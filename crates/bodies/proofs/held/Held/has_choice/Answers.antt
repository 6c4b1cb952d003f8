-- `bodies::held::Held::has_choice` meets its contract: the part is found by its code. Assumes nothing.
use Rattle.bodies.specs.Questions.{is_chosen}
use Rattle.bodies.proofs.held.Held.has_choice.Goals as goal

pub returns-in_default : goal.returns-in_default
unfolding is_chosen
returns-in_default c = rw (← c.in_default.ensures.there)

pub returns : goal.returns
unfolding is_chosen
returns c = rw (← c.in-Some.ensures.there, ← c.in-Some.ensures.body) c.is_choice.ensures
