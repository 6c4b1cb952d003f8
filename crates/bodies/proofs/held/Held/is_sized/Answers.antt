-- `bodies::held::Held::is_sized` meets its contract: a part that is not there is not asked about. Assumes nothing.
use Rattle.bodies.specs.Questions.{is_sized}
use Rattle.bodies.proofs.held.Held.is_sized.Goals as goal

pub returns-in_default : goal.returns-in_default
unfolding is_sized
returns-in_default c = rw (← c.in_default.ensures.there)

pub returns : goal.returns
unfolding is_sized
returns c = rw (← c.in-Some.ensures.there, ← c.in-Some.ensures.body)
