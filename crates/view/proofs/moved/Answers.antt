-- `view::moved` meets its contract: down and up, and at most to 0. Assumes nothing.
use Rattle.view.specs.Search.{moved}
use Rattle.view.proofs.moved.Goals as goal

pub returns-then-low : goal.returns-then-low
unfolding moved
returns-then-low c = rw c.if-low.true c.saturating_sub.ensures

pub returns-else-low : goal.returns-else-low
unfolding moved
returns-else-low c = rw c.if-low.false
