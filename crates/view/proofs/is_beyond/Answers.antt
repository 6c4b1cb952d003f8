-- `view::is_beyond` meets its contract, for either half. Assumes nothing.
use Rattle.view.specs.Search.{is_beyond}
use Rattle.view.proofs.is_beyond.Goals as goal

pub returns-then-left : goal.returns-then-left
unfolding is_beyond
returns-then-left c = rw (c.bound_on-bound.ensures, c.if-left.true)

pub returns-else-left : goal.returns-else-left
unfolding is_beyond
returns-else-left c = rw (c.bound_on-bound.ensures, c.if-left.false)
