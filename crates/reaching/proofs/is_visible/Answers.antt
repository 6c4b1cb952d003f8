-- `reaching::is_visible` meets its contract: both tests, in their order. Assumes nothing.
use borrow.Author.Tests.{lt-leb, le-leb}
use Rattle.counting.specs.Lives.{popped_up}
use Rattle.reaching.specs.Turning.{visible_here}
use Rattle.reaching.proofs.is_visible.Goals as goal

pub popup_at-requires : goal.popup_at-requires
popup_at-requires c = c.requires.3.there

pub returns-then-k-popup_at : goal.returns-then-k-popup_at
unfolding visible_here popped_up
returns-then-k-popup_at c = rw (← c.popup_at.ensures) (rw (lt-leb _ _ c.if-k-popup_at.true))

pub reaches-requires : goal.reaches-requires
reaches-requires c = let p = c.requires in (p.0, p.1, p.2)

pub returns : goal.returns
unfolding visible_here popped_up
returns c = rw (← c.popup_at.ensures) (rw (le-leb _ _ c.if-k-popup_at.false, c.reaches.ensures))
