-- `viewing::is_map`: the two bounds in their order. Assumes nothing.
use borrow.Author.Tests.{le-leb, lt-leb}
use Rattle.reaching.specs.Questions.{is_map}
use Rattle.viewing.proofs.Lemmas.{rounded_up}
use Rattle.viewing.proofs.is_map.Goals as goal

pub returns-then-n-le-MOST_MARKS : goal.returns-then-n-le-MOST_MARKS
unfolding is_map
returns-then-n-le-MOST_MARKS c = rw (le-leb c.args.n 4096 c.if-n-le-MOST_MARKS.true, c.div_ceil.ensures, rounded_up c.args.n)

pub returns-else-n-le-MOST_MARKS : goal.returns-else-n-le-MOST_MARKS
unfolding is_map
returns-else-n-le-MOST_MARKS c = rw (lt-leb c.args.n 4096 c.if-n-le-MOST_MARKS.false)
