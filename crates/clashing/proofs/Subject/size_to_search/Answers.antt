-- `clashing::Subject::size_to_search` meets its contract. Assumes nothing.
use Rattle.clashing.specs.Cuts.{size_to_search}
use Rattle.clashing.proofs.Subject.size_to_search.Goals as goal

pub returns-then-less_small : goal.returns-then-less_small
unfolding size_to_search
returns-then-less_small c =
    rw (← c.place_on.ensures, ← c.gap_to-d.ensures, ← c.less_small.ensures, c.if-less_small.true)

pub returns-else-less_small : goal.returns-else-less_small
unfolding size_to_search
returns-else-less_small c =
    rw (← c.place_on.ensures, ← c.gap_to-d.ensures, ← c.less_small.ensures, c.if-less_small.false)
