-- `marks::rank_radius` meets its contract: the test of the edition is the definition's. Assumes nothing.
use borrow.Author.Tests.{eq-eqb, ne_eqb}
use Rattle.marks.specs.Marks.{rank_radius}
use Rattle.marks.proofs.rank_radius.Goals as goal

pub returns-then-edition-eq2 : goal.returns-then-edition-eq2
unfolding rank_radius
returns-then-edition-eq2 c = rw (eq-eqb _ _ c.if-edition-eq2.true) c.radius_at.ensures

pub returns : goal.returns
unfolding rank_radius
returns c = rw (ne_eqb _ _ c.if-edition-eq2.false)
