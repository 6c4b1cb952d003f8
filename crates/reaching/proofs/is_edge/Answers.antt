-- `reaching::is_edge` meets its contract: the two tests of the range. Assumes nothing.
use borrow.Author.Rules.{rules}
use Rattle.reaching.specs.Questions.{is_edge}
use Rattle.reaching.proofs.is_edge.Goals as goal

pub returns : goal.returns
unfolding is_edge
returns c = search rules
