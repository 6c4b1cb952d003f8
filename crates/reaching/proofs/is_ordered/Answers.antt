-- `reaching::is_ordered` meets its contract: the two tests of question 11. Assumes nothing.
use borrow.Author.Rules.{rules}
use Rattle.reaching.specs.Questions.{question11}
use Rattle.reaching.proofs.is_ordered.Goals as goal

pub returns : goal.returns
unfolding question11
returns c = search rules
