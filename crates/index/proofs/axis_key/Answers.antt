-- `index::axis_key` meets its contract: a coordinate below 65,536 leaves room for the number. Assumes nothing.
use borrow.Author.Rules.{rules}
use Rattle.index.specs.Index.{axis_key}
use Rattle.index.proofs.axis_key.Goals as goal

pub returns : goal.returns
unfolding axis_key
returns c = search rules
