-- `index::Keys::join` meets its contract, by what its calls ensure. Assumes nothing.
use Rattle.index.specs.Check.{join_keys}
use Rattle.index.proofs.Keys.join.Goals as goal

pub returns : goal.returns
unfolding join_keys
returns c = cc
