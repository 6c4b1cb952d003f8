-- `packed::is_last`: the digit and the two signs. Assumes nothing.
use Rattle.packed.specs.Packed.{is_last}
use borrow.Author.Rules.{rules}
use Rattle.packed.proofs.is_last.Goals as goal

pub returns : goal.returns
unfolding is_last
returns c = search rules
