-- `packed::is_minus`: the lower half tells. Assumes nothing.
use Rattle.packed.specs.Packed.{is_minus}
use borrow.Author.Rules.{rules}
use Rattle.packed.proofs.is_minus.Goals as goal

pub returns : goal.returns
unfolding is_minus
returns c = search rules
