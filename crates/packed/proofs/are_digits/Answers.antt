-- `packed::are_digits`: both halves are tested. Assumes nothing.
use Rattle.packed.specs.Packed.{are_digits}
use borrow.Author.Rules.{rules}
use Rattle.packed.proofs.are_digits.Goals as goal

pub returns : goal.returns
unfolding are_digits
returns c = search rules
