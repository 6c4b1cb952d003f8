-- `bitmap::test_bit` meets its contract: the mask 1 leaves the lowest bit of the shifted byte. Assumes nothing.
use lib.Bits.{and_mask}
use Rattle.bitmap.proofs.test_bit.Goals as goal

pub returns : goal.returns
returns c = and_mask _ 1
