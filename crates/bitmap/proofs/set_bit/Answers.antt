-- `bitmap::set_bit` meets its contract: an or with the mask of one bit, as Machine says. Assumes nothing.
use Rattle.bitmap.proofs.Machine.{bit_set}
use Rattle.bitmap.proofs.set_bit.Goals as goal

pub returns : goal.returns
returns c = bit_set _ _ c.requires
