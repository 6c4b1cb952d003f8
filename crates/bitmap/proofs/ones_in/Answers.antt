-- `bitmap::ones_in` meets its contract: the machine counts the same bits. Assumes nothing.
use Rattle.bitmap.proofs.Machine.{ones_are}
use Rattle.bitmap.proofs.ones_in.Goals as goal

pub returns : goal.returns
returns c = ones_are 64 _ c.ranges.word.fits
