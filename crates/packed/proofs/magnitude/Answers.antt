-- `packed::magnitude`: five digits, each times its power of ten. Assumes nothing.
use Rattle.packed.specs.Packed.{magnitude}
use native.Mathlib.Omega.{arith}
use Rattle.packed.proofs.magnitude.Goals as goal

pub returns : goal.returns
unfolding magnitude
returns c = omega arith
