-- `clashing::popup_value` meets its contract: k is at most 65,536, and so its square fits. Assumes nothing.
use mathlib.Core.Path.{refl}
use native.Mathlib.Nat.{mul-le-mul}
use native.Mathlib.Omega.{arith}
use Rattle.clashing.proofs.popup_value.Goals as goal

pub overflow_mul-num : goal.overflow_mul-num
overflow_mul-num c = record { fits = omega (arith, mul-le-mul c.requires c.requires) }

pub returns : goal.returns
returns c = (refl, record { num_small = omega (arith, mul-le-mul c.requires c.requires); den_small = omega arith })
