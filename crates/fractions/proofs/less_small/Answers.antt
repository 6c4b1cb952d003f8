-- Both cross products fit 64 bits since the fractions are small, so the code compares what the definition compares.
use mathlib.Core.Path.{refl}
use native.Mathlib.Omega.{arith}
use Rattle.fractions.specs.Order.{less}
use Rattle.fractions.proofs.Laws.{small_cross}
use Rattle.fractions.proofs.less_small.Goals as goal

pub overflow_mul-result : goal.overflow_mul-result
overflow_mul-result c = omega (arith, small_cross c.requires.0 c.requires.1)

pub overflow_mul-result-2 : goal.overflow_mul-result-2
overflow_mul-result-2 c = omega (arith, small_cross c.requires.1 c.requires.0)

pub returns : goal.returns
unfolding less
returns c = refl
