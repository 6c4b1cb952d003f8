-- `reaching::gap` meets its contract: the gap is at most 131,072. Assumes nothing.
use mathlib.Core.Path.{◌∙◌}
use native.Mathlib.Omega.{arith}
use mir.Facts.{to_z-of_z}
use Rattle.reaching.proofs.gap.Goals as goal

pub overflow_cast-result : goal.overflow_cast-result
overflow_cast-result c = record { sfits = omega arith }

pub returns : goal.returns
returns c = (to_z-of_z (overflow_cast-result c) ∙ rw (c.saturating_sub.ensures, c.saturating_sub-2.ensures), omega arith)
