-- `grid::gap` meets its contract: a number of 16 bits is at most 65,535 away. Assumes nothing.
use mathlib.Core.Path.{◌∙◌}
use mir.Facts.{to_z-of_z}
use native.Mathlib.Omega.{arith}
use borrow.Author.Rules.{rules}
use Rattle.grid.proofs.gap.Goals as goal

pub overflow_cast-result-3 : goal.overflow_cast-result-3
overflow_cast-result-3 c = search rules

pub returns : goal.returns
returns c =
    (to_z-of_z (overflow_cast-result-3 c) ∙ rw (c.saturating_sub-below.ensures, c.saturating_sub-above.ensures), omega arith)
