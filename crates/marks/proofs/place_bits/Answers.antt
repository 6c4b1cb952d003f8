-- `marks::place_bits` meets its contract: the cast keeps the 16 bits. Assumes nothing.
use mathlib.Core.Path.{◌≡◌, refl, ap, ◌∙◌}
use native.Mathlib.Omega.{arith}
use lib.IntN.{ℤ, pos, negsuc}
use mir.Syntax.{w16}
use mir.Val.{of_z}
use mir.Facts.{to_z-of_z}
use Rattle.marks.specs.Marks.{place_bits}
use Rattle.marks.proofs.place_bits.Goals as goal

bits : (z : ℤ) → of_z w16 z ≡ place_bits z
unfolding place_bits
bits (pos a) = refl
bits (negsuc a) = omega arith

pub returns : goal.returns
returns c = c.cast_unsigned.ensures ∙ ap (of_z w16) (to_z-of_z c.ranges.v) ∙ bits c.args.v
