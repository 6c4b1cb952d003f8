-- `index::coordinate` meets its contract, on either axis. Assumes nothing.
use borrow.Author.Rules.{sfits_of}
use native.Mathlib.Omega.{arith}
use mir.Facts.{to_z-of_z}
use Rattle.index.specs.Index.{coordinate}
use Rattle.index.proofs.coordinate.Goals as goal
use Rattle.index.proofs.coordinate.Goals.{then-axis, else-axis}

pub returns : goal.returns
unfolding coordinate
returns c = (
  elim c.if-axis.branch [
    | then-axis w ↦ rw (c.shifted.ensures, w.place-is, to_z-of_z (sfits_of w.place_x-place.type_inv), w.place_x-place.ensures, w.if-axis.true)
    | else-axis w ↦ rw (c.shifted.ensures, w.place-is, to_z-of_z (sfits_of w.place_y-place.type_inv), w.place_y-place.ensures, w.if-axis.false)
  ],
  omega arith,
)
