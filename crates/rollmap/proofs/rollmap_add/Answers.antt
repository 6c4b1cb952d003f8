-- `rollmap::rollmap_add`: what `changes::add` gives. Assumes nothing.
use mir.Facts.{to_z-of_z}
use Rattle.rollmap.proofs.rollmap_add.Goals as goal

pub returns : goal.returns
returns c =
    rw c.from.ensures (rw (to_z-of_z {z = c.args.x} c.ranges.x, to_z-of_z {z = c.args.y} c.ranges.y) at c.add.ensures)
