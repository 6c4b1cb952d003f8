-- `rollmap::rollmap_view_wheel`: the view at a wheel value. Assumes nothing.
use mir.Facts.{to_z-of_z}
use Rattle.jobs.proofs.Theorems.{view_whole}
use Rattle.jobs.proofs.Turns.{turn_meets}
use Rattle.rollmap.proofs.rollmap_view_wheel.Goals as goal

pub returns : goal.returns
returns c =
    let gives = rw (to_z-of_z {z = c.args.x0} c.ranges.x0, to_z-of_z {z = c.args.x1} c.ranges.x1, to_z-of_z {z = c.args.y0} c.ranges.y0, to_z-of_z {z = c.args.y1} c.ranges.y1) at c.view.ensures in
    let told = view_whole gives in
    rw c.from.ensures (record { gives = told.0; meets_view = (told.1, turn_meets gives) })
