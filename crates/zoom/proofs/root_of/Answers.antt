-- `zoom::root_of`: what the library's root promises makes it a root, and a number has only one. Assumes nothing.
use Rattle.std.proofs.Common.{arith}
use Rattle.zoom.proofs.Lemmas.Roots.{root_is, root_unique}
use Rattle.zoom.proofs.root_of.Goals as goal

pub returns : goal.returns
returns c =
    let r = c.isqrt.ensures in
    root_unique c.args.v _ _ (record { low = omega (arith, r.square_le); high = omega (arith, r.next_square_gt) }) (root_is 32 _ c.ranges.v.fits)
