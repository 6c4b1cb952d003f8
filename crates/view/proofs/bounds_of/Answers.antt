-- `view::bounds_of` meets its contract: what it is widened by is at most 2²⁶. Assumes nothing.
use Prim.Native.Nat.{◌*◌, ◌≤◌}
use native.Mathlib.Omega.{arith}
use native.Mathlib.Nat.{mul-le-mul}
use Rattle.zoom.specs.Zoom.{largest_scale}
use Rattle.view.specs.Search.{bounds_of}
use Rattle.view.proofs.bounds_of.Goals as goal
use Rattle.view.proofs.bounds_of.Goals.{Start}

-- k times a radius of 16 bits
most : (a : Start) → a.args.k * a.args.widest ≤ largest_scale * 65535
most a =
    let radius : a.args.widest ≤ 65535 = omega arith in
    mul-le-mul a.requires.1 radius

pub overflow_mul-by : goal.overflow_mul-by
overflow_mul-by c = record { fits = omega (arith, most (goal.at.overflow_mul-by c).Start) }

pub moved-requires : goal.moved-requires
moved-requires c = (c.requires.0.x0_most, omega (arith, most (goal.at.moved-requires c).Start))

pub moved-requires-2 : goal.moved-requires-2
moved-requires-2 c = (c.requires.0.x1_most, omega (arith, most (goal.at.moved-requires-2 c).Start))

pub moved-requires-3 : goal.moved-requires-3
moved-requires-3 c = (c.requires.0.y0_most, omega (arith, most (goal.at.moved-requires-3 c).Start))

pub moved-requires-4 : goal.moved-requires-4
moved-requires-4 c = (c.requires.0.y1_most, omega (arith, most (goal.at.moved-requires-4 c).Start))

pub returns : goal.returns
unfolding bounds_of
returns c = rw (c.moved.ensures, c.moved-2.ensures, c.moved-3.ensures, c.moved-4.ensures)
