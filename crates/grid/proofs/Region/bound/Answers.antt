-- `grid::Region::bound` meets its contract: nearest place and largest radius. Assumes nothing.
use Prim.Native.Nat.{◌+◌, ◌≤◌}
use mathlib.Core.Path.{ap₂, ◌∙◌}
use native.Mathlib.Omega.{arith}
use native.Mathlib.Nat.{mul-le-mul}
use mir.Facts.{to_z-of_z}
use mir.Syntax.{w16, w32}
use lib.IntN.{nat_abs}
use Rattle.marks.specs.Marks.{distance}
use Rattle.marks.proofs.Laws.{distance_bound}
use borrow.Author.Rules.{sfits_of}
use borrow.Author.Rules.{rules}
use Rattle.grid.proofs.Region.bound.Goals as goal

pub returns : goal.returns
returns c =
    let k : c.args.self.radius + c.args.label.radius ≤ 32766 = omega (arith, c.requires) in
    let gx = rw (c.shifted.ensures, to_z-of_z {w = w16} {z = c.args.label.x} (search rules)) at c.gap-dx.ensures in
    let gy = rw (c.shifted-2.ensures, to_z-of_z {w = w16} {z = c.args.label.y} (search rules)) at c.gap-dy.ensures in
    let d = c.distance.ensures
    ∙ ap₂ (λ u v. distance c.args.shape (nat_abs u) (nat_abs v)) (to_z-of_z {w = w32} {z = c.gap-dx.result} (sfits_of c.gap-dx.type_inv) ∙ gx.0)
    (to_z-of_z {w = w32} {z = c.gap-dy.result} (sfits_of c.gap-dy.type_inv) ∙ gy.0) in
    (rw d, rw d (record { num_small = distance_bound c.args.shape gx.1 gy.1; den_small = omega (arith, mul-le-mul k k) }))
