-- `marks::distance` meets its contract: two squares of 62 bits each fit 64 together, and the larger square is that of the larger difference.
-- Assumes nothing.
use Prim.Native.Nat.{ℕ, ◌*◌, max}
use mathlib.Core.Path.{◌≡◌, ◌∙◌}
use native.Mathlib.Omega.{arith}
use borrow.Author.Tests.{eq-eqb, ne_eqb}
use Rattle.std.proofs.lemmas.Bool.Decides.{nat_tests}
use lib.IntN.{nat_abs}
use mir.Facts.{to_z-of_z}
use Rattle.marks.specs.Marks.{larger, distance}
use Rattle.marks.proofs.Laws.{larger_squared}
use Rattle.marks.proofs.Signed.{square_most}
use Rattle.marks.proofs.distance.Goals as goal
use Rattle.marks.proofs.distance.Goals.{After-squared-y}

-- the two squares
squares : (c : After-squared-y)
    → (c.squared-x.result ≡ nat_abs c.args.dx * nat_abs c.args.dx)
    × (c.squared-y.result ≡ nat_abs c.args.dy * nat_abs c.args.dy)
squares c =
    let f = c.ranges in
    (rw (to_z-of_z f.dx) at c.squared-x.ensures, rw (to_z-of_z f.dy) at c.squared-y.ensures)

max_larger : (a b : ℕ) → max a b ≡ larger a b
max_larger a b = grind (arith, nat_tests)

pub overflow_add-result : goal.overflow_add-result
overflow_add-result c =
    let e = squares (goal.at.overflow_add-result c).After-squared-y in
    record { fits = omega (arith, e.0, e.1, square_most _ c.ranges.dx, square_most _ c.ranges.dy) }

pub returns-then-shape-ne-SQUARE : goal.returns-then-shape-ne-SQUARE
unfolding distance
returns-then-shape-ne-SQUARE c =
    let e = squares (goal.at.returns-then-shape-ne-SQUARE c).After-squared-y in
    rw (ne_eqb _ 2 c.if-shape-ne-SQUARE.true, e.0, e.1)

pub returns : goal.returns
unfolding distance
returns c =
    let e = squares (goal.at.returns c).After-squared-y in
    rw (eq-eqb _ 2 c.if-shape-ne-SQUARE.false, larger_squared _ _, ← e.0, ← e.1) (c.max.ensures ∙ max_larger _ _)
