-- `marks::touching_of` meets its contract: the distance told is that of the definition, which is small. Assumes nothing.
use mathlib.Core.Path.{ap₂, ◌∙◌}
use native.Mathlib.Omega.{arith}
use borrow.Author.Rules.{rules}
use lib.IntN.{nat_abs}
use Rattle.marks.specs.Marks.{distance, touching_of}
use Rattle.marks.proofs.Laws.{Placed, touching_of_small}
use Rattle.marks.proofs.Signed.{told}
use Rattle.marks.proofs.touching_of.Goals as goal
use Rattle.marks.proofs.touching_of.Goals.{After-difference}

-- both labels have places of 16 bits
placed_a : (c : After-difference) → Placed c.args.a
placed_a c =
    record { x_fits = search rules; y_fits = search rules }

placed_b : (c : After-difference) → Placed c.args.b
placed_b c =
    record { x_fits = search rules; y_fits = search rules }

pub returns : goal.returns
unfolding touching_of
returns c =
    let p = placed_a (goal.at.returns c).After-difference in
    let q = placed_b (goal.at.returns c).After-difference in
    let r = c.requires in
    let e = c.distance-num.ensures ∙ ap₂ (λ u v. distance c.args.shape (nat_abs u) (nat_abs v))
    (told p.x_fits q.x_fits c.difference.ensures) (told p.y_fits q.y_fits c.difference-2.ensures) in
    (rw e, rw e (touching_of_small _ _ _ p q r.0 r.1))

pub overflow_mul-den : goal.overflow_mul-den
overflow_mul-den c = omega (arith, (returns c).1)
