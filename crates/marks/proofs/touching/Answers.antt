-- `marks::touching` meets its contract: `touching_of` is handed the two labels. Assumes nothing.
use Rattle.marks.specs.Marks.{touching}
use Rattle.marks.proofs.touching.Goals as goal

pub touching_of-requires : goal.touching_of-requires
touching_of-requires c =
    let p = c.requires.a_bound in
    (rw c.label_at.ensures p.0, rw c.label_at-2.ensures p.1)

pub returns : goal.returns
unfolding touching
returns c =
    (rw (c.label_at.ensures, c.label_at-2.ensures) at c.touching_of.ensures.0, c.touching_of.ensures.1)
