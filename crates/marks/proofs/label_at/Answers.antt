-- `marks::label_at` meets its contract: the place and the used radius that were read. Assumes nothing.
use Rattle.marks.proofs.Laws.{place_passed}
use Rattle.marks.proofs.label_at.Goals as goal

pub returns : goal.returns
returns c =
    rw (place_passed c.place_x.type_inv c.place_x.ensures, place_passed c.place_y.type_inv c.place_y.ensures, c.radius_at.ensures)
