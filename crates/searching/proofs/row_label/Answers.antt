-- `searching::row_label` meets its contract: the place and the radius that were read. Assumes nothing.
use Rattle.marks.proofs.Laws.{place_passed}
use Rattle.searching.proofs.row_label.Goals as goal

pub returns : goal.returns
returns c =
    rw (place_passed c.read_i16.type_inv c.read_i16.ensures, place_passed c.read_i16-2.type_inv c.read_i16-2.ensures, c.read_u16.ensures)
