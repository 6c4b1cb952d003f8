-- `rollmap::rollmap_part`: the place as the sheet tells it, and so the part's bytes. Assumes nothing.
use Rattle.sheet.proofs.Laws.{located}
use Rattle.rollmap.proofs.rollmap_part.Goals as goal

pub returns : goal.returns
returns c = (c.place_of.ensures, rw c.place_of.ensures (located _ _))
