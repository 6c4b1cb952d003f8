-- `listing::put_listing` meets its contract: the first line, and the marks' lines behind it. Assumes nothing.
use native.Mathlib.Omega.{arith}
use Rattle.text.proofs.Laws.{wrote_then, wrote_length}
use Rattle.listing.specs.Lines.{text, listing}
use Rattle.listing.proofs.Laws.{first_room_lem}
use Rattle.listing.proofs.put_listing.Goals as goal

pub put_marks-requires : goal.put_marks-requires
put_marks-requires c =
    let a = c.args in
    let p = c.requires in
    let w = c.put_first_line-next.ensures in
    (p.0, omega (arith, w.ends, wrote_length w, first_room_lem (text "marks") a.n (omega arith), p.1))

pub returns : goal.returns
unfolding listing
returns c =
    wrote_then c.put_first_line-next.ensures c.put_marks.ensures
