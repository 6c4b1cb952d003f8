-- `counts::copied`: 13, or the sheet's own bytes. Assumes nothing.
use mathlib.Core.Path.{refl}
use mathlib.Core.List.{[]}
use lib.ListN.{length}
use Rattle.contents.proofs.Laws.{none_asked}
use Rattle.jobs.proofs.Laws.Rooms.{no_room, wrote}
use Rattle.counts.proofs.copied.Goals as goal

pub returns-then-out-length : goal.returns-then-out-length
returns-then-out-length c =
    let s = c.args.sheet.now in
    no_room [] tt (length s) s _ none_asked c.if-out-length.true refl

pub returns : goal.returns
returns c =
    let s = c.args.sheet.now in
    wrote [] tt (length s) s _ none_asked c.if-out-length.false refl refl c.put.ensures.1
