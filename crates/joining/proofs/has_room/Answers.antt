-- `joining::has_room` meets its contract: the contents take their room, and the bodies fit the rest. Assumes nothing.
use mathlib.Core.Path.{sym, ◌∙◌}
use mathlib.Core.List.{map}
use lib.ListN.{length, length-map}
use borrow.Author.Tests.{lt-leb}
use Rattle.contents.specs.Contents.{contents_size, chain}
use Rattle.joining.specs.Writing.{together_size, leb_less}
use native.Mathlib.Omega.{arith}
use Rattle.joining.proofs.has_room.Goals as goal

pub returns-then-head-room : goal.returns-then-head-room
returns-then-head-room c =
    let bodies = map (λ x. x.now) c.args.bodies.now in
    rw (together_size c.args.codes.now bodies (rw length-map c.requires.0))
    (c.fits.ensures ∙ leb_less (contents_size (length c.args.codes.now)) (length (chain bodies)) c.args.room c.if-head-room.true)

pub returns-else-head-room : goal.returns-else-head-room
returns-else-head-room c =
    let bodies = map (λ x. x.now) c.args.bodies.now in
    let size = together_size c.args.codes.now bodies (rw length-map c.requires.0) in
    lt-leb _ c.args.room (omega arith) ∙ sym (lt-leb _ c.args.room (omega arith))
