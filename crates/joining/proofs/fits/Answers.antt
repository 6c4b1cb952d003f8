-- `joining::fits` meets its contract: what is left of the room is the room less the bodies passed. Assumes nothing.
use mathlib.Core.Path.{ap, sym}
use mathlib.Core.List.{map}
use native.Mathlib.Omega.{arith}
use lib.ListN.{length}
use borrow.Author.Tests.{le-leb, lt-leb}
use Rattle.contents.specs.Contents.{chain}
use Rattle.joining.specs.Writing.{chain_done}
use Rattle.joining.proofs.Bodies.{left_less}
use Rattle.joining.proofs.fits.Goals as goal

pub returns-then-left-size : goal.returns-then-left-size
returns-then-left-size c =
    let bodies = c.args.bodies.now in
    let e = left_less bodies c.loop-body.body-index c.loop-body-test.true in
    sym (lt-leb (length (chain (map (λ x. x.now) bodies))) c.args.room (omega arith))

pub loop-body-preserved : goal.loop-body-preserved
loop-body-preserved c = let e = left_less c.args.bodies.now c.loop-body.body-index c.loop-body-test.true in omega arith

pub returns : goal.returns
returns c =
    let bodies = c.args.bodies.now in
    let e = ap length (chain_done (λ x. x.now) bodies c.loop-body.body-index c.loop-body-test.false) in
    sym (le-leb (length (chain (map (λ x. x.now) bodies))) c.args.room (omega arith))
