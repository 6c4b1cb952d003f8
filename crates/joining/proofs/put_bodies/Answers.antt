-- `joining::put_bodies` meets its contract: what is left to copy makes the whole, whatever was copied so far. Assumes nothing.
use mathlib.Core.Path.{ap, ◌∙◌}
use native.Mathlib.Omega.{arith}
use lib.ListN.{length}
use Rattle.joining.specs.Writing.{chain_done}
use Rattle.joining.proofs.Bodies.{left_less, left_put}
use Rattle.joining.proofs.put_bodies.Goals as goal

pub put-at-requires : goal.put-at-requires
put-at-requires c = let e = left_less c.args.bodies.now c.loop-body.body-index c.loop-body-test.true in omega arith

pub loop-body-preserved : goal.loop-body-preserved
loop-body-preserved c =
    let l = c.loop-body in
    let bodies = c.args.bodies.now in
    let t = c.loop-body-test.true in
    let e = left_less bodies l.body-index t in
    (c.put-at.auto.out ∙ l.invariant.0, omega (arith, c.put-at.ensures.0), left_put bodies l.body-index t l.out l.at c.put-at.ensures ∙ l.invariant.2)

pub returns : goal.returns
returns c =
    let none = chain_done (λ x. x.now) c.args.bodies.now c.loop-body.body-index c.loop-body-test.false in
    let e = ap length none in
    (omega arith, rw none at c.loop-body.invariant.2)
