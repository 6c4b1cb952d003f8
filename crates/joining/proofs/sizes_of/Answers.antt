-- `joining::sizes_of` meets its contract: the sizes of the bodies passed are listed. Assumes nothing.
use mathlib.Core.Path.{sym, ap, ap₂, ◌∙◌}
use mathlib.Core.List.{map, List, [], ◌∷◌, ◌++◌}
use lib.ListN.{length, length-map}
use lib.Seq.{take-suc, take_all, length-take-le}
use Rattle.std.proofs.Math.Numerals.{add-one}
use Prim.Native.Nat.{ℕ, ◌≤◌, ◌<◌}
use Rattle.contents.specs.Contents.{sizes_of}
use Rattle.joining.specs.Writing.{size_at}
use Rattle.joining.proofs.Bodies.{here}
use native.Mathlib.Omega.{arith}
use Rattle.joining.proofs.sizes_of.Goals as goal

pub push-requires : goal.push-requires
push-requires c =
    let l = c.loop-body in
    let sizes = sizes_of (map (λ x. x.now) c.args.bodies.now) in
    let in_sizes : l.body-index ≤ length sizes = rw (length-map, length-map) (omega arith) in
    omega (arith, c.requires, c.loop-body-test.true, ap length l.invariant, length-take-le l.body-index sizes in_sizes)

pub loop-body-preserved : goal.loop-body-preserved
loop-body-preserved c =
    let l = c.loop-body in
    let bodies = map (λ x. x.now) c.args.bodies.now in
    let size = ap length (here c.args.bodies.now l.body-index c.loop-body-test.true) ∙ size_at bodies l.body-index in
    let inside : l.body-index < length (sizes_of bodies) = rw (length-map, length-map) c.loop-body-test.true in
    rw (add-one l.body-index) (c.push.ensures.items ∙ ap₂ (λ (a : List ℕ) (n : ℕ). a ++ n ∷ []) l.invariant size ∙ sym (take-suc (sizes_of bodies) l.body-index 0 inside))

pub returns : goal.returns
returns c =
    let sizes = sizes_of (map (λ x. x.now) c.args.bodies.now) in
    let whole : length sizes ≤ c.loop-body.body-index = rw (length-map, length-map) c.loop-body-test.false in
    c.loop-body.invariant ∙ take_all c.loop-body.body-index sizes whole
