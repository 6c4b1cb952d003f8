-- `joining::put_bodies` meets its contract: what is left to copy makes the whole, whatever was copied so far. Assumes nothing.
use Prim.Native.Nat.{◌+◌}
use mathlib.Core.Path.{◌≡◌}
use mathlib.Core.List.{map}
use lib.ListN.{length, drop}
use lib.Seq.{sets}
use Rattle.contents.specs.Contents.{chain}
use Rattle.joining.proofs.put_bodies.Given as goal

abbrev pub invariant-loop-body : goal.invariant-loop-body
invariant-loop-body l =
    (length l.out ≡ length l.initial.out)
    × (l.at + length (chain (drop l.body-index (map (λ x. x.now) l.bodies))) ≡ l.start + length (chain (map (λ x. x.now) l.bodies)))
    × (sets l.out l.at (chain (drop l.body-index (map (λ x. x.now) l.bodies))) ≡ sets l.initial.out l.start (chain (map (λ x. x.now) l.bodies)))
