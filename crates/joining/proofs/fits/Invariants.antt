-- `joining::fits` meets its contract: what is left of the room is the room less the bodies passed. Assumes nothing.
use Prim.Native.Nat.{◌+◌}
use mathlib.Core.Path.{◌≡◌}
use mathlib.Core.List.{map}
use lib.ListN.{length, drop}
use Rattle.contents.specs.Contents.{chain}
use Rattle.joining.proofs.fits.Given as goal

abbrev pub invariant-loop-body : goal.invariant-loop-body
invariant-loop-body l = length (chain (map (λ x. x.now) l.bodies)) + l.left ≡ l.room + length (chain (drop l.body-index (map (λ x. x.now) l.bodies)))
