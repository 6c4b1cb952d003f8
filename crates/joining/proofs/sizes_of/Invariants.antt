-- `joining::sizes_of` meets its contract: the sizes of the bodies passed are listed. Assumes nothing.
use mathlib.Core.Path.{◌≡◌}
use lib.ListN.{take}
use mathlib.Core.List.{map}
use Rattle.contents.specs.Contents.{sizes_of}
use Rattle.joining.proofs.sizes_of.Given as goal

abbrev pub invariant-loop-body : goal.invariant-loop-body
invariant-loop-body l = l.sizes.items ≡ take l.body-index (sizes_of (map (λ x. x.now) l.bodies))
