-- `judging::pick_bound` meets its contract: the bound only falls. Assumes nothing.
use Prim.Native.Nat.{◌≤◌}
use Rattle.clashing.specs.Clash.{widest_radius}
use Rattle.judging.proofs.pick_bound.Given as goal

abbrev pub invariant-loop-bound : goal.invariant-loop-bound
invariant-loop-bound l = (l.bound ≤ widest_radius) × (l.above ≤ l.few)

abbrev pub decreases-loop-bound : goal.decreases-loop-bound
decreases-loop-bound l = l.bound
