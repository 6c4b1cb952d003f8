-- `judging::narrowed` meets its contract: the bound only falls, and never by more than it is. Assumes nothing.
use Prim.Native.Nat.{◌*◌, ◌≤◌}
use Rattle.clashing.specs.Clash.{widest_radius}
use Rattle.judging.proofs.narrowed.Given as goal

abbrev pub invariant-loop-step : goal.invariant-loop-step
invariant-loop-step l = (2 * l.step ≤ l.bound) × (l.bound ≤ widest_radius)

abbrev pub decreases-loop-step : goal.decreases-loop-step
decreases-loop-step l = l.step
