-- `scheduling::plan::columns_for` meets its contract: fewer than 16 columns are doubled. Assumes nothing.
use Prim.Native.Nat.{◌-◌, ◌<◌, ◌≤◌}
use Rattle.scheduling.proofs.plan.columns_for.Given as goal

abbrev pub invariant-loop-columns : goal.invariant-loop-columns
invariant-loop-columns l = (0 < l.columns) × (l.columns ≤ 32)

abbrev pub decreases-loop-columns : goal.decreases-loop-columns
decreases-loop-columns l = l.small - l.columns
