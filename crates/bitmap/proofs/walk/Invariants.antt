-- `bitmap::walk` meets its contract: no bit from `start` up to i is set, as Turns says. Assumes nothing.
use Prim.Native.Nat.{◌-◌}
use Rattle.bitmap.proofs.Turns.{Walking}
use Rattle.bitmap.proofs.walk.Given as goal

abbrev pub invariant-loop-i : goal.invariant-loop-i
invariant-loop-i l = Walking l.map l.n l.start l.i

abbrev pub decreases-loop-i : goal.decreases-loop-i
decreases-loop-i l = l.n - l.i
