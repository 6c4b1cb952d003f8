-- `bitmap::count` meets its contract: the sum is the count of the words passed, as Turns says. Assumes nothing.
use Prim.Native.Nat.{◌-◌}
use Rattle.bitmap.proofs.Turns.{Counting}
use Rattle.bitmap.proofs.count.Given as goal

abbrev pub invariant-loop-q : goal.invariant-loop-q
invariant-loop-q l = Counting l.map l.size l.sum l.q

abbrev pub decreases-loop-q : goal.decreases-loop-q
decreases-loop-q l = l.size - l.q
