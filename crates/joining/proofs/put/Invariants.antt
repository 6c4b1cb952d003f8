-- The loop's invariant: what is left to copy makes the whole, whatever was copied so far.
use Prim.Native.Nat.{◌+◌}
use mathlib.Core.Path.{◌≡◌}
use lib.ListN.{length, drop}
use lib.Seq.{sets}
use Rattle.joining.proofs.put.Given as goal

abbrev pub invariant-loop-j : goal.invariant-loop-j
invariant-loop-j l =
    (length l.out ≡ length l.initial.out) × (sets l.out (l.at + l.j) (drop l.j l.body) ≡ sets l.initial.out l.at l.body)
