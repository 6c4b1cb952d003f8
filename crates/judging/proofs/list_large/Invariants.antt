-- `judging::list_large` meets its contract: while the loop runs, the large ones of the marks before m are listed. Assumes nothing.
use Prim.Native.Nat.{◌≤◌}
use mathlib.Core.Path.{◌≡◌}
use lib.ListN.{length}
use Rattle.judging.specs.Search.{Listed}
use Rattle.judging.proofs.list_large.Given as goal

abbrev pub invariant-loop-m : goal.invariant-loop-m
invariant-loop-m l = (l.k ≤ 128) × (length l.large ≡ 128) × Listed l.reel.marks.now l.reel.count l.m l.bound l.large l.k
