-- `contents::bodies_join` meets its contract: while the loop runs, `start` is where the next body has to start, and every body before it starts right. Assumes nothing.
use Prim.Native.Nat.{◌^◌, ◌<◌}
use mathlib.Core.Path.{◌≡◌}
use mathlib.Core.Bool.{true}
use lib.Dec.{eqb}
use Rattle.lists.specs.Tests.{every}
use Rattle.contents.specs.Contents.{offset_at, start_at}
use Rattle.contents.proofs.bodies_join.Given as goal

abbrev pub invariant-loop-i : goal.invariant-loop-i
invariant-loop-i l = (l.start ≡ start_at l.s l.i) × (l.start < 2 ^ 33) × (every (λ k. eqb (offset_at l.s k) (start_at l.s k)) l.i ≡ true)
