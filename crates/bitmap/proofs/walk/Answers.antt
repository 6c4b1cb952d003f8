-- `bitmap::walk` meets its contract: no bit from `start` up to i is set, as Turns says. Assumes nothing.
use Prim.Native.Nat.{ℕ, ◌<◌}
use lib.ListN.{get_or}
use native.Mathlib.Omega.{arith}
use mathlib.Core.Path.{◌≡◌}
use Rattle.bitmap.specs.Map.{map_size}
use Rattle.bitmap.proofs.Turns.{Turned, walk_none, walk_turn, walk_end}
use Rattle.bitmap.proofs.walk.Goals as goal
use Rattle.bitmap.proofs.walk.Goals.{In-Some}

-- what the turn's word tells where it has a bit
turn : (c : In-Some) → ((k : ℕ) → get_or c.args.map.now k 0 < 256) →
    let a = c.args in
    Turned a.map.now a.n a.start c.loop-i.i c.in-Some.t
turn c bytes =
    let e : c.div_ceil-size.result ≡ map_size c.args.n = omega (arith, c.div_ceil-size.ensures) in
    walk_turn (omega arith) c.loop-i.invariant bytes (rw e at c.word_at.ensures) c.in-Some.ensures.next

pub loop-i-init : goal.loop-i-init
loop-i-init c = walk_none _ _ _

pub returns-then-r-n : goal.returns-then-r-n
returns-then-r-n c =
    (turn (goal.at.returns-then-r-n c).In-Some (λ k. (c.type_inv.map k).fits)).found c.in-Some.ensures.inside c.if-r-n.true

pub returns-else-r-n : goal.returns-else-r-n
returns-else-r-n c = (turn (goal.at.returns-else-r-n c).In-Some (λ k. (c.type_inv.map k).fits)).past c.if-r-n.false

pub loop-i-preserved : goal.loop-i-preserved
loop-i-preserved c =
    let e : c.div_ceil-size.result ≡ map_size c.args.n = omega (arith, c.div_ceil-size.ensures) in
    (walk_turn (omega arith) c.loop-i.invariant (λ k. (c.type_inv.map k).fits) (rw e at c.word_at.ensures) c.in_default.ensures.next).more (omega arith)

pub returns : goal.returns
returns c = walk_end (omega arith) c.loop-i.invariant c.loop-i-test.false
