-- `bitmap::count` meets its contract: the sum is the count of the words passed, as Turns says. Assumes nothing.
use native.Mathlib.Omega.{arith}
use Rattle.bitmap.proofs.Turns.{count_bits_none, count_room, count_more, count_all}
use Rattle.bitmap.proofs.count.Goals as goal

pub loop-q-init : goal.loop-q-init
loop-q-init c = count_bits_none _ _

pub overflow_add-sum : goal.overflow_add-sum
overflow_add-sum c = omega (arith, count_room c.loop-q.invariant)

pub loop-q-preserved : goal.loop-q-preserved
loop-q-preserved c = count_more c.loop-q.invariant (λ k. (c.type_inv.map k).fits) c.word_at.ensures c.ones_in.ensures

pub returns : goal.returns
returns c = count_all c.loop-q.invariant (omega arith)

-- the way out after the last word
pub returns-2 : goal.returns-2
returns-2 c =
    count_all (count_more c.loop-q.invariant (λ k. (c.type_inv.map k).fits) c.word_at.ensures c.ones_in.ensures) (omega arith)
