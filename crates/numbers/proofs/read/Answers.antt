-- `numbers::read` meets its contract: v stays the number of the bytes passed, as Turns says. Assumes nothing.
use Prim.Native.Nat.{◌+◌, ◌-◌}
use native.Mathlib.Omega.{arith}
use Rattle.numbers.proofs.Turns.{read_none, read_more, read_room}
use Rattle.numbers.proofs.read.Goals as goal

pub loop-j-init : goal.loop-j-init
loop-j-init c = read_none _ _ _

pub overflow_mul-v : goal.overflow_mul-v
overflow_mul-v c = omega (arith, read_room c.loop-j.invariant (omega arith) (omega arith) (omega arith))

pub overflow_add-v : goal.overflow_add-v
overflow_add-v c = omega (arith, c.type_inv.s (c.args.at + (c.loop-j.j - 1)), read_room c.loop-j.invariant (omega arith) (omega arith) (omega arith))

pub loop-j-preserved : goal.loop-j-preserved
loop-j-preserved c = rw c.from.ensures (read_more c.loop-j.invariant (omega arith) (omega arith) (c.type_inv.s (c.args.at + (c.loop-j.j - 1))).fits)
