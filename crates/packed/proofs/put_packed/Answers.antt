-- `packed::put_packed`: three bytes stored one behind the other. Assumes nothing.
use Prim.Native.Nat.{suc, ◌+◌}
use mathlib.Core.Path.{◌≡◌}
use lib.ListN.{length-set}
use Rattle.packed.specs.Packed.{packed_of}
use native.Mathlib.Omega.{arith}
use Rattle.packed.proofs.put_packed.Goals as goal

pub bounds-out-at-2 : goal.bounds-out-at-2
bounds-out-at-2 c = simp length-set (omega arith)

pub bounds-out-at-3 : goal.bounds-out-at-3
bounds-out-at-3 c = simp length-set (omega arith)

pub returns : goal.returns
unfolding packed_of
returns c =
    let e : c.args.at + 1 ≡ suc c.args.at = omega arith in
    let f : c.args.at + 2 ≡ suc (suc c.args.at) = omega arith in
    rw (e, f)
