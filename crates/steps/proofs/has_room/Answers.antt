-- `steps::has_room`: the two bounds in their order. Assumes nothing.
use Prim.Native.Nat.{◌+◌, ◌*◌}
use borrow.Author.Tests.{le-leb, lt-leb}
use Rattle.steps.proofs.has_room.Goals as goal

pub returns-then-n-work : goal.returns-then-n-work
returns-then-n-work c =
    let a = c.args in
    rw (le-leb (32 * a.n + 1024) a.work c.if-n-work.true)

pub returns-else-n-work : goal.returns-else-n-work
returns-else-n-work c = let a = c.args in rw (lt-leb (32 * a.n + 1024) a.work c.if-n-work.false)
