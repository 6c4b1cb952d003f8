-- `zoom::lives` meets its contract: the square of 32 bits fits 64. Assumes nothing.
use Rattle.std.proofs.Common.{◌≤◌, mul-le-mul, arith}
use Rattle.zoom.specs.Living.{lives_at}
use Rattle.zoom.proofs.lives.Goals as goal

pub overflow_mul-num : goal.overflow_mul-num
overflow_mul-num c =
    let k : c.args.k ≤ 4294967295 = omega arith in
    record { fits = omega (arith, mul-le-mul k k) }

pub returns : goal.returns
unfolding lives_at
returns c = c.later.ensures
