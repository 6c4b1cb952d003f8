-- `marks::squared` meets its contract: the square of 32 bits fits 64 bits with a sign. Assumes nothing.
use native.Mathlib.Omega.{arith}
use mir.Syntax.{w64}
use Rattle.marks.proofs.Signed.{widens, widened, square_most, square_fits, square_back}
use Rattle.marks.proofs.squared.Goals as goal

pub overflow_cast-e : goal.overflow_cast-e
overflow_cast-e c = widens w64 tt c.ranges.d

pub overflow_mul-result : goal.overflow_mul-result
overflow_mul-result c = rw (widened w64 tt c.ranges.d) (square_fits c.args.d c.ranges.d)

pub overflow_cast-result : goal.overflow_cast-result
overflow_cast-result c =
    rw (widened w64 tt c.ranges.d, square_back c.args.d c.ranges.d)
    (tt, record { fits = omega (arith, square_most c.args.d c.ranges.d) })

pub returns : goal.returns
returns c = rw (widened w64 tt c.ranges.d, square_back c.args.d c.ranges.d)
