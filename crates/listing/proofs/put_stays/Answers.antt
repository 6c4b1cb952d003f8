-- `listing::put_stays` meets its contract: the number ends at most `number_room` bytes on, and the two bytes behind it make the line. Assumes nothing.
use native.Mathlib.Omega.{arith}
use lib.ListN.{length-set}
use Rattle.listing.proofs.Laws.{number_ends, stays_line}
use Rattle.listing.proofs.put_stays.Goals as goal

pub bounds-out-next : goal.bounds-out-next
bounds-out-next c =
    let e = number_ends _ _ c.put_number-next.ensures in
    omega (arith, e.0, e.1, c.requires)

pub overflow_add-out : goal.overflow_add-out
overflow_add-out c =
    let e = number_ends _ _ c.put_number-next.ensures in
    omega (arith, e.0, c.requires, c.well_formed)

pub bounds-out-next-2 : goal.bounds-out-next-2
bounds-out-next-2 c =
    let e = number_ends _ _ c.put_number-next.ensures in
    simp length-set (omega (arith, e.0, e.1, c.requires))

pub overflow_add-result : goal.overflow_add-result
overflow_add-result c =
    let e = number_ends _ _ c.put_number-next.ensures in
    omega (arith, e.0, c.requires, c.well_formed)

pub returns : goal.returns
returns c = stays_line _ c.put_number-next.ensures
