-- `schedule::main`: the text lies in the last of the buffers. Assumes nothing.
use Rattle.std.proofs.Common.{ℕ, ◌≤◌, List, Result, Ok, Err, length, arith, length-take}
use Rattle.schedule.specs.Reading.{Reported}
use Rattle.schedule.proofs.main.Goals as goal

-- the text lies in its buffer
inside : {E : Type 0} (reading : Result ℕ E) (input work schedule out : List ℕ) (r : ℕ) (w s o : List ℕ) → Reported reading input work schedule out r w s o → r ≤ length o
unfolding Reported
inside (Ok n) input work schedule out r w s o prints = prints.inside
inside (Err e) input work schedule out r w s o nothing = omega (arith, nothing.0)

pub slice_bounds-out-end : goal.slice_bounds-out-end
slice_bounds-out-end c = inside _ _ _ _ _ _ _ _ _ c.print_read-length.ensures

pub slice_bounds-write_all-end : goal.slice_bounds-write_all-end
slice_bounds-write_all-end c =
    let h : _ ≤ _ = inside _ _ _ _ _ _ _ _ _ c.print_read-length.ensures in
    simp length-take (omega (arith, h))
