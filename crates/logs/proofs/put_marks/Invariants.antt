-- `logs::put_marks`: each turn writes one row more. Assumes nothing.
use mathlib.Core.Path.{◌≡◌}
use lib.Seq.{sets}
use Rattle.rows.specs.Rows.{rows}
use Rattle.logs.specs.Log.{mark_of_record}
use Rattle.logs.proofs.put_marks.Given as goal

abbrev pub invariant-loop-r : goal.invariant-loop-r
invariant-loop-r l = l.out ≡ sets l.initial.out 0 (rows (mark_of_record l.s) l.r)
