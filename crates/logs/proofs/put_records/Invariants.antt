-- `logs::put_records`: each turn writes one row more. Assumes nothing.
use mathlib.Core.Path.{◌≡◌}
use lib.Seq.{sets}
use Rattle.rows.specs.Rows.{rows}
use Rattle.logs.specs.Log.{record_of_mark}
use Rattle.logs.proofs.put_records.Given as goal

abbrev pub invariant-loop-m : goal.invariant-loop-m
invariant-loop-m l = l.out ≡ sets l.initial.out 0 (rows (record_of_mark l.s) l.m)
