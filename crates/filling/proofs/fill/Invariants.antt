-- `filling::fill` meets its contract: each turn writes one row more. Assumes nothing.
use mathlib.Core.Path.{◌≡◌}
use lib.Seq.{sets}
use Rattle.rows.specs.Rows.{rows}
use Rattle.filling.specs.Filling.{filled_mark}
use Rattle.filling.proofs.fill.Given as goal

abbrev pub invariant-loop-m : goal.invariant-loop-m
invariant-loop-m l = l.out ≡ sets l.initial.out 0 (rows (filled_mark l.s) l.m)
