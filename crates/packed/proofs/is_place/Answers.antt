-- `packed::is_place`: the magnitude may be one more below zero. Assumes nothing.
use mathlib.Core.Path.{sym}
use Rattle.packed.proofs.Laws.{place_minus, place_plus}
use Rattle.packed.proofs.is_place.Goals as goal

pub returns-then-minus : goal.returns-then-minus
returns-then-minus c = rw c.if-minus.true (sym (place_minus c.args.m))

pub returns : goal.returns
returns c = rw c.if-minus.false (sym (place_plus c.args.m))
