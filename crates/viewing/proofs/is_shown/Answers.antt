-- `viewing::is_shown`: question 13, and then the mark's bit, or 0 where there is no such mark. Assumes nothing.
use mathlib.Core.Path.{sym, ◌∙◌}
use native.Mathlib.Omega.{arith}
use Rattle.jobs.proofs.Laws.Walking.{map_iff, shown_refused, shown_outside, shown_inside}
use Rattle.viewing.proofs.is_shown.Goals as goal

pub returns-then-not-is_map : goal.returns-then-not-is_map
returns-then-not-is_map c = shown_refused _ _ _ (sym c.is_map.ensures ∙ c.if-not-is_map.true)

pub returns-then-n-m : goal.returns-then-n-m
returns-then-n-m c = shown_outside _ _ _ (sym c.is_map.ensures ∙ c.if-not-is_map.false) c.if-n-m.true

pub test_bit-requires : goal.test_bit-requires
test_bit-requires c =
    let room = ((map_iff _ _).0 (sym c.is_map.ensures ∙ c.if-not-is_map.false)).1 in
    omega (arith, room, c.if-n-m.false)

pub returns : goal.returns
returns c =
    rw (c.from.ensures, c.test_bit.ensures) (shown_inside _ _ _ (sym c.is_map.ensures ∙ c.if-not-is_map.false) c.if-n-m.false)
