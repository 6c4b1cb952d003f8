-- `counting::cells_of` meets its contract: the cells are small, and put together as defined. Assumes nothing.
use Prim.Native.Nat.{ℕ, min}
use mathlib.Core.Path.{ap, ap₂, ◌∙◌}
use native.Mathlib.Omega.{arith}
use Rattle.marks.proofs.Laws.{kind_group_few}
use Rattle.marks.specs.Marks.{kind_group, group_number}
use Rattle.counting.proofs.Lemmas.Stops.{stops_most}
use Rattle.counting.specs.Steps.{stops_lived, begin_cell, end_cell}
use Rattle.counting.proofs.cells_of.Goals as goal

pub overflow_add-result : goal.overflow_add-result
overflow_add-result c = omega (arith, stops_most c.value_at.result)

pub overflow_mul-result : goal.overflow_mul-result
overflow_mul-result c = omega (arith, stops_most c.value_at.result)

pub overflow_add-result-2 : goal.overflow_add-result-2
overflow_add-result-2 c =
    omega (arith, stops_most c.value_at.result, kind_group_few c.kind_at.result)

pub overflow_mul-result-2 : goal.overflow_mul-result-2
overflow_mul-result-2 c = omega (arith, stops_most c.value_at.result)

pub overflow_add-result-3 : goal.overflow_add-result-3
overflow_add-result-3 c =
    omega (arith, stops_most c.value_at.result, kind_group_few c.kind_at.result)

pub returns : goal.returns
unfolding begin_cell end_cell
returns c =
    let group = c.group_of-group.ensures ∙ ap (λ (k : ℕ). group_number (kind_group k)) c.kind_at.ensures in
    let end = c.stops_lived-end.ensures ∙ ap stops_lived c.value_at.ensures in
    let popup = c.popup_stop.ensures in
    let first = c.min-first.ensures ∙ ap₂ min popup end in
    record { begin_value = omega (arith, first, group); end_value = omega (arith, end, group) }
