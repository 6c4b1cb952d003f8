-- `searching::CellSearch::may_lead` meets its contract: two comparisons of small fractions. Assumes nothing.
use mathlib.Core.Path.{sym, ◌∙◌}
use Rattle.searching.specs.Cells.{may_lead}
use Rattle.searching.proofs.search.CellSearch.may_lead.Goals as goal

pub returns-then-not-less_small : goal.returns-then-not-less_small
unfolding may_lead
returns-then-not-less_small c =
    let bound = rw c.region_at-region.ensures at c.bound-bound.ensures.0 in
    let far = rw (c.value.ensures, bound) at (sym c.less_small.ensures ∙ c.if-not-less_small.true) in
    rw far (rw (bound, c.region_at-region.ensures) at c.less_small-then-not-less_small.ensures)

pub returns-else-not-less_small : goal.returns-else-not-less_small
unfolding may_lead
returns-else-not-less_small c =
    let bound = rw c.region_at-region.ensures at c.bound-bound.ensures.0 in
    rw (c.if-not-less_small.false, rw (c.value.ensures, bound) at (sym c.less_small.ensures ∙ c.if-not-less_small.false))
