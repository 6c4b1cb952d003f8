-- `searching::CellSearch::scan_group` meets its contract: each turn takes in one cell more, and in 16 turns all of the group. Assumes nothing.
use mathlib.Core.Path.{◌≡◌, sym, ◌∙◌}
use native.Mathlib.Omega.{arith}
use Rattle.searching.proofs.Zero.{at_zero}
use Rattle.searching.proofs.Cells.{skip_group, counted_low, cells_more, cells_all}
use Rattle.searching.proofs.search.CellSearch.scan_group.Goals as goal

pub returns-then-not-may_lead : goal.returns-then-not-may_lead
returns-then-not-may_lead c =
    let t = c.args.self.now in
    (c.requires.2, skip_group t.search.good t.low c.requires.0 (sym c.may_lead.ensures ∙ c.if-not-may_lead.true))

pub returns-then-best-eq0 : goal.returns-then-best-eq0
returns-then-best-eq0 c = (
  c.scan_cell-best.ensures.0,
  at_zero c.args.self.now.zeroed c.if-best-eq0.true
      (cells_more c.args.g c.args.first c.loop-i.i (counted_low 16 c.args.first c.loop-i.i c.requires.1 c.loop-i-test.true) c.loop-i.invariant.1
      (rw c.counted_down.ensures.0 at c.scan_cell-best.ensures.1)),
)

pub loop-i-preserved : goal.loop-i-preserved
loop-i-preserved c = (
  c.scan_cell-best.ensures.0,
  cells_more c.args.g c.args.first c.loop-i.i (counted_low 16 c.args.first c.loop-i.i c.requires.1 c.loop-i-test.true) c.loop-i.invariant.1
      (rw c.counted_down.ensures.0 at c.scan_cell-best.ensures.1),
)

pub returns : goal.returns
returns c =
    let e : c.loop-i.i ≡ 16 = omega arith in (c.loop-i.invariant.0, cells_all c.args.g c.args.first c.requires.1 (rw e at c.loop-i.invariant.1))
