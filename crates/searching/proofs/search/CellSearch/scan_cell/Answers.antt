-- `searching::CellSearch::scan_cell` meets its contract: each turn takes in one row more of the cell, from the last one down. Assumes nothing.
use mathlib.Core.Path.{sym, ap, ◌∙◌}
use native.Mathlib.Omega.{arith}
use Rattle.grid.specs.Table.{entry_of}
use Rattle.searching.proofs.Cells.{skip_cell, walk_next, walk_end}
use Rattle.searching.proofs.search.CellSearch.scan_cell.Goals as goal

pub returns-then-not-may_lead : goal.returns-then-not-may_lead
returns-then-not-may_lead c =
    let t = c.args.self.now in
    (c.requires.1, skip_cell t.search.good t.low c.requires.0 (sym c.may_lead.ensures ∙ c.if-not-may_lead.true))

pub loop-next-preserved : goal.loop-next-preserved
loop-next-preserved c =
    let at_q = rw c.in-Some.is at c.loop-next.invariant in
    let n = c.args.self.now.low.link_low c.in-Some.q (omega (arith, at_q.0)) in
    let e = c.previous_row-next.ensures in (
      omega (arith, n, e, at_q.0),
      c.better_in_chain-best.ensures.0,
      rw e (walk_next c.requires.0 (omega (arith, at_q.0)) at_q.2 c.better_in_chain-best.ensures.1),
    )

pub returns : goal.returns
returns c = (c.loop-next.invariant.1, walk_end (ap entry_of c.in_default.is) c.loop-next.invariant.2)
