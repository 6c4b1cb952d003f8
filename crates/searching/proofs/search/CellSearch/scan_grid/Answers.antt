-- `searching::CellSearch::scan_grid` meets its contract: each turn takes in one group more, and every row is in some group or stands for nobody. Assumes nothing.
use Prim.Native.Nat.{◌/◌, ◌<◌}
use mathlib.Core.Path.{◌≡◌}
use native.Mathlib.Omega.{arith}
use Rattle.searching.proofs.Zero.{at_zero}
use Rattle.searching.proofs.Cells.{groups_more, all_groups}
use Rattle.searching.proofs.search.CellSearch.scan_grid.Goals as goal

pub returns-then-best-eq0 : goal.returns-then-best-eq0
returns-then-best-eq0 c =
    let t = c.args.self.now in
    let own : c.args.own / 16 < t.groups = omega (arith, c.requires.1) in
    let more = groups_more (c.args.own / 16) c.loop-i.i c.loop-i.invariant.1 (rw c.own_first-g.ensures.0 at c.scan_group-best.ensures.1) in
    (c.scan_group-best.ensures.0, all_groups (c.args.own / 16) own c.requires.0 (at_zero t.zeroed c.if-best-eq0.true more))

pub loop-i-preserved : goal.loop-i-preserved
loop-i-preserved c =
    (c.scan_group-best.ensures.0, groups_more (c.args.own / 16) c.loop-i.i c.loop-i.invariant.1 (rw c.own_first-g.ensures.0 at c.scan_group-best.ensures.1))

pub returns : goal.returns
returns c =
    let own : c.args.own / 16 < c.args.self.now.groups = omega (arith, c.requires.1) in
    let e : c.loop-i.i ≡ c.args.self.now.groups = omega arith in
    (c.loop-i.invariant.0, all_groups (c.args.own / 16) own c.requires.0 (rw e at c.loop-i.invariant.1))
