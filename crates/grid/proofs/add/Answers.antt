-- `grid::add` meets its contract: a link and two regions. Assumes nothing.
use Rattle.grid.proofs.Table.{added}
use Rattle.grid.proofs.add.Goals as goal

pub returns : goal.returns
returns c =
    let own = c.region_at-own.ensures in
    let group = c.region_at-group.ensures in
    added c.args.at c.args.groups c.args.p c.args.c c.args.label c.args.value c.requires.p_bound.1 (rw own at c.put_link.ensures)
    (rw (c.taking_in.ensures, own) at c.put_region.ensures) (rw (c.taking_in-2.ensures, group) at c.put_region-2.ensures)
