-- `grid::put_link` meets its contract: what is written is read back, and the rest stays. Assumes nothing.
use Rattle.grid.proofs.Table.{link_is}
use Rattle.grid.proofs.put_link.Goals as goal

pub returns : goal.returns
returns c =
    link_is c.args.at c.args.groups c.args.q c.args.before c.requires c.ranges.before.fits c.write.ensures
