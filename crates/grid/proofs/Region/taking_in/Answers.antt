-- `grid::Region::taking_in` meets its contract, side by side. Assumes nothing.
use mir.Facts.{to_z-of_z}
use mir.Syntax.{w16}
use borrow.Author.Rules.{rules}
use Rattle.grid.proofs.Region.taking_in.Goals as goal

pub returns : goal.returns
returns c =
    rw (
      c.max.ensures,
      c.max-2.ensures,
      c.max-3.ensures,
      c.max-4.ensures,
      c.max-5.ensures,
      c.later_of.ensures,
      c.shifted-x.ensures,
      c.shifted-y.ensures,
      to_z-of_z {w = w16} {z = c.args.label.x} (search rules),
      to_z-of_z {w = w16} {z = c.args.label.y} (search rules),
    )
