-- `reaching::is_window` meets its contract: the tests of a window. Assumes nothing.
use borrow.Author.Rules.{sfits_of}
use mir.Facts.{to_z-of_z}
use Rattle.reaching.specs.Questions.{is_window}
use Rattle.reaching.proofs.is_window.Goals as goal

pub returns : goal.returns
unfolding is_window
returns c =
    let e = c.args.window in
    let told = c.struct_told-1.given in
    rw (
      rw (to_z-of_z {z = e.x0} (sfits_of told.0.1)) at c.is_edge.ensures,
      rw (to_z-of_z {z = e.x1} (sfits_of told.1.0.1)) at c.is_edge-2.ensures,
      rw (to_z-of_z {z = e.y0} (sfits_of told.1.1.0.1)) at c.is_edge-3.ensures,
      rw (to_z-of_z {z = e.y1} (sfits_of told.1.1.1.0.1)) at c.is_edge-4.ensures,
    )
