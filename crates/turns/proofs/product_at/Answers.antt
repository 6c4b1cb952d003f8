-- `turns::product_at` meets its contract: the entries of small grids are read back. Assumes nothing.
use mathlib.Core.List.{[]}
use lib.ListN.{get_or}
use Rattle.turns.specs.Turns.{product_at}
use Rattle.turns.proofs.Signed.{back_small, as_place, row_told}
use Rattle.turns.proofs.product_at.Goals as goal

pub row_by_column-requires : goal.row_by_column-requires
row_by_column-requires c =
    let b = c.requires.1.rows in
    (c.requires.0.rows c.args.i, back_small (as_place ((b 0).each c.args.j)), back_small (as_place ((b 1).each c.args.j)))

pub returns : goal.returns
unfolding product_at
returns c =
    let b = c.requires.1.rows in
    row_told (get_or c.args.a c.args.i []) (as_place ((b 0).each c.args.j)) (as_place ((b 1).each c.args.j))
    c.row_by_column.type_inv c.row_by_column.ensures
