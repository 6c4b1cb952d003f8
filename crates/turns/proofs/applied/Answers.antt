-- `turns::applied` meets its contract: the place is read back. Assumes nothing.
use mathlib.Core.Path.{ap₂}
use mathlib.Core.List.{[]}
use lib.ListN.{get_or}
use Rattle.turns.specs.Turns.{applied}
use Rattle.turns.proofs.Lemmas.Quarters.{placed}
use Rattle.turns.proofs.Signed.{back_small, row_told}
use Rattle.turns.proofs.applied.Goals as goal

pub row_by_column-requires : goal.row_by_column-requires
row_by_column-requires c =
    let p = c.requires in
    (p.0.rows 0, search (back_small, p.1), search (back_small, p.1))

pub row_by_column-requires-2 : goal.row_by_column-requires-2
row_by_column-requires-2 c =
    let p = c.requires in
    (p.0.rows 1, search (back_small, p.1), search (back_small, p.1))

pub returns : goal.returns
unfolding applied
returns c =
    let p = c.requires.1 in
    let g = c.args.grid in
    ap₂ placed (row_told (get_or g 0 []) p.x_within p.y_within c.row_by_column.type_inv c.row_by_column.ensures)
    (row_told (get_or g 1 []) p.x_within p.y_within c.row_by_column-2.type_inv c.row_by_column-2.ensures)
