-- The rows above p in the cells of the grid at `at`, and what the search of cells and of groups of cells adds.
use Rattle.std.specs.Prelude.{ℕ, suc, ◌+◌, ◌-◌, ◌/◌, ◌%◌, ◌<◌, ◌≤◌, ◌≡◌, Bool, false, cond, List, leb, ltb, eqb}
use Rattle.fractions.specs.Order.{less}
use Rattle.marks.specs.declared.Label.{Label}
use Rattle.grid.specs.declared.Region.{Region}
use Rattle.grid.specs.Table.{cell_count, group_region, region_at, EntriesLow, Chained}
use Rattle.grid.specs.Boxes.{Holds, bound_of}
use Rattle.searching.specs.declared.Leader.{Leader}
use Rattle.searching.specs.Rows.{row_label, row_value}
use Rattle.searching.specs.Search.{leader_value, Adds}

-- row q may be in this region
abbrev pub HoldsRow : Region → List ℕ → ℕ → Type 0
HoldsRow r w q = Holds r (row_label w q) (row_value w q)

-- Row q is in the cell `cell q` and in its group, or else, where that is no cell, it is removed at 0: such a row removes nobody.
pub record InGrid (w : List ℕ) (at groups p : ℕ) (cell : ℕ → ℕ) : Type 0 where
  pub chained : Chained w at groups p cell
  pub own : (q : ℕ) → q < p → cell q < cell_count groups → HoldsRow (region_at w at (cell q)) w q
  pub group : (q : ℕ) → q < p → cell q < cell_count groups → HoldsRow (region_at w at (group_region groups (cell q))) w q
  pub left_out : (q : ℕ) → q < p → cell_count groups ≤ cell q → (row_value w q).num ≡ 0

-- each row is in some cell, or in none
pub record Gridded (w : List ℕ) (at groups p : ℕ) : Type 0 where
  pub ready : EntriesLow w at groups p
  pub cell : ℕ → ℕ
  pub in_grid : InGrid w at groups p cell

-- ---- regions that are left out

-- A region may hold a row that goes before the leader: something in it may touch as soon, and may live until then.
unfoldable pub may_lead : ℕ → Region → Label → Leader → Bool
may_lead shape r a c = cond (less (leader_value c) (bound_of shape r a)) false (less (bound_of shape r a) r.latest)

-- ---- a chain, from row h - 1 down

-- the rows of cell c from h on
abbrev pub Tail : (ℕ → ℕ) → ℕ → ℕ → ℕ → Type 0
Tail cell c h q = (cell q ≡ c) × (h ≤ q)

-- `best` goes before the rows of cell c from h on, and row h - 1 is the next one
pub record Walked (shape : ℕ) (w : List ℕ) (at groups p c h : ℕ) (from best : Leader) : Type 0 where
  pub next : (cell : ℕ → ℕ) → InGrid w at groups p cell → (i : ℕ) → h ≡ suc i → cell i ≡ c
  pub adds : (cell : ℕ → ℕ) → InGrid w at groups p cell → Adds shape w p (Tail cell c h) from best

-- ---- cells

-- from c to d: d goes before the rows of the cells T as well
pub record CellAdded (shape : ℕ) (w : List ℕ) (at groups p : ℕ) (T : ℕ → Type 0) (c d : Leader) : Type 0 where
  pub adds : (cell : ℕ → ℕ) → InGrid w at groups p cell → Adds shape w p (λ q. T (cell q)) c d

abbrev pub Own : ℕ → ℕ → Type 0
Own c d = d ≡ c

-- the cells of group g
abbrev pub InGroup : ℕ → ℕ → Type 0
InGroup g d = d / 16 ≡ g

-- ---- cells and groups in turn

-- the i-th of the numbers below `size`, which are counted down from `start`, and then from the greatest
abbrev pub counted_down : ℕ → ℕ → ℕ → ℕ
counted_down size start i = cond (leb i start) (start - i) (size + start - i)

-- the i-th of them, of which `own` comes first, and then the others from the greatest down
abbrev pub own_first : ℕ → ℕ → ℕ → ℕ
own_first size own i = cond (eqb i 0) own (cond (ltb own (size - i)) (size - i) (size - i - 1))

-- one of the first i in this order
abbrev pub InTurn : (ℕ → ℕ) → ℕ → ℕ → Type 0
InTurn order i d = (j : ℕ) × (j < i) × (order j ≡ d)

-- the first i cells of group g, and the cells of the first i groups
abbrev pub FirstCells : ℕ → ℕ → ℕ → ℕ → Type 0
FirstCells g start i d = (d / 16 ≡ g) × InTurn (counted_down 16 start) i (d % 16)

abbrev pub FirstGroups : ℕ → ℕ → ℕ → ℕ → Type 0
FirstGroups groups own i d = InTurn (own_first groups own) i (d / 16)
