-- The table of regions. `w` is the lent buffer and `at` where the table begins in it. Of so many groups it has, one behind the other: a region of 24
-- bytes for each of the 16 cells of each group; such a region for each group; and a link of 2 bytes for each row, to the row before it in its
-- cell. A row is given by one more than its place, so that 0 means 'none'. Any row may be put into any cell, or into none.
use Rattle.std.specs.Prelude.{ℕ, suc, ◌+◌, ◌*◌, ◌/◌, ◌<◌, ◌≤◌, ◌≡◌, Option, Some, None, cond, List, ◌++◌, eqb, length}
use Rattle.numbers.specs.Little.{le_at, le_bytes}
use Rattle.fractions.specs.Order.{Small}
use Rattle.grid.specs.declared.Region.{Region}

-- ---- where things stand

-- the cells of so many groups, and with the groups themselves the regions
abbrev pub cell_count : ℕ → ℕ
cell_count groups = 16 * groups

abbrev pub region_count : ℕ → ℕ
region_count groups = 17 * groups

-- the region of the group that cell c is in
abbrev pub group_region : ℕ → ℕ → ℕ
group_region groups c = cell_count groups + c / 16

abbrev pub region_size : ℕ
region_size = 24

-- the bytes of all regions
abbrev pub table_size : ℕ → ℕ
table_size groups = 408 * groups

-- ---- regions: the four sides, the radius, the last row, and the latest removal value

unfoldable pub region_at : List ℕ → ℕ → ℕ → Region
region_at w at i =
    record {
      west = le_at 2 w (at + region_size * i);
      east = le_at 2 w (at + region_size * i + 2);
      south = le_at 2 w (at + region_size * i + 4);
      north = le_at 2 w (at + region_size * i + 6);
      radius = le_at 2 w (at + region_size * i + 8);
      last = le_at 2 w (at + region_size * i + 10);
      latest = record { num = le_at 8 w (at + region_size * i + 12); den = le_at 4 w (at + region_size * i + 20) };
    }

unfoldable pub side_bytes : Region → List ℕ
side_bytes r = le_bytes 2 r.west ++ (le_bytes 2 r.east ++ (le_bytes 2 r.south ++ le_bytes 2 r.north))

unfoldable pub region_bytes : Region → List ℕ
region_bytes r =
    side_bytes r ++ (le_bytes 2 r.radius ++ (le_bytes 2 r.last ++ (le_bytes 8 r.latest.num ++ le_bytes 4 r.latest.den)))

-- no row: nobody is removed later than 0
abbrev pub empty_region : Region
empty_region =
    record { west = 0; east = 0; south = 0; north = 0; radius = 0; last = 0; latest = record { num = 0; den = 1 } }

-- ---- the chains

-- an entry of the table: one more than a row's place, or 0 for none
abbrev pub entry_of : Option ℕ → ℕ
entry_of None = 0
entry_of (Some q) = q + 1

abbrev pub link_from : ℕ → ℕ → ℕ → ℕ
link_from at groups q = at + table_size groups + 2 * q

abbrev pub link_at : List ℕ → ℕ → ℕ → ℕ → ℕ
link_at w at groups q = le_at 2 w (link_from at groups q)

abbrev pub last_at : List ℕ → ℕ → ℕ → ℕ
last_at w at c = (region_at w at c).last

-- no entry leads past the p rows that were put in, and no product of a comparison is too large
pub record EntriesLow (w : List ℕ) (at groups p : ℕ) : Type 0 where
  pub room : at + table_size groups + 2 * p ≤ length w
  pub last_low : (c : ℕ) → c < cell_count groups → last_at w at c ≤ p
  pub link_low : (j : ℕ) → j < p → link_at w at groups j ≤ j
  pub radius_low : (i : ℕ) → i < region_count groups → (region_at w at i).radius ≤ 16383
  pub latest_small : (i : ℕ) → i < region_count groups → Small (region_at w at i).latest
  pub latest_some : (i : ℕ) → i < region_count groups → 0 < (region_at w at i).latest.num + (region_at w at i).latest.den

-- Row q is in cell `cell q`, or in none where that is no cell: a cell's last row is its last one, and a row's link is the row before it in its cell.
pub record Chained (w : List ℕ) (at groups p : ℕ) (cell : ℕ → ℕ) : Type 0 where
  pub last_in : (c : ℕ) → c < cell_count groups → (i : ℕ) → last_at w at c ≡ suc i → cell i ≡ c
  pub last_all : (q : ℕ) → q < p → cell q < cell_count groups → q < last_at w at (cell q)
  pub link_in : (j : ℕ) → j < p → cell j < cell_count groups → (i : ℕ) → link_at w at groups j ≡ suc i → cell i ≡ cell j
  pub link_all : (j : ℕ) → j < p → cell j < cell_count groups → (q : ℕ) → q < j → cell q ≡ cell j → q < link_at w at groups j

-- `cell`, but row p is in cell c
abbrev pub assign : (ℕ → ℕ) → ℕ → ℕ → ℕ → ℕ
assign cell p c q = cond (eqb q p) c (cell q)
