-- What is found is written, row after row: in the end the rows have the process's removals, for any marks whose rows these are.
use Rattle.std.specs.Prelude.{ℕ, ◌+◌, ◌*◌, ◌<◌, ◌≤◌, ◌≡◌, Bool, false, List, length}
use Rattle.lists.specs.Stores.{Clear}
use Rattle.numbers.specs.Little.{le_at}
use Rattle.elimination.specs.Marks.{Marks, Proper}
use Rattle.elimination.specs.Process.{process}
use Rattle.elimination.specs.RankOrder.{Ranking}
use Rattle.searching.specs.Rows.{row_size, row_radius_offset, row_record_offset, row_number, row_label, row_popup, rows_pair, row_record, StoredAt, Complete}
use Rattle.searching.specs.Scan.{Scanned}

-- ---- one row

-- the fields of the n rows are such that no product of a comparison is too large, no radius is 0, and where `popped` is false none has a popup
pub record RowsSmall (popped : Bool) (w : List ℕ) (n : ℕ) : Type 0 where
  pub radius : (q : ℕ) → q < n → (row_label w q).radius ≤ 16383
  pub some : (q : ℕ) → q < n → 0 < (row_label w q).radius
  pub popup : (q : ℕ) → q < n → row_popup w q ≤ 65536
  pub plain : popped ≡ false → (q : ℕ) → q < n → row_popup w q ≡ 0

-- row p of n can be searched for: the rows above it are complete
pub record Scannable (popped : Bool) (w : List ℕ) (n p : ℕ) : Type 0 where
  pub few : n ≤ 4096
  pub below : p < n
  pub room : row_size * n ≤ length w
  pub radius : (row_label w p).radius ≤ 16383
  pub popup : row_popup w p ≤ 65536
  pub above : (q : ℕ) → q < p → Complete w q
  pub plain : popped ≡ false → (q : ℕ) → q ≤ p → row_popup w q ≡ 0

-- v is w with what the search finds for row p written there; behind the rows it may differ
pub record Settles (shape n : ℕ) (w v : List ℕ) (p : ℕ) : Type 0 where
  pub long : length v ≡ length w
  pub kept : (k a : ℕ) → a + k ≤ row_size * n → Clear a k (row_size * p + row_record_offset) (row_size * p + row_size) → le_at k v a ≡ le_at k w a
  pub scanned : Scanned shape w p (row_record v p)

-- ---- all rows

-- the rows of w are those of the marks of M, in the order of rank, with the pair values of this shape
pub record Ordered (shape : ℕ) (M : Marks) (order : ℕ → ℕ) (w : List ℕ) (n : ℕ) : Type 0 where
  pub proper : Proper M
  pub counted : M.count ≡ n
  pub ranking : Ranking M order
  pub number : (q : ℕ) → q < n → row_number w q ≡ order q
  pub value : (q p : ℕ) → q < p → p < n → rows_pair shape w q p ≡ M.value (order q) (order p)

-- the fields of the n rows are the same in v as in w
pub record SameFields (n : ℕ) (w v : List ℕ) : Type 0 where
  pub long : length v ≡ length w
  pub field : (q j : ℕ) → q < n → j ≤ row_radius_offset → le_at 2 v (row_size * q + j) ≡ le_at 2 w (row_size * q + j)
  pub popup : (q : ℕ) → q < n → row_popup v q ≡ row_popup w q

-- v is w with the process's removals in the rows
pub record Processed (shape n : ℕ) (w v : List ℕ) : Type 0 where
  pub fields : SameFields n w v
  pub removals : (M : Marks) (order : ℕ → ℕ) → Ordered shape M order w n → (p : ℕ) → p < n → StoredAt v p (process M (order p))
