-- What the search for row p finds, for any marks whose rows these are: the contract of the search.
use Rattle.std.specs.Prelude.{ℕ, ◌+◌, ◌<◌, ◌≡◌, List}
use Rattle.fractions.specs.Order.{Small}
use Rattle.elimination.specs.declared.Record.{Record}
use Rattle.elimination.specs.Marks.{Marks, Proper}
use Rattle.elimination.specs.Process.{Removal}
use Rattle.elimination.specs.RankOrder.{Found}
use Rattle.elimination.specs.Records.{fraction_of}
use Rattle.searching.specs.Rows.{row_number, row_value, rows_pair, Stored, StoredAt}

-- the rows above p are those of the marks `order 0`, .., with the removals s
pub record Above (shape : ℕ) (M : Marks) (order : ℕ → ℕ) (s : ℕ → Removal) (w : List ℕ) (p : ℕ) : Type 0 where
  pub number : (q : ℕ) → q < p → row_number w q ≡ order q
  pub value : (q : ℕ) → q < p → rows_pair shape w q p ≡ M.value (order q) (order p)
  pub removal : (q : ℕ) → q < p → StoredAt w q (s (order q))

-- `t` is what a search of the rows above p finds for row p: its best candidate
pub record Scanned (shape : ℕ) (w : List ℕ) (p : ℕ) (t : Record) : Type 0 where
  pub small : Small (fraction_of t)
  pub some : 0 < t.num + t.den
  pub number : t.eliminator < 65536
  pub zero_there : ((q : ℕ) → q < p → 0 < (rows_pair shape w q p).den) → (q : ℕ) → q < p → (rows_pair shape w q p).num ≡ 0 → 0 < (row_value w q).num
      → t.num ≡ 0
  pub found : (M : Marks) (order : ℕ → ℕ) (s : ℕ → Removal) → Proper M → Above shape M order s w p
      → (r : Removal) × Stored r t × Found M order s (order p) p r
