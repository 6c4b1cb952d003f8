-- The records go out, each into the slot of its mark's number.
use Rattle.std.specs.Prelude.{ℕ, ◌*◌, ◌<◌, ◌≡◌, cond, List, ◌++◌, ◌≢◌, eqb, take, drop}
use Rattle.lists.specs.Stores.{Kept}
use Rattle.elimination.specs.Marks.{Marks}
use Rattle.elimination.specs.Process.{process}
use Rattle.elimination.specs.declared.Record.{Record}
use Rattle.elimination.specs.Records.{record_size, record_bytes, never_record, records}
use Rattle.searching.specs.Rows.{row_number, row_record}
use Rattle.scheduling.specs.Settling.{Ordered}

-- what was found for a row, as part 2 has it
abbrev pub sent_record : Record → Record
sent_record r = cond (eqb r.den 0) never_record r

-- the bytes that go out for row q
abbrev pub send_at : List ℕ → ℕ → List ℕ
send_at w q = record_bytes (sent_record (row_record w q))

-- the rows' numbers are those below n, each once
pub record RowsNumbered (w : List ℕ) (n : ℕ) : Type 0 where
  pub inside : (q : ℕ) → q < n → row_number w q < n
  pub distinct : (q p : ℕ) → q < p → p < n → row_number w q ≢ row_number w p

-- the record of mark m in part 2
abbrev pub slot : List ℕ → ℕ → List ℕ
slot out m = take record_size (drop (record_size * m) out)

-- out is out₀ with the records of the rows before p, each in the slot of its number
pub record Spread (w : List ℕ) (n p : ℕ) (out₀ out : List ℕ) : Type 0 where
  pub kept : Kept out₀ out 0 (record_size * n)
  pub slots : (q : ℕ) → q < p → slot out (row_number w q) ≡ send_at w q

-- out begins with the process's records, for the marks whose rows w has, and goes on as out₀ does
pub record Published (shape : ℕ) (w : List ℕ) (n : ℕ) (out₀ out : List ℕ) : Type 0 where
  pub records_are : (M : Marks) (order : ℕ → ℕ) → Ordered shape M order w n → out ≡ records (process M) n ++ drop (record_size * n) out₀
