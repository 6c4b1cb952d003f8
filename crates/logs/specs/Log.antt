-- 02, request 3: "The winder writes 13-byte records: x and y as packed decimal, 3 bytes each, then radius, priority, kind and tag as in a sheet. .. We want
-- logs turned into marks and marks into logs."
use Rattle.std.specs.Prelude.{ℕ, ◌+◌, ◌*◌, ◌/◌, List, ◌++◌, length, take, drop}
use Rattle.numbers.specs.Little.{le_at, le_bytes}
use Rattle.marks.specs.Marks.{mark_size, radius_offset, x_at, y_at, place_bits}
use Rattle.rows.specs.Rows.{rows}
use Rattle.parts.specs.Questions.{mark_count}
use Rattle.packed.specs.Packed.{coordinate_at, packed}

-- ---- a log's records; `s` is the log and `r` a record's number

-- "13-byte records": the bytes of one, and where y, radius and kind begin
abbrev pub log_record_size : ℕ
log_record_size = 13

abbrev pub log_y_offset : ℕ
log_y_offset = 3

abbrev pub log_radius_offset : ℕ
log_radius_offset = 6

abbrev pub log_kind_offset : ℕ
log_kind_offset = 10

-- how many there are
abbrev pub record_count : List ℕ → ℕ
record_count s = length s / log_record_size

-- "then radius, priority, kind and tag as in a sheet"
abbrev pub radius_of : List ℕ → ℕ → ℕ
radius_of s r = le_at 2 s (log_record_size * r + log_radius_offset)

abbrev pub kind_of : List ℕ → ℕ → ℕ
kind_of s r = le_at 1 s (log_record_size * r + log_kind_offset)

-- ---- logs into marks

-- the 11 bytes of the mark: the last 7 are the record's own
abbrev pub mark_of_record : List ℕ → ℕ → List ℕ
mark_of_record s r =
    le_bytes 2 (place_bits (coordinate_at s (log_record_size * r)))
    ++ (le_bytes 2 (place_bits (coordinate_at s (log_record_size * r + log_y_offset))) ++ take 7 (drop (log_record_size * r + log_radius_offset) s))

unfoldable pub marks_of_log : List ℕ → List ℕ
marks_of_log s = rows (mark_of_record s) (record_count s)

-- ---- marks into logs; `s` is the marks' bytes and `m` a mark's number

abbrev pub record_of_mark : List ℕ → ℕ → List ℕ
record_of_mark s m = packed (x_at s m) ++ (packed (y_at s m) ++ take 7 (drop (mark_size * m + radius_offset) s))

unfoldable pub log_of_marks : List ℕ → List ℕ
log_of_marks s = rows (record_of_mark s) (mark_count s)
