-- What the lent buffer `a` of n marks holds, one behind the other: part 1, the marks; part 2, their schedule; and the room for part 3, their
-- index.
use Rattle.std.specs.Prelude.{ℕ, ◌+◌, ◌*◌, ◌≤◌, List, ◌++◌, length, take, drop}
use Rattle.numbers.specs.Little.{le_at}
use Rattle.marks.specs.Marks.{mark_size}
use Rattle.elimination.specs.Records.{record_size}
use Rattle.index.specs.Index.{index_entry_size, index_of, index_bytes}

-- "11 bytes a mark", 14 bytes a record and 2 a number: where parts 2 and 3 begin, and where part 3 ends
abbrev pub schedule_from : ℕ → ℕ
schedule_from n = mark_size * n

abbrev pub index_from : ℕ → ℕ
index_from n = 25 * n

abbrev pub index_end : ℕ → ℕ
index_end n = 27 * n

-- part 1
abbrev pub marks_in : ℕ → List ℕ → List ℕ
marks_in n a = take (schedule_from n) a

-- part 2
abbrev pub schedule_in : ℕ → List ℕ → List ℕ
schedule_in n a = take (record_size * n) (drop (schedule_from n) a)

-- number i of part 3
abbrev pub member_at : ℕ → List ℕ → ℕ → ℕ
member_at n a i = le_at index_entry_size a (index_from n + index_entry_size * i)

-- a with part 3 as parts 1 and 2 give it; what stands before part 3 and what follows it stay
abbrev pub with_index : List ℕ → ℕ → List ℕ
with_index a n = take (index_from n) a ++ (index_bytes (index_of (marks_in n a) (schedule_in n a) n) ++ drop (index_end n) a)

-- There are few enough marks, and the buffers are long enough. `w` is the work buffer.
pub record Buildable (a w : List ℕ) (n : ℕ) : Type 0 where
  pub few : n ≤ 4096
  pub long : index_end n ≤ length a
  pub work_long : 16 * n ≤ length w
