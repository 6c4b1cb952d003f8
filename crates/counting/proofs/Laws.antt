-- What the other crates cite of the counts. Their proofs are in Lemmas.
use Rattle.std.specs.Prelude.{ℕ, suc, ◌+◌, ◌*◌, ◌<◌, ◌≤◌, ◌≡◌, true, List, [], ◌↔◌, length}
use Rattle.numbers.specs.Little.{le_at, Bytes}
use Rattle.counting.specs.Counts.{stops, groups, living_count, counts_of, is_counts}
use Rattle.counting.proofs.Lemmas.Bytes as Bytes

-- ---- part 6

-- It is as long as it is to be, and its bytes are bytes.
pub counts_length : (s p q : List ℕ) (n : ℕ) → length (counts_of s p q n) ≡ 170
counts_length = Bytes.counts_length

pub counts_bytes : (s p q : List ℕ) (n : ℕ) → Bytes (counts_of s p q n)
counts_bytes = Bytes.counts_bytes

-- Question 23 asks for exactly these bytes.
pub is_counts_iff : (body s p q : List ℕ) (n : ℕ) → (is_counts body s p q n ≡ true) ↔ (body ≡ counts_of s p q n)
is_counts_iff = Bytes.is_counts_iff

-- Each count is found where it is to stand.
pub count_reads : (s p q : List ℕ) (n stop group : ℕ) → n ≤ 65535 → stop < stops → group < groups
    → le_at 2 (counts_of s p q n) (2 * (5 * stop + group)) ≡ living_count s p q n stop group
count_reads = Bytes.count_reads

-- ---- the counts

-- Without part 5 no count grows from stop to stop.
pub count_falls : (s p : List ℕ) (n stop group : ℕ) → living_count s p [] n (suc stop) group ≤ living_count s p [] n stop group
count_falls = Bytes.count_falls

-- No count exceeds the number of marks.
pub count_most : (s p q : List ℕ) (n stop group : ℕ) → living_count s p q n stop group ≤ n
count_most = Bytes.count_most
