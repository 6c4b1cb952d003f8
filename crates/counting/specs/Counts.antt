-- 02, request 12, "Counts beside the reel": "how many marks of each kind group live at each stop". `s` is part 1 of a sheet, `p` part 2 and `q`
-- part 5, empty where it is not there; n is the number of marks and m a mark's.
use Rattle.std.specs.Prelude.{ℕ, ◌*◌, ◌/◌, ◌%◌, ◌^◌, Bool, ◌&&◌, List, eqb, length, get_or}
use Rattle.lists.specs.Tests.{every, how_many}
use Rattle.numbers.specs.Little.{le_bytes}
use Rattle.marks.specs.Marks.{kind_at, kind_group, group_number}
use Rattle.elimination.specs.Records.{value_at}
use Rattle.rows.specs.Rows.{rows}
use Rattle.counting.specs.Lives.{lives}

-- 01: "Stop s, 0 to 16": how many there are; and "the five groups of 01"
abbrev pub stops : ℕ
stops = 17

abbrev pub groups : ℕ
groups = 5

-- "the number of living marks, popups heeded": mark m lives at this stop, which "means 64z = 2 to the power s"
unfoldable pub lives_at_stop : List ℕ → List ℕ → ℕ → ℕ → Bool
lives_at_stop p q stop m = lives (value_at p m) q (2 ^ stop) m

-- mark m is of this kind group
unfoldable pub in_group : List ℕ → ℕ → ℕ → Bool
in_group s group m = eqb (group_number (kind_group (kind_at s m))) group

-- "Each count equals the number of living marks .. over the whole reel."
unfoldable pub living_count : List ℕ → List ℕ → List ℕ → ℕ → ℕ → ℕ → ℕ
living_count s p q n stop group = how_many (λ m. in_group s group m && lives_at_stop p q stop m) n

-- "Part 6 holds 85 counts of 2 bytes: stop 0 first, the five groups of 01 in order within it."
unfoldable pub counts_of : List ℕ → List ℕ → List ℕ → ℕ → List ℕ
counts_of s p q n = rows (λ i. le_bytes 2 (living_count s p q n (i / groups) (i % groups))) (stops * groups)

-- 23 where part 6, `body`, "isn't 170 bytes with those counts"
unfoldable pub is_counts : List ℕ → List ℕ → List ℕ → List ℕ → ℕ → Bool
is_counts body s p q n = eqb (length body) 170 && every (λ i. eqb (get_or body i 0) (get_or (counts_of s p q n) i 0)) 170
