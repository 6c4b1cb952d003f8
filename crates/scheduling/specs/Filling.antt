-- How the rows come to be: the keys of the marks' ranks, sorted, and a row for each.
use Rattle.std.specs.Prelude.{ℕ, ◌+◌, ◌*◌, ◌%◌, ◌<◌, ◌≤◌, ◌≡◌, List, ◌++◌, length}
use Rattle.lists.specs.Sorting.{Ranks}
use Rattle.numbers.specs.Little.{le_at, le_bytes}
use Rattle.marks.specs.Marks.{mark_size, y_offset, used_at, label_at, rank_key}
use Rattle.marks.specs.Pairs.{popup_at, GoodPopups}
use Rattle.marks.specs.Good.{GoodMarks}
use Rattle.sorting.specs.Keys.{key_at}
use Rattle.elimination.specs.Records.{record_size}
use Rattle.searching.specs.Rows.{row_size, row_x_offset, row_y_offset, row_radius_offset, row_popup_offset, row_number, row_label, row_popup}

-- ---- the work buffer

-- the bytes that n marks ask for
abbrev pub work_size : ℕ → ℕ
work_size n = 32 * n + 1024

-- where the keys of n marks begin: behind the spare places of their sort
abbrev pub keys_from : ℕ → ℕ
keys_from n = 24 * n

-- What `schedule` asks for: n good marks and popups, and room for its work and for their records.
pub record Schedulable (marks popups work out : List ℕ) (n : ℕ) : Type 0 where
  pub good : GoodMarks marks n
  pub popped : GoodPopups popups n
  pub work_room : work_size n ≤ length work
  pub out_room : record_size * n ≤ length out

-- ---- keys

-- the keys of the marks before p stand in w
pub record Keyed (edition : ℕ) (s : List ℕ) (n p : ℕ) (w₀ w : List ℕ) : Type 0 where
  pub long : length w ≡ length w₀
  pub keys : (i : ℕ) → i < p → key_at w (keys_from n) i ≡ rank_key edition s i

-- the number that the key q ends in
abbrev pub number_at : ℕ → List ℕ → ℕ → ℕ
number_at n w q = key_at w (keys_from n) q % 4096

-- ---- rows

-- the fields of mark m of the sheet s and its popup in u, as a row has them
abbrev pub row_bytes : List ℕ → List ℕ → ℕ → List ℕ
row_bytes s u m =
    le_bytes 2 m
    ++ (le_bytes 2 (le_at 2 s (mark_size * m)) ++ (le_bytes 2 (le_at 2 s (mark_size * m + y_offset)) ++ (le_bytes 2 (used_at s m) ++ le_bytes 3 (popup_at u m))))

-- the fields of mark m and its popup stand at `at`
pub record RowAt (s u w : List ℕ) (at m : ℕ) : Type 0 where
  pub number : le_at 2 w at ≡ m
  pub x_is : le_at 2 w (at + row_x_offset) ≡ le_at 2 s (mark_size * m)
  pub y_is : le_at 2 w (at + row_y_offset) ≡ le_at 2 s (mark_size * m + y_offset)
  pub radius_is : le_at 2 w (at + row_radius_offset) ≡ used_at s m
  pub popup_is : le_at 3 w (at + row_popup_offset) ≡ popup_at u m

-- w is w₀ with the rows of the first p of the n keys: they may stand where these keys stood, and the other keys stay
pub record RowsPut (s u : List ℕ) (n p : ℕ) (w₀ w : List ℕ) : Type 0 where
  pub long : length w ≡ length w₀
  pub keys : (k : ℕ) → p ≤ k → k < n → key_at w (keys_from n) k ≡ key_at w₀ (keys_from n) k
  pub rows : (q : ℕ) → q < p → RowAt s u w (row_size * q) (number_at n w₀ q)

-- the rows of w are the marks of s in the order of rank in this edition
pub record InRank (edition : ℕ) (s u w : List ℕ) (n : ℕ) : Type 0 where
  pub ranking : Ranks n (rank_key edition s) (row_number w)
  pub label_is : (q : ℕ) → q < n → row_label w q ≡ label_at s (row_number w q)
  pub popup_is : (q : ℕ) → q < n → row_popup w q ≡ popup_at u (row_number w q)

-- w, which was w₀, begins with the rows of the n marks of s in that order
pub record Ranked (edition : ℕ) (s u : List ℕ) (n : ℕ) (w₀ w : List ℕ) : Type 0 where
  pub long : length w ≡ length w₀
  pub in_rank : InRank edition s u w n
