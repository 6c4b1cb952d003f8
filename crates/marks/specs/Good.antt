-- Good marks: what questions 4, 5 and 6 say of part 1, `s`.
use Rattle.std.specs.Prelude.{ℕ, ◌*◌, ◌<◌, ◌≤◌, List, length}
use Rattle.marks.specs.Marks.{mark_size, kind_at, radius_at, used_at}

-- 5 and 6, of mark m. The radius that counts is then no larger than the largest that may be written.
pub record GoodMark (s : List ℕ) (m : ℕ) : Type 0 where
  pub kind : kind_at s m < 200
  pub radius : radius_at s m ≤ 16383
  pub used : used_at s m ≤ 16383

-- The first n marks are there, "at most 4,096", and each is good.
pub record GoodMarks (s : List ℕ) (n : ℕ) : Type 0 where
  pub few : n ≤ 4096
  pub there : mark_size * n ≤ length s
  pub each : (m : ℕ) → m < n → GoodMark s m
