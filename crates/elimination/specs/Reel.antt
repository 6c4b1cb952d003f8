-- The reel: everything that decides a schedule.
use Rattle.std.specs.Prelude.{ℕ, List}
use Rattle.numbers.specs.Little.{Bytes}
use Rattle.marks.specs.Marks.{rank_key}
use Rattle.marks.specs.Pairs.{pair_value, GoodPopups}
use Rattle.marks.specs.Good.{GoodMarks}
use Rattle.elimination.specs.Marks.{Marks}
use Rattle.elimination.specs.Process.{process}
use Rattle.elimination.specs.Records.{records}

-- The marks' bytes, part 1 of a sheet, how many marks of these there are, the edition of the marking handbook that ranks them, the shape
-- of their labels, and their popups' bytes, part 5, empty where it is not there. 02, request 6: "Every place that compares rank takes the
-- edition"; request 9: "The process, the judging of a list of zooms and question 8 take pair values in place of touching values."
pub record Reel : Type 0 where
  pub marks : List ℕ
  pub count : ℕ
  pub edition : ℕ
  pub shape : ℕ
  pub popups : List ℕ

-- The marks of a reel as the process sees them: their ranks and pair values.
abbrev pub marks_of : Reel → Marks
marks_of r = record { count = r.count; key = rank_key r.edition r.marks; value = pair_value r.shape r.marks r.popups }

-- what the questions say of a reel: its marks are good, and so are its popups
pub record GoodReel (r : Reel) : Type 0 where
  pub good : GoodMarks r.marks r.count
  pub bytes : Bytes r.marks
  pub popped : GoodPopups r.popups r.count

-- What scheduling writes as part 2.
unfoldable pub schedule_of : Reel → List ℕ
schedule_of r = records (process (marks_of r)) r.count
