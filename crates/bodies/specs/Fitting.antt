-- What is known of parts that fit one another: questions 4 to 9, 19, 21, 23 and 24 as statements, for the proofs of whoever goes on with them.
use Rattle.std.specs.Prelude.{ℕ, ◌*◌, ◌≡◌, true, List, length}
use Rattle.marks.specs.Marks.{mark_size}
use Rattle.marks.specs.Good.{GoodMarks}
use Rattle.elimination.specs.Records.{record_size}
use Rattle.index.specs.Index.{is_index}
use Rattle.counting.specs.Counts.{counts_of}
use Rattle.contents.specs.Contents.{Part, has, marks_part, schedule_part, index_part, edition_part, popups_part, counts_part, shape_part}
use Rattle.parts.specs.Questions.{is_choice, is_popups, is_schedule}
use Rattle.bodies.specs.Questions.{count_of, reel_of}

-- 4 to 6, of a sheet's parts: they hold n marks, each of them right.
pub record Marked (parts : List Part) (n : ℕ) : Type 0 where
  pub counted : n ≡ count_of parts
  pub marks : GoodMarks (marks_part parts) n

-- 4 to 9, 19, 21, 23 and 24: the parts fit one another.
pub record Fitting (parts : List Part) : Type 0 where
  pub marks : GoodMarks (marks_part parts) (count_of parts)
  pub marks_long : length (marks_part parts) ≡ mark_size * count_of parts
  pub schedule_long : has parts 2 ≡ true → length (schedule_part parts) ≡ record_size * count_of parts
  pub index_long : has parts 3 ≡ true → length (index_part parts) ≡ 2 * count_of parts
  pub edition_right : has parts 4 ≡ true → is_choice (edition_part parts) ≡ true
  pub popups_right : has parts 5 ≡ true → is_popups (popups_part parts) (count_of parts) ≡ true
  pub shape_right : has parts 7 ≡ true → is_choice (shape_part parts) ≡ true
  pub schedule_right : has parts 2 ≡ true → is_schedule (reel_of parts) (schedule_part parts) ≡ true
  pub index_right : has parts 3 ≡ true → is_index (marks_part parts) (schedule_part parts) (index_part parts) (count_of parts) ≡ true
  pub counts_right : has parts 6 ≡ true → counts_part parts ≡ counts_of (marks_part parts) (schedule_part parts) (popups_part parts) (count_of parts)
