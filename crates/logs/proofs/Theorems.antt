-- What follows of logs turned into marks and marks into logs. Assumes nothing.
use Rattle.std.specs.Prelude.{ℕ, ◌*◌, ◌≡◌, List, length}
use Rattle.numbers.specs.Little.{Bytes}
use Rattle.marks.specs.Marks.{mark_size}
use Rattle.marks.specs.Good.{GoodMarks}
use Rattle.contents.specs.Asking.{answer}
use Rattle.contents.proofs.Laws.{Numbered}
use Rattle.parts.specs.Questions.{mark_count, part1_questions}
use Rattle.parts.proofs.Laws.{part1_iff}
use Rattle.logs.specs.Log.{log_record_size, record_count, marks_of_log, log_of_marks}
use Rattle.logs.specs.Questions.{log_checks}
use Rattle.logs.specs.Right.{LogRight}
use Rattle.logs.proofs.Lemmas.Right as Right
use Rattle.logs.proofs.Lemmas.Right.{log_iff}
use Rattle.logs.proofs.Lemmas.Back as Back

-- ---- a log that passes 4, 15, 16, 5 and 6

-- No question of a log bears the number 0.
pub log_numbered : (s : List ℕ) → Numbered (log_checks s)
log_numbered = Right.log_numbered

module _ (s : List ℕ) (accepted : answer (log_checks s) ≡ 0) where
  abbrev n : ℕ
  n = record_count s

  pub log_right : LogRight s n
  log_right = (log_iff s).0 accepted

  -- It has as many marks, 11 bytes each, and they pass 4 to 6.
  pub marks_length : length (marks_of_log s) ≡ mark_size * n
  unfolding marks_of_log
  marks_length = Back.marks_long s n log_right

  pub marks_count : mark_count (marks_of_log s) ≡ n
  unfolding marks_of_log
  marks_count = Back.marks_count s n log_right

  pub log_marks : answer (part1_questions (marks_of_log s)) ≡ 0
  unfolding marks_of_log
  log_marks = (part1_iff (marks_of_log s)).1 (rw (Back.marks_count s n log_right) (Back.marks_good s n log_right, Back.marks_long s n log_right))

  -- "Accepted logs come back byte for byte after both turns".
  pub log_again : log_of_marks (marks_of_log s) ≡ s
  unfolding log_of_marks marks_of_log
  log_again = rw (Back.marks_count s n log_right) (Back.log_is s n log_right)

-- ---- marks that pass 4 to 6

module _ (s : List ℕ) (bytes : Bytes s) (accepted : answer (part1_questions s) ≡ 0) where
  abbrev marks : ℕ
  marks = mark_count s

  good : GoodMarks s marks
  good = ((part1_iff s).0 accepted).0

  -- They have as many records, and the log of them passes 4, 15, 16, 5 and 6.
  pub log_count : record_count (log_of_marks s) ≡ marks
  unfolding log_of_marks
  log_count = Back.log_count s marks bytes good

  pub marks_log : answer (log_checks (log_of_marks s)) ≡ 0
  unfolding log_of_marks
  marks_log = (log_iff (log_of_marks s)).1 (rw (Back.log_count s marks bytes good) (Back.log_right s marks bytes good))

  -- "and so do accepted marks".
  pub marks_again : marks_of_log (log_of_marks s) ≡ s
  unfolding log_of_marks marks_of_log
  marks_again = rw (Back.log_count s marks bytes good) (Back.marks_are s marks bytes good ((part1_iff s).0 accepted).1)

-- 13 bytes a record
pub log_length : (s : List ℕ) → answer (part1_questions s) ≡ 0 → length (log_of_marks s) ≡ log_record_size * mark_count s
unfolding log_of_marks
log_length s accepted = Back.log_long s (mark_count s) ((part1_iff s).0 accepted).0
