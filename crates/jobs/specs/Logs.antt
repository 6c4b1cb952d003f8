-- What is claimed of logs and marks that are turned into one another. Lemmas.Turning proves it of what the calls write, and their contracts
-- cite it.
use Rattle.std.specs.Prelude.{ℕ, ◌≤◌, ◌≡◌, List, length, take}
use Rattle.contents.specs.Asking.{answer}
use Rattle.parts.specs.Questions.{mark_count, part1_questions}
use Rattle.logs.specs.Log.{record_count}
use Rattle.logs.specs.Questions.{log_checks}
use Rattle.jobs.specs.declared.Answer.{Answer}
use Rattle.jobs.specs.Jobs.{wrote, log_to_marks_job, marks_to_log_job}

-- The marks `w` of the log `s`: as many as it has records, they pass 4 to 6, and "accepted logs come back byte for byte after both turns",
-- wherever there is room for them.
pub record LogTurned (s w : List ℕ) : Type 0 where
  pub count : mark_count w ≡ record_count s
  pub accepted : answer (part1_questions w) ≡ 0
  pub back : (room : ℕ) → length s ≤ room → marks_to_log_job w room ≡ wrote s

-- The log `w` of the marks `s`: as many records as marks, it passes 4, 15, 16, 5 and 6, "and so do accepted marks".
pub record MarksTurned (s w : List ℕ) : Type 0 where
  pub count : record_count w ≡ mark_count s
  pub accepted : answer (log_checks w) ≡ 0
  pub back : (room : ℕ) → length s ≤ room → log_to_marks_job w room ≡ wrote s

-- Of turning the log or the marks s, which answered r and left `out`.
pub record MeetsLog (s : List ℕ) (r : Answer) (out : List ℕ) : Type 0 where
  pub turned : r.number ≡ 0 → LogTurned s (take r.value out)

pub record MeetsMarks (s : List ℕ) (r : Answer) (out : List ℕ) : Type 0 where
  pub turned : r.number ≡ 0 → MarksTurned s (take r.value out)
