-- What turning writes is what Logs claims. Assumes nothing.
use Rattle.std.specs.Prelude.{ℕ, ◌*◌, ◌≤◌, ◌≡◌, List, length, take}
use Rattle.std.proofs.Common.{sym, ap, ◌∙◌, arith}
use Rattle.numbers.specs.Little.{Bytes}
use Rattle.contents.specs.Asking.{answer}
use Rattle.parts.specs.Questions.{mark_count, part1_questions}
use Rattle.parts.proofs.Laws.{part1_numbered, part1_iff}
use Rattle.logs.specs.Log.{record_count, marks_of_log, log_of_marks}
use Rattle.logs.specs.Questions.{log_checks, log_questions, marks_questions}
use Rattle.logs.proofs.Theorems.{log_numbered, log_right, marks_length, marks_count, log_marks, log_again, log_count, marks_log, marks_again, log_length}
use Rattle.jobs.specs.declared.Answer.{Answer}
use Rattle.jobs.specs.Jobs.{wrote, log_to_marks_job, marks_to_log_job}
use Rattle.jobs.specs.Answers.{Gives}
use Rattle.jobs.specs.Logs.{LogTurned, MarksTurned, MeetsLog, MeetsMarks}
use Rattle.jobs.proofs.Laws.Outcomes.{outcome_yes}
use Rattle.jobs.proofs.Laws.Rooms.{with_room, passed, counted}

-- ---- each job where its checks are passed and there is room

marks_wrote : (w : List ℕ) (room : ℕ) → answer (part1_questions w) ≡ 0 → 13 * mark_count w ≤ room → marks_to_log_job w room ≡ wrote (log_of_marks w)
unfolding marks_to_log_job marks_questions
marks_wrote w room ok fits =
    rw (log_length w ok) (outcome_yes _ (13 * mark_count w) (log_of_marks w) (with_room (part1_questions w) (part1_numbered w) (13 * mark_count w) ok fits))

log_wrote : (w : List ℕ) (room : ℕ) → answer (log_checks w) ≡ 0 → 11 * record_count w ≤ room → log_to_marks_job w room ≡ wrote (marks_of_log w)
unfolding log_to_marks_job log_questions
log_wrote w room ok fits =
    rw (marks_length w ok) (outcome_yes _ (11 * record_count w) (marks_of_log w) (with_room (log_checks w) (log_numbered w) (11 * record_count w) ok fits))

-- ---- both turns

log_back : (s : List ℕ) → answer (log_checks s) ≡ 0 → (room : ℕ) → length s ≤ room → marks_to_log_job (marks_of_log s) room ≡ wrote s
log_back s ok room h =
    marks_wrote (marks_of_log s) room (log_marks s ok) (omega (arith, marks_count s ok, (log_right s ok).long)) ∙ ap wrote (log_again s ok)

marks_back : (s : List ℕ) → Bytes s → answer (part1_questions s) ≡ 0 → (room : ℕ) → length s ≤ room → log_to_marks_job (log_of_marks s) room ≡ wrote s
marks_back s bytes ok room h =
    log_wrote (log_of_marks s) room (marks_log s bytes ok) (omega (arith, log_count s bytes ok, ((part1_iff s).0 ok).1)) ∙ ap wrote (marks_again s bytes ok)

-- ---- and so of what the calls answer and leave

pub log_whole : {s before : List ℕ} {r : Answer} {out : List ℕ} → Gives (log_to_marks_job s (length before)) before r out
    → Gives (log_to_marks_job s (length before)) before r out × MeetsLog s r out
unfolding log_to_marks_job log_questions
log_whole {s} {before} {r} {out} gives = (gives, record { turned = turned })
  where
    turned : r.number ≡ 0 → LogTurned s (take r.value out)
    turned z =
        let ok = passed (log_checks s) (log_numbered s) (11 * record_count s) (marks_of_log s) before gives z in
        let w = counted (log_checks s) (log_numbered s) (11 * record_count s) (marks_of_log s) before gives z (sym (marks_length s ok)) in
        rw w (record { count = marks_count s ok; accepted = log_marks s ok; back = log_back s ok })

pub marks_whole : {s before : List ℕ} {r : Answer} {out : List ℕ} → Bytes s → Gives (marks_to_log_job s (length before)) before r out
    → Gives (marks_to_log_job s (length before)) before r out × MeetsMarks s r out
unfolding marks_to_log_job marks_questions
marks_whole {s} {before} {r} {out} bytes gives = (gives, record { turned = turned })
  where
    turned : r.number ≡ 0 → MarksTurned s (take r.value out)
    turned z =
        let ok = passed (part1_questions s) (part1_numbered s) (13 * mark_count s) (log_of_marks s) before gives z in
        let w = counted (part1_questions s) (part1_numbered s) (13 * mark_count s) (log_of_marks s) before gives z (sym (log_length s ok)) in
        rw w (record { count = log_count s bytes ok; accepted = marks_log s bytes ok; back = marks_back s bytes ok })
