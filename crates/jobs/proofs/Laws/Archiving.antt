-- What rearranging writes is what Archived claims. Assumes nothing.
use Rattle.std.specs.Prelude.{ℕ, ◌*◌, ◌%◌, ◌≤◌, ◌≡◌, true, false, List, [], eqb, leb, length, take}
use Rattle.std.proofs.Common.{sym, ap, ◌∙◌, arith, eqb-true, leb-true}
use Rattle.lists.proofs.TestLaws.{both_iff}
use Rattle.numbers.specs.Little.{Bytes}
use Rattle.columns.specs.Columns.{to_columns, from_columns}
use Rattle.columns.proofs.Theorems.{to_length, from_length, there_and_back, back_and_there}
use Rattle.contents.specs.Asking.{answer}
use Rattle.contents.proofs.Laws.{Numbered, asked_iff, asked_no, none_asked}
use Rattle.parts.specs.Questions.{question4, mark_count}
use Rattle.jobs.specs.declared.Answer.{Answer}
use Rattle.jobs.specs.Jobs.{Outcome, outcome, wrote, column_checks, column_questions, to_columns_job, from_columns_job}
use Rattle.jobs.specs.Answers.{Gives}
use Rattle.jobs.specs.Archived.{MeetsColumns, MeetsRows}
use Rattle.jobs.proofs.Laws.Outcomes.{outcome_yes}
use Rattle.jobs.proofs.Laws.Rooms.{with_room, passed, counted}

-- ---- 4

pub column_numbered : (s : List ℕ) → Numbered (column_checks s)
column_numbered s = (omega arith, tt)

-- it is all that is asked of what is given
pub taken_asked : (s : List ℕ) → question4 s ≡ true → answer (column_checks s) ≡ 0
taken_asked s e = (asked_iff 4 (question4 s) [] (omega arith)).1 (e, none_asked)

pub refused_asked : (s : List ℕ) → question4 s ≡ false → 4 ≡ answer (column_checks s)
refused_asked s e = sym (asked_no 4 [] e)

asked_taken : (s : List ℕ) → answer (column_checks s) ≡ 0 → question4 s ≡ true
asked_taken s e = ((asked_iff 4 (question4 s) [] (omega arith)).0 e).0

-- and it asks for the length alone
same_taken : (s t : List ℕ) → length t ≡ length s → answer (column_checks s) ≡ 0 → answer (column_checks t) ≡ 0
unfolding question4
same_taken s t e ok = taken_asked t (rw e (asked_taken s ok))

-- a multiple of 11 is as many whole marks
pub whole_marks : (s : List ℕ) → answer (column_checks s) ≡ 0 → length s ≡ 11 * mark_count s
unfolding question4
whole_marks s ok =
    let e : length s % 11 ≡ 0 = eqb-true (length s % 11) 0 ((both_iff (eqb (length s % 11) 0) (leb (length s) 45056)).0 (asked_taken s ok)).0 in
    omega arith

pub few_marks : (s : List ℕ) → answer (column_checks s) ≡ 0 → mark_count s ≤ 4096
unfolding question4
few_marks s ok =
    let most = leb-true (length s) 45056 ((both_iff (eqb (length s % 11) 0) (leb (length s) 45056)).0 (asked_taken s ok)).1 in
    omega arith

same_count : (t : List ℕ) {n : ℕ} → length t ≡ 11 * n → mark_count t ≡ n
same_count t e = omega arith

-- ---- rearranging by `turn`, and by `undo`, which undoes it: either way round

-- what the job of `turn` says
abbrev by : (List ℕ → ℕ → List ℕ) → List ℕ → ℕ → Outcome
by turn s room = outcome (column_questions s room) (11 * mark_count s) (turn s (mark_count s))

module _ (turn undo : List ℕ → ℕ → List ℕ) (turn-length : (s : List ℕ) (n : ℕ) → length (turn s n) ≡ 11 * n)
    (undo-length : (s : List ℕ) (n : ℕ) → length (undo s n) ≡ 11 * n)
    (undoes : (s : List ℕ) (n : ℕ) → Bytes s → length s ≡ 11 * n → undo (turn s n) n ≡ s) where
  -- where 4 is passed and there is room
  undo_wrote : (s : List ℕ) (room : ℕ) → answer (column_checks s) ≡ 0 → 11 * mark_count s ≤ room → by undo s room ≡ wrote (undo s (mark_count s))
  unfolding column_questions
  undo_wrote s room ok fits =
      rw (undo-length s (mark_count s))
      (outcome_yes _ (11 * mark_count s) (undo s (mark_count s)) (with_room (column_checks s) (column_numbered s) (11 * mark_count s) ok fits))

  undone : (s : List ℕ) → Bytes s → answer (column_checks s) ≡ 0 → (room : ℕ) → length s ≤ room → by undo (turn s (mark_count s)) room ≡ wrote s
  undone s bytes ok room fits =
      let n = mark_count s in
      let w = turn s n in
      let long : length w ≡ 11 * n = turn-length s n in
      let count : mark_count w ≡ n = same_count w long in
      undo_wrote w room (same_taken s w (long ∙ sym (whole_marks s ok)) ok) (rw count (omega (arith, fits, whole_marks s ok)))
      ∙ ap wrote (rw count (undoes s n bytes (whole_marks s ok)))

  -- and so of what the call answers and leaves
  turned_back_lem : {s before : List ℕ} {r : Answer} {out : List ℕ} → Bytes s → Gives (by turn s (length before)) before r out
      → r.number ≡ 0 → (room : ℕ) → length s ≤ room → by undo (take r.value out) room ≡ wrote s
  unfolding column_questions
  turned_back_lem {s} {before} bytes gives z room fits =
      let n = mark_count s in
      let ok = passed (column_checks s) (column_numbered s) (11 * n) (turn s n) before gives z in
      let w = counted (column_checks s) (column_numbered s) (11 * n) (turn s n) before gives z (sym (turn-length s n)) in
      rw w (undone s bytes ok room fits)

pub columns_whole : {s before : List ℕ} {r : Answer} {out : List ℕ} → Bytes s → Gives (to_columns_job s (length before)) before r out
    → Gives (to_columns_job s (length before)) before r out × MeetsColumns s r out
unfolding to_columns_job from_columns_job
columns_whole bytes gives = (gives, record { back = turned_back_lem to_columns from_columns to_length from_length there_and_back bytes gives })

pub rows_whole : {s before : List ℕ} {r : Answer} {out : List ℕ} → Bytes s → Gives (from_columns_job s (length before)) before r out
    → Gives (from_columns_job s (length before)) before r out × MeetsRows s r out
unfolding to_columns_job from_columns_job
rows_whole bytes gives = (gives, record { back = turned_back_lem from_columns to_columns from_length to_length back_and_there bytes gives })
