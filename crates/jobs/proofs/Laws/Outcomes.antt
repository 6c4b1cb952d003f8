-- The two ends of a job: all questions answered 'yes', or the first 'no'. Assumes nothing.
use Rattle.std.specs.Prelude.{ℕ, ◌<◌, ◌≡◌, Bool, cond, length, take, drop}
use Rattle.std.proofs.Math.Path.{refl, sym}
use Rattle.std.proofs.Common.{ap, ◌∙◌, arith, ne_eqb, eqb-true}
use Rattle.std.proofs.Math.Bool.{true, false}
use mathlib.Core.List.{List, [], ◌++◌}
use Rattle.std.proofs.Math.Dec.{eqb}
use Rattle.std.proofs.Math.Seq.{take-append_seam}
use Rattle.lists.specs.Stores.{over}
use Rattle.std.specs.Prelude.{Result, Ok, Err}
use Rattle.contents.specs.declared.Refusal.{Refusal}
use Rattle.contents.specs.Refusals.{told}
use Rattle.contents.specs.Contents.{join, together}
use Rattle.contents.specs.Questions.{codes_right}
use Rattle.contents.proofs.Laws.{asked_yes, asked_no}
use Rattle.contents.specs.Asking.{Question, answer}
use Rattle.sheet.specs.Questions.{check_questions, check}
use Rattle.sheet.specs.Assembled.{length_of, Assembling}
use Rattle.jobs.specs.Jobs.{Outcome, outcome, after, check_job, are_counted, assemble_questions, assemble_job}
use Rattle.jobs.specs.declared.Answer.{Answer}
use Rattle.jobs.specs.Answers.{refusal, answer_of, answer_to, Gives}

module _ (questions : List Question) (value : ℕ) (written : List ℕ) where
  pub outcome_yes : answer questions ≡ 0 → outcome questions value written ≡ record { number = 0; value = value; written = written }
  unfolding outcome
  outcome_yes e = rw e

  pub outcome_no : 0 < answer questions → outcome questions value written ≡ record { number = answer questions; value = 0; written = [] }
  unfolding outcome
  outcome_no h = rw (ne_eqb (answer questions) 0 (λ e. omega arith))

  pub outcome_number : (outcome questions value written).number ≡ answer questions
  unfolding outcome
  outcome_number = cases (eqb (answer questions) 0) refl
    where
      cases : (b : Bool) → eqb (answer questions) 0 ≡ b
          → (cond {A = Outcome} b (record { number = 0; value = value; written = written }) (record { number = answer questions; value = 0; written = [] })).number
          ≡ answer questions
      cases true e = sym (eqb-true (answer questions) 0 e)
      cases false e = refl

-- Two jobs that answer the same give the same.
pub outcome_same : (q q' : List Question) (value : ℕ) (w : List ℕ) → answer q ≡ answer q' → outcome q value w ≡ outcome q' value w
unfolding outcome
outcome_same q q' value w e = rw e

-- a refused call has written nothing
pub after_none : (number : ℕ) (buffer : List ℕ) → after (record { number = number; value = 0; written = [] }) buffer ≡ buffer
unfolding after over
after_none number buffer = refl

-- a call that answers 0
module _ (questions : List Question) (value : ℕ) (written before : List ℕ) {r : Answer} {left : List ℕ}
    (gives : Gives (outcome questions value written) before r left) (zero : r.number ≡ 0) where
  pub all_yes : answer questions ≡ 0
  all_yes = sym (outcome_number questions value written) ∙ ap (λ (a : Answer). a.number) (sym gives.answered) ∙ zero

  pub value_is : r.value ≡ value
  value_is = rw (outcome_yes questions value written all_yes) at (ap (λ (a : Answer). a.value) gives.answered)

  pub bytes_are : left ≡ written ++ drop (length written) before
  unfolding after over
  bytes_are = rw (outcome_yes questions value written all_yes) at gives.bytes

-- a call that writes and answers how much, of which a caller keeps so many bytes
pub kept_bytes : (questions : List Question) (written before : List ℕ) {r : Answer} {left : List ℕ}
    → Gives (outcome questions (length written) written) before r left → r.number ≡ 0 → take r.value left ≡ written
kept_bytes questions written before gives zero =
    rw (value_is questions (length written) written before gives zero, bytes_are questions (length written) written before gives zero)
    (take-append_seam written (drop (length written) before))

module _ (questions : List Question) (value : ℕ) (written buffer : List ℕ) {r : Answer} where
  -- a call that stops at the question of this number
  pub refused_gives : (number : ℕ) → answer questions ≡ number → 0 < number → r ≡ refusal number
      → Gives (outcome questions value written) buffer r buffer
  refused_gives number e some is =
      let no : outcome questions value written ≡ record { number = answer questions; value = 0; written = [] } =
      outcome_no questions value written (omega (arith, e, some)) in
      rw no (record { answered = rw (is, e); bytes = sym (after_none (answer questions) buffer) })

  -- a call that asks them all and then writes
  pub written_gives : answer questions ≡ 0 → r ≡ record { number = 0; value = value } → {left : List ℕ} → left ≡ over written buffer
      → Gives (outcome questions value written) buffer r left
  unfolding after over
  written_gives e is bytes =
      rw (outcome_yes questions value written e) (record { answered = is; bytes = bytes })

pub check_gives : (s : List ℕ) → record { number = check s; value = 0 } ≡ answer_of (check_job s)
unfolding check_job outcome check
check_gives s = cases (eqb (answer (check_questions s)) 0) refl
  where
    cases : (b : Bool) → eqb (answer (check_questions s)) 0 ≡ b
        → record { number = answer (check_questions s); value = 0 }
        ≡ answer_of (cond b (record { number = 0; value = 0; written = [] }) (record { number = answer (check_questions s); value = 0; written = [] }))
    cases true e = rw (eqb-true (answer (check_questions s)) 0 e)
    cases false e = refl

-- what a call answers of what it came to, by the number that is told of that
told_is : (r : Result ℕ Refusal) → answer_to r ≡ record { number = told r; value = length_of r }
told_is (Ok size) = refl
told_is (Err r) = refl

-- what `sheet::assemble` answers and leaves, where the number of parts and the codes are taken, is what the job gives
pub assemble_gives : (codes : List ℕ) (bodies : List (List ℕ)) (before after_call : List ℕ) (r : Result ℕ Refusal) → are_counted codes bodies ≡ true
    → codes_right codes ≡ true → Assembling (together codes bodies) before r after_call
    → Gives (assemble_job codes bodies (length before)) before (answer_to r) after_call
unfolding assemble_job assemble_questions outcome after over
assemble_gives codes bodies before after_call r counted right a = rw (told_is r) (cases (eqb number 0) refl)
  where
    number : ℕ
    number = answer (assemble_questions codes bodies (length before))

    sheet : List ℕ
    sheet = join (together codes bodies)

    same : told r ≡ number
    same = a.number ∙ sym (asked_yes 1 _ counted ∙ asked_yes 2 _ right)

    cases : (b : Bool) → eqb number 0 ≡ b
        → Gives (cond b (record { number = 0; value = length sheet; written = sheet }) (record { number = number; value = 0; written = [] })) before
        (record { number = told r; value = length_of r }) after_call
    cases true e =
        let z : told r ≡ 0 = same ∙ eqb-true number 0 e in
        let v : length_of r ≡ length sheet = rw z at a.size in
        let w : after_call ≡ over sheet before = rw z at a.bytes in
        record { answered = rw (z, v); bytes = w }
    cases false e =
        let z : eqb (told r) 0 ≡ false = ap (λ (n : ℕ). eqb n 0) same ∙ e in
        let v : length_of r ≡ 0 = rw z at a.size in
        let w : after_call ≡ before = rw z at a.bytes in
        record { answered = rw (same, v); bytes = w }

module _ (codes : List ℕ) (bodies : List (List ℕ)) (before : List ℕ) where
  -- any other number of parts gets 1
  pub assemble_uncounted : {r : Answer} → are_counted codes bodies ≡ false → r ≡ refusal 1 → Gives (assemble_job codes bodies (length before)) before r before
  unfolding assemble_job assemble_questions
  assemble_uncounted wrong is =
      refused_gives (assemble_questions codes bodies (length before)) (length (join (together codes bodies))) (join (together codes bodies)) before 1
      (asked_no 1 _ wrong) (omega arith) is

  -- and other codes 2
  pub assemble_uncoded : {r : Answer} → are_counted codes bodies ≡ true → codes_right codes ≡ false → r ≡ refusal 2
      → Gives (assemble_job codes bodies (length before)) before r before
  unfolding assemble_job assemble_questions
  assemble_uncoded counted wrong is =
      refused_gives (assemble_questions codes bodies (length before)) (length (join (together codes bodies))) (join (together codes bodies)) before 2
      (asked_yes 1 _ counted ∙ asked_no 2 _ wrong) (omega arith) is
