-- Judging: what each question that ends it answers, and what the code hands on. Assumes nothing.
use Rattle.std.specs.Prelude.{ℕ, ◌<◌, ◌≡◌, true, false}
use Rattle.std.proofs.Math.Path.{sym}
use Rattle.std.proofs.Common.{◌∙◌, arith}
use mathlib.Core.List.{List, [], ◌∷◌}
use Rattle.lists.proofs.TestLaws.{both_iff}
use Rattle.contents.specs.Contents.{has, split, schedule_part, index_part}
use Rattle.contents.specs.Asking.{◌asks◌, answer}
use Rattle.contents.proofs.Laws.{append_yes, append_no, asked_yes, asked_no, none_asked}
use Rattle.bodies.specs.Questions.{reel_of}
use Rattle.bodies.specs.Fitting.{Fitting}
use Rattle.bodies.proofs.Laws.{popups_good}
use Rattle.sheet.specs.Questions.{sheet_count, question10, indexed_questions}
use Rattle.sheet.proofs.Laws.{indexed_numbered, indexed_iff, accepted_iff}
use Rattle.judging.specs.Search.{Judgeable}
use Rattle.jobs.specs.declared.Answer.{Answer}
use Rattle.jobs.specs.Answers.{refusal, answer_of}
use Rattle.jobs.specs.Jobs.{question22, judge_questions, judge_job}
use Rattle.jobs.proofs.Laws.Outcomes.{outcome_yes, outcome_no}

module _ (s : List ℕ) where
  -- a judge that stops at the question of this number
  stops : (number : ℕ) → answer (judge_questions s) ≡ number → 0 < number → refusal number ≡ answer_of (judge_job s)
  unfolding judge_job
  stops number e some = rw (outcome_no (judge_questions s) 0 [] (omega (arith, e, some)), e)

  pub judge_refused : {r : Answer} {number : ℕ} → number ≡ answer (indexed_questions s) → 0 < number → r ≡ refusal number → r ≡ answer_of (judge_job s)
  unfolding judge_questions
  judge_refused {r} {number} e some is =
      is ∙ stops number (append_no (indexed_questions s) _ (indexed_numbered s) (omega arith) ∙ sym e) some

  module _ (ok : answer (indexed_questions s) ≡ 0) where
    last_asked : answer (judge_questions s) ≡ answer ((22 asks question22 (split s)) ∷ [])
    unfolding judge_questions
    last_asked = append_yes (indexed_questions s) _ (indexed_numbered s) ok

    pub judge_no : {r : Answer} → question22 (split s) ≡ false → r ≡ refusal 22 → r ≡ answer_of (judge_job s)
    judge_no said is = is ∙ stops 22 (last_asked ∙ asked_no 22 [] said) (omega arith)

    pub judge_yes : {r : Answer} → question22 (split s) ≡ true → r ≡ refusal 0 → r ≡ answer_of (judge_job s)
    unfolding judge_job
    judge_yes said is = is ∙ rw (outcome_yes (judge_questions s) 0 [] (last_asked ∙ (asked_yes 22 [] said ∙ none_asked)))

    -- parts 2 and 3 are there
    both : (has (split s) 2 ≡ true) × (has (split s) 3 ≡ true)
    unfolding question10
    both = (both_iff (has (split s) 2) (has (split s) 3)).0 ((indexed_iff s).0 ok).1

    pub judgeable : Judgeable (reel_of (split s)) (schedule_part (split s)) (index_part (split s))
    judgeable =
        let f : Fitting (split s) = ((accepted_iff s).0 ((indexed_iff s).0 ok).0).fitting in
        record {
          asked = record {
            marks = f.marks;
            popped = popups_good (split s) (sheet_count s) f.popups_right;
            schedule_long = f.schedule_long both.0;
            right = f.schedule_right both.0;
          };
          index_long = f.index_long both.1;
          index_right = f.index_right both.1;
        }
