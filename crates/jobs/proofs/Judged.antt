-- 02, request 10: "whoever made it, an accepted schedule is then ours byte for byte". Over the bytes of sheets, and so of what the judge
-- answers. Assumes nothing.
use Rattle.std.specs.Prelude.{ℕ, ◌≡◌, true, List, [], ◌∷◌, ◌↔◌}
use Rattle.std.proofs.Math.Path.{sym, ap}
use Rattle.std.proofs.Common.{◌∙◌, arith}
use Rattle.lists.proofs.TestLaws.{both_iff, by_cases}
use Rattle.numbers.specs.Little.{Bytes}
use Rattle.elimination.specs.Reel.{schedule_of}
use Rattle.index.specs.Index.{index_of, index_bytes}
use Rattle.index.proofs.Laws.{index_iff}
use Rattle.counting.specs.Counts.{counts_of}
use Rattle.contents.specs.Contents.{Part, ◌holds◌, has, split, join, marks_part, schedule_part, index_part, popups_part, counts_part}
use Rattle.contents.specs.Asking.{answer}
use Rattle.contents.proofs.Laws.{append_iff, asked_iff, none_asked, find_bytes}
use Rattle.bodies.specs.Questions.{reel_of}
use Rattle.bodies.specs.Fitting.{Fitting}
use Rattle.sheet.specs.Questions.{sheet_count, check, question10, indexed_questions}
use Rattle.sheet.proofs.Laws.{indexed_numbered, indexed_iff, accepted_iff, sheet_again}
use Rattle.judging.proofs.Theorems.{judge_schedule_lem}
use Rattle.jobs.specs.declared.Answer.{Answer}
use Rattle.jobs.specs.Answers.{answer_of}
use Rattle.jobs.specs.Jobs.{kept_parts, with_counts, new_schedule, new_index, new_counts, new_parts, scheduled, ScheduledHere, question22, judge_questions, judge_job}
use Rattle.jobs.proofs.Laws.Outcomes.{outcome_number}
use Rattle.jobs.proofs.Laws.Kept.{kept_edition, kept_shape, kept_popups, kept_whole}
use Rattle.jobs.proofs.Theorems.{good_reel, schedule_is, here_indexed, demand3}
use Rattle.jobs.specs.Judged.{MeetsJudging}

-- ---- of a sheet that passed 1 to 10

module _ (s : List ℕ) (bytes : Bytes s) (ok : answer (indexed_questions s) ≡ 0) where
  accepted : check s ≡ 0
  accepted = ((indexed_iff s).0 ok).0

  both : (has (split s) 2 ≡ true) × (has (split s) 3 ≡ true)
  unfolding question10
  both = (both_iff (has (split s) 2) (has (split s) 3)).0 ((indexed_iff s).0 ok).1

  fits : Fitting (split s)
  fits = ((accepted_iff s).0 accepted).fitting

  -- The judge says yes exactly where part 2 is the schedule of the sheet's own reel, byte for byte.
  pub judged_iff : (question22 (split s) ≡ true) ↔ (schedule_part (split s) ≡ schedule_of (reel_of (split s)))
  unfolding question22
  judged_iff =
      judge_schedule_lem (reel_of (split s)) (schedule_part (split s)) (good_reel s bytes accepted) (find_bytes s bytes 2)
      (fits.schedule_long both.0) (fits.schedule_right both.0)

  module _ (is : schedule_part (split s) ≡ schedule_of (reel_of (split s))) where
    schedule_new : schedule_part (split s) ≡ new_schedule (marks_part (split s)) (kept_parts (split s))
    schedule_new = is ∙ rw (kept_edition (split s), kept_shape (split s), kept_popups (split s))

    index_new : index_part (split s) ≡ new_index (marks_part (split s)) (kept_parts (split s))
    index_new =
        (index_iff (marks_part (split s)) (schedule_part (split s)) (sheet_count s) (omega (arith, fits.marks.few)) (index_part (split s))).0 (fits.index_right both.1)
        ∙ ap (λ (p : List ℕ). index_bytes (index_of (marks_part (split s)) p (sheet_count s))) schedule_new

    -- and then its parts are those that scheduling writes, and so are its bytes
    counts_new : with_counts (has (split s) 6) (counts_part (split s)) (kept_parts (split s))
        ≡ with_counts (has (split s) 6) (new_counts (marks_part (split s)) (kept_parts (split s))) (kept_parts (split s))
    counts_new =
        by_cases (has (split s) 6)
        (λ there.
        let own : counts_part (split s) ≡ new_counts (marks_part (split s)) (kept_parts (split s)) =
        fits.counts_right there
        ∙ ap (λ (p : List ℕ). counts_of (marks_part (split s)) p (popups_part (split s)) (sheet_count s)) schedule_new
        ∙ ap (λ (q : List ℕ). counts_of (marks_part (split s)) (new_schedule (marks_part (split s)) (kept_parts (split s))) q (sheet_count s)) (sym (kept_popups (split s))) in
        ap (λ (c : List ℕ). with_counts (has (split s) 6) c (kept_parts (split s))) own)
        (λ none. rw none)

    parts_new : split s ≡ new_parts (marks_part (split s)) (kept_parts (split s)) (has (split s) 6)
    parts_new =
        let counts = with_counts (has (split s) 6) (counts_part (split s)) (kept_parts (split s)) in
        kept_whole (split s) ((accepted_iff s).0 accepted).laid.codes both.0 both.1
        ∙ ap (λ (p : List ℕ). (1 holds marks_part (split s)) ∷ (2 holds p) ∷ (3 holds index_part (split s)) ∷ counts) schedule_new
        ∙ ap (λ (t : List ℕ). (1 holds marks_part (split s)) ∷ (2 holds new_schedule (marks_part (split s)) (kept_parts (split s))) ∷ (3 holds t) ∷ counts) index_new
        ∙ ap (λ (l : List Part). (1 holds marks_part (split s)) ∷ (2 holds new_schedule (marks_part (split s)) (kept_parts (split s)))
        ∷ (3 holds new_index (marks_part (split s)) (kept_parts (split s))) ∷ l) counts_new

    pub judged_ours : s ≡ scheduled s
    unfolding scheduled
    judged_ours = sym (sheet_again s bytes accepted) ∙ ap join parts_new

  pub judged_here : question22 (split s) ≡ true → ScheduledHere s
  judged_here e = record { given_sheet = s; bytes = bytes; accepted = accepted; written = judged_ours (judged_iff.0 e) }

  pub here_judged : ScheduledHere s → question22 (split s) ≡ true
  here_judged here = judged_iff.1 (schedule_is s here)

-- ---- and so of what the judge answers

judge_iff : (s : List ℕ) → (answer (judge_questions s) ≡ 0) ↔ ((answer (indexed_questions s) ≡ 0) × (question22 (split s) ≡ true))
unfolding judge_questions
judge_iff s = (
  (λ e. let p = (append_iff (indexed_questions s) _ (indexed_numbered s)).0 e in (p.0, ((asked_iff 22 (question22 (split s)) [] (omega arith)).0 p.1).0)),
  (λ p. (append_iff (indexed_questions s) _ (indexed_numbered s)).1 (p.0, (asked_iff 22 (question22 (split s)) [] (omega arith)).1 (p.1, none_asked))),
)

pub judge_meets : (s : List ℕ) → Bytes s → {r : Answer} → r ≡ answer_of (judge_job s) → MeetsJudging s r
unfolding judge_job
judge_meets s bytes {r} is =
    record {
      here = ((λ z. here z), (λ h. number ∙ (judge_iff s).1 (here_indexed s h, here_judged s bytes (here_indexed s h) h)));
      ours = λ z. let p = (judge_iff s).0 (sym number ∙ z) in judged_ours s bytes p.0 ((judged_iff s bytes p.0).0 p.1);
      demand3 = λ z. demand3 s (here z);
    }
  where
    number : r.number ≡ answer (judge_questions s)
    number = ap (λ (a : Answer). a.number) is ∙ outcome_number (judge_questions s) 0 []

    here : r.number ≡ 0 → ScheduledHere s
    here z = let p = (judge_iff s).0 (sym number ∙ z) in judged_here s bytes p.0 p.1
