-- 02, request 4: "each is worked out by a shift, and any other stop gets 12. On any sheet, edges and lent map, a stop and the wheel value
-- of the same zoom give the same answer, map and count." Over the jobs, and so of what the call at a stop answers and leaves.
use Rattle.std.specs.Prelude.{ℕ, ◌<◌, ◌≤◌, ◌≡◌, Bool, true, false, cond, List, [], ◌∷◌, leb, length, Float}
use Rattle.std.proofs.Common.{ap, ◌∙◌, arith}
use Rattle.std.proofs.Math.Decide.{dec_lt}
use Rattle.contents.specs.Contents.{split}
use Rattle.contents.specs.Asking.{Question, ◌asks◌, answer}
use Rattle.contents.proofs.Laws.{append_yes, append_iff}
use Rattle.sheet.specs.Questions.{sheet_count, sheet_shape, check, question10, indexed_questions}
use Rattle.sheet.proofs.Laws.{indexed_numbered, indexed_iff}
use Rattle.bitmap.specs.Map.{map_size, map_bytes, count_shown}
use Rattle.zoom.specs.declared.Zoom.TheVariants.{Stop, Wheel}
use Rattle.zoom.specs.Zoom.{scale_of}
use Rattle.zoom.proofs.Laws.{stop_wheel, stop_refused}
use Rattle.reaching.specs.declared.Window.{Window}
use Rattle.reaching.specs.Questions.{question20, question11, is_taken, view_questions}
use Rattle.jobs.specs.declared.Answer.{Answer}
use Rattle.jobs.specs.Jobs.{shown_in, view_job}
use Rattle.jobs.specs.Answers.{answer_of, Gives}
use Rattle.jobs.specs.Demand3.{MeetsView}
use Rattle.jobs.proofs.Theorems.{view_meets}
use Rattle.jobs.proofs.Laws.Outcomes.{outcome_no, outcome_number}
use Rattle.jobs.specs.Stops.{SameZoom, MeetsStop}

-- ---- over the jobs

-- the first 'no' of 20, 11 and 12, where 12 is one
abbrev first_no : Bool → Bool → ℕ
first_no taken right = cond taken (cond right 12 11) 20

some_no : (taken right : Bool) → 0 < first_no taken right
some_no true true = omega arith
some_no true false = omega arith
some_no false right = omega arith

module _ (s : List ℕ) (e : Window) (stop room : ℕ) where
  -- "a stop and the wheel value of the same zoom give the same answer, map and count"
  pub stop_is_wheel : stop ≤ 16 → (w : Float) → SameZoom stop w → view_job s e (Stop stop) room ≡ view_job s e (Wheel w) room
  unfolding view_job shown_in view_questions
  stop_is_wheel taken w same = rw (stop_wheel stop w taken same)

  abbrev questions : List Question
  questions = view_questions s e (Stop stop) room

  abbrev last : List Question
  last =
      (20 asks question20 (sheet_shape s) e)
      ∷ (11 asks question11 e)
      ∷ (12 asks is_taken (scale_of (Stop stop)))
      ∷ (13 asks leb (map_size (sheet_count s)) room)
      ∷ []

  module _ (beyond : 16 < stop) where
    last_no : answer last ≡ first_no (question20 (sheet_shape s) e) (question11 e)
    unfolding answer scale_of
    last_no = rw (stop_refused stop beyond)

    -- "any other stop gets 12"
    pub other_stop : check s ≡ 0 → question10 (split s) ≡ true → question20 (sheet_shape s) e ≡ true → question11 e ≡ true
        → view_job s e (Stop stop) room ≡ record { number = 12; value = 0; written = [] }
    unfolding view_job view_questions
    other_stop ok there taken right =
        let no : answer questions ≡ 12 = append_yes (indexed_questions s) last (indexed_numbered s) ((indexed_iff s).1 (ok, there)) ∙ last_no ∙ rw (taken, right) in
        outcome_no questions _ _ (omega (arith, no)) ∙ rw no

    -- and none is taken.
    pub other_stop_refused : 0 < (view_job s e (Stop stop) room).number
    unfolding view_job view_questions
    other_stop_refused =
        rw (outcome_number questions (count_shown (shown_in s e (Stop stop)) (sheet_count s)) (map_bytes (shown_in s e (Stop stop)) (sheet_count s)))
        (elim (dec_lt 0 (answer questions)) [
          | yes l ↦ l
          | no l ↦
              (let none = ((append_iff (indexed_questions s) last (indexed_numbered s)).0 (omega arith)).1 in
              absurd (omega (arith, none, last_no, some_no (question20 (sheet_shape s) e) (question11 e))))
        ])

-- ---- and so of what the call answers and leaves

module _ {s : List ℕ} {e : Window} {stop : ℕ} {before map : List ℕ} {r : Answer}
    (gives : Gives (view_job s e (Stop stop) (length before)) before r map) where
  pub stop_meets : MeetsStop s e stop before r map
  stop_meets =
      record {
        same = λ taken w same. rw (stop_is_wheel s e stop (length before) taken w same) at gives;
        other = λ beyond. rw gives.answered (other_stop_refused s e stop (length before) beyond);
        twelve = λ beyond ok there taken right. gives.answered ∙ ap answer_of (other_stop s e stop (length before) beyond ok there taken right);
      }

  -- with demand 3 of it
  pub stop_whole : Gives (view_job s e (Stop stop) (length before)) before r map
      × (MeetsView s e (Stop stop) r map × MeetsStop s e stop before r map)
  stop_whole = (gives, (view_meets s e (Stop stop) before gives, stop_meets))
