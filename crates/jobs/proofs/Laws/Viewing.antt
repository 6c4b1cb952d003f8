-- Viewing: each way out answers as the job says. Assumes nothing.
use Rattle.std.specs.Prelude.{ℕ, ◌<◌, ◌≤◌, ◌≡◌, Bool, true, false, List, [], ◌∷◌, length}
use Rattle.std.proofs.Math.Path.{sym}
use Rattle.std.proofs.Common.{◌∙◌, arith, le-leb}
use Rattle.std.proofs.lemmas.Bool.{lt-leb}
use Rattle.std.proofs.Math.Dec.{leb}
use Rattle.lists.specs.Stores.{over}
use Rattle.lists.proofs.TestLaws.{both_iff}
use Rattle.bodies.proofs.Laws.{popups_good}
use Rattle.contents.specs.Contents.{has, split, marks_part, schedule_part, index_part, popups_part}
use Rattle.contents.specs.Asking.{Question, ◌asks◌, answer}
use Rattle.contents.proofs.Laws.{append_no}
use Rattle.sheet.specs.Questions.{sheet_count, sheet_shape, check, question10, indexed_questions}
use Rattle.sheet.proofs.Laws.{indexed_numbered, accepted_iff}
use Rattle.bitmap.specs.Map.{map_size, map_bytes, count_shown}
use Rattle.bitmap.proofs.Laws.{map_length}
use Rattle.zoom.specs.declared.Zoom.{Zoom}
use Rattle.std.specs.Prelude.{Some, None}
use Rattle.zoom.specs.Zoom.{scale_of}
use Rattle.reaching.specs.declared.Window.{Window}
use Rattle.reaching.specs.Shown.{shown}
use Rattle.view.specs.View.{Viewable, Viewed}
use Rattle.reaching.proofs.Laws.{view_asked}
use Rattle.reaching.specs.Questions.{question20, question11, is_taken, view_questions}
use Rattle.jobs.specs.declared.Answer.{Answer}
use Rattle.jobs.specs.Jobs.{outcome, shown_in, view_job}
use Rattle.jobs.specs.Answers.{refusal, Gives}
use Rattle.jobs.specs.Steps.{view_at}
use Rattle.jobs.proofs.Laws.Outcomes.{refused_gives, written_gives}

-- ---- question 13, the map and the count

module _ (s : List ℕ) (e : Window) (k : ℕ) (buffer : List ℕ) where
  abbrev show : ℕ → Bool
  show = shown (sheet_shape s) (marks_part (split s)) (schedule_part (split s)) (popups_part (split s)) k e

  pub view_no_room : {r : Answer} → length buffer < map_size (sheet_count s) → r ≡ refusal 13 → Gives (view_at s e k (length buffer)) buffer r buffer
  unfolding view_at answer
  view_no_room short is =
      refused_gives ((13 asks leb (map_size (sheet_count s)) (length buffer)) ∷ []) (count_shown show (sheet_count s)) (map_bytes show (sheet_count s)) buffer 13 (rw (lt-leb (map_size (sheet_count s)) (length buffer) short)) (omega arith) is

  pub view_written : {r : Answer} → map_size (sheet_count s) ≤ length buffer → {count : ℕ} {left : List ℕ} → Viewed show (sheet_count s) buffer left count
      → r ≡ record { number = 0; value = count } → Gives (view_at s e k (length buffer)) buffer r left
  unfolding view_at answer over
  view_written room v is =
      written_gives ((13 asks leb (map_size (sheet_count s)) (length buffer)) ∷ []) (count_shown show (sheet_count s)) (map_bytes show (sheet_count s)) buffer (rw (le-leb (map_size (sheet_count s)) (length buffer) room))
      (rw v.count_is at is) (rw (map_length show (sheet_count s)) v.map_is)

-- ---- questions 1 to 12, and 20

module _ (s : List ℕ) (e : Window) (zoom : Zoom) (buffer : List ℕ) where
  abbrev later : List Question
  later = (20 asks question20 (sheet_shape s) e) ∷ (11 asks question11 e) ∷ (12 asks is_taken (scale_of zoom)) ∷ (13 asks leb (map_size (sheet_count s)) (length buffer)) ∷ []

  refused_at : {r : Answer} (number : ℕ) → answer (view_questions s e zoom (length buffer)) ≡ number → 0 < number → r ≡ refusal number
      → Gives (view_job s e zoom (length buffer)) buffer r buffer
  unfolding view_job
  refused_at =
      refused_gives (view_questions s e zoom (length buffer)) (count_shown (shown_in s e zoom) (sheet_count s)) (map_bytes (shown_in s e zoom) (sheet_count s)) buffer

  pub view_refused : {r : Answer} {number : ℕ} → number ≡ answer (indexed_questions s) → 0 < number → r ≡ refusal number
      → Gives (view_job s e zoom (length buffer)) buffer r buffer
  unfolding view_questions
  view_refused {number = number} found some is =
      refused_at number (append_no (indexed_questions s) later (indexed_numbered s) (omega arith) ∙ sym found) some is

  module _ (ok : answer (indexed_questions s) ≡ 0) where
    asked : answer (view_questions s e zoom (length buffer)) ≡ answer later
    asked = view_asked s e zoom (length buffer) ok

    pub view_no_window : {r : Answer} → question20 (sheet_shape s) e ≡ false → r ≡ refusal 20 → Gives (view_job s e zoom (length buffer)) buffer r buffer
    unfolding answer
    view_no_window wrong is = refused_at 20 (asked ∙ rw wrong) (omega arith) is

    module _ (taken : question20 (sheet_shape s) e ≡ true) where
      pub view_no_order : {r : Answer} → question11 e ≡ false → r ≡ refusal 11 → Gives (view_job s e zoom (length buffer)) buffer r buffer
      unfolding answer
      view_no_order wrong is = refused_at 11 (asked ∙ rw (taken, wrong)) (omega arith) is

      module _ (right : question11 e ≡ true) where
        pub view_no_zoom : {r : Answer} → scale_of zoom ≡ None → r ≡ refusal 12 → Gives (view_job s e zoom (length buffer)) buffer r buffer
        unfolding answer
        view_no_zoom refused is = refused_at 12 (asked ∙ rw (taken, right, refused)) (omega arith) is

        -- the zoom is taken: 13 is all that is left to ask
        pub view_taken : (k : ℕ) → scale_of zoom ≡ Some k → view_job s e zoom (length buffer) ≡ view_at s e k (length buffer)
        unfolding view_job view_at shown_in outcome answer
        view_taken k zoomed = rw (asked, taken, right, zoomed)

-- ---- what the search asks for

pub viewable : (s map : List ℕ) → check s ≡ 0 → question10 (split s) ≡ true → map_size (sheet_count s) ≤ length map
    → Viewable (marks_part (split s)) (schedule_part (split s)) (popups_part (split s)) (index_part (split s)) map (sheet_count s)
unfolding question10
viewable s map ok there room =
    let f = ((accepted_iff s).0 ok).fitting in
    let parts = (both_iff (has (split s) 2) (has (split s) 3)).0 there in
    record {
      whole =
          record {
            few = f.marks.few;
            marks_long = omega (arith, f.marks.there);
            schedule_long = omega (arith, f.schedule_long parts.0);
            index_long = f.index_long parts.1;
          };
      index_right = f.index_right parts.1;
      popups = popups_good (split s) (sheet_count s) f.popups_right;
      room = room;
    }
