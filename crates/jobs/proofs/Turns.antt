-- 02, request 8: "For a sheet scheduled here, scheduling the turned marks, where they fit 01's range, with the sheet's parts beyond 3 carried
-- along, and viewing without a turn gives the same map." Request 13: "Squares take no turn but 0, so the guarantee on turned marks is for disks."
-- Over the jobs and bytes; the contracts of the views cite it. Assumes nothing.
use Rattle.std.specs.Prelude.{ℕ, ◌<◌, ◌≤◌, ◌≡◌, Bool, false, List, [], ◌∷◌, ◌≢◌, leb, length}
use Rattle.std.proofs.Math.Path.{refl}
use Rattle.std.proofs.Common.{sym, ap, ◌∙◌, arith}
use borrow.Author.Tests.{le-leb}
use Rattle.elimination.specs.Reel.{marks_of}
use Rattle.elimination.specs.Alike.{Alike}
use Rattle.elimination.proofs.Unmoved.{alike_schedule}
use Rattle.turns.proofs.Laws.{turned_0}
use Rattle.changing.specs.Turned.{turned_at, turned_marks, TurnedFit}
use Rattle.changing.proofs.TurnedLaws.{turned_length, turned_bytes, turned_fields, turned_used, turned_good, turned_rank, turned_pair}
use Rattle.contents.specs.Contents.{Part, split, marks_part, schedule_part, popups_part}
use Rattle.contents.specs.Asking.{Question, ◌asks◌, answer}
use Rattle.parts.specs.Questions.{mark_count, reel_from}
use Rattle.bodies.specs.Questions.{edition_of, shape_of}
use Rattle.sheet.specs.Questions.{sheet_count, sheet_shape, check}
use Rattle.zoom.specs.declared.Zoom.{Zoom}
use Rattle.zoom.specs.Zoom.{scale_of}
use Rattle.bitmap.specs.Map.{map_size}
use Rattle.bitmap.proofs.Laws.{map_same, count_same}
use Rattle.reaching.specs.declared.Window.{Window}
use Rattle.reaching.specs.Shown.{reaches, shown}
use Rattle.reaching.proofs.Laws.{view_asked, disks_taken}
use Rattle.reaching.specs.Questions.{is_window, question20, question11, is_taken, view_questions}
use Rattle.jobs.specs.declared.Answer.{Answer}
use Rattle.jobs.specs.Jobs.{kept_parts, new_parts, scheduled_from, scheduled, ScheduledHere, shown_in, view_job}
use Rattle.jobs.specs.Answers.{Gives}
use Rattle.jobs.proofs.Laws.Kept.{kept_popups, kept_shape}
use Rattle.jobs.proofs.Theorems.{Pass, alone_accepted, alone_scheduled, from_here, from_parts, here_pass, here_indexed, here_edition, here_shape, schedule_is}
use Rattle.jobs.proofs.Laws.Outcomes.{outcome_same}
use Rattle.jobs.specs.Turns.{turned_sheet, unturned, MeetsTurn}

-- ---- over the jobs

module _ (s : List ℕ) (here : ScheduledHere s) (t : ℕ) (fit : TurnedFit t (marks_part (split s)) (sheet_count s)) where
  abbrev marks : List ℕ
  marks = marks_part (split s)

  abbrev kept : List Part
  kept = kept_parts (split s)

  abbrev turned : List ℕ
  turned = turned_marks t marks (sheet_count s)

  pass : Pass marks kept
  pass = here_pass s here

  turned_count : mark_count turned ≡ sheet_count s
  turned_count = omega (arith, turned_length t marks (sheet_count s))

  turned_pass : Pass turned kept
  turned_pass =
      record {
        good = rw turned_count (turned_good t marks (sheet_count s) pass.bytes fit pass.good);
        long = rw turned_count (turned_length t marks (sheet_count s));
        bytes = turned_bytes t marks (sheet_count s);
        right = rw turned_count pass.right;
      }

  pub turned_accepted : check (turned_sheet t s) ≡ 0
  turned_accepted = alone_accepted turned kept turned_pass

  -- scheduled, the sheet of the turned marks
  abbrev other : List ℕ
  other = scheduled_from turned kept false

  other_here : ScheduledHere other
  other_here = from_here turned kept false turned_pass

  other_parts : split other ≡ new_parts turned kept false
  other_parts = from_parts turned kept false turned_pass

  other_marks : marks_part (split other) ≡ turned
  other_marks = ap marks_part other_parts

  same_count : sheet_count other ≡ sheet_count s
  same_count = ap mark_count other_marks ∙ turned_count

  -- "The process sees only ranks and pair values", and these a turn keeps.
  alike : (edition shape : ℕ) (popups : List ℕ) → Alike (marks_of (reel_from edition shape popups marks)) (marks_of (reel_from edition shape popups turned))
  alike edition shape popups =
      record {
        counts = sym turned_count;
        ranks = λ i j hi hj.
            rw (turned_rank t marks (sheet_count s) pass.bytes fit edition i hi, turned_rank t marks (sheet_count s) pass.bytes fit edition j hj)
            ((λ l. l), (λ l. l));
        values = λ i j hi hj. sym (turned_pair t marks (sheet_count s) pass.bytes fit shape popups i j hi hj);
      }

  same_popups : popups_part (split other) ≡ popups_part (split s)
  same_popups = ap popups_part other_parts ∙ kept_popups (split s)

  same_shape : sheet_shape other ≡ sheet_shape s
  same_shape = ap shape_of other_parts ∙ kept_shape (split s)

  same_schedule : schedule_part (split other) ≡ schedule_part (split s)
  same_schedule =
      let edition = edition_of kept in
      let shape = shape_of kept in
      let popups = popups_part kept in
      ap schedule_part other_parts ∙ sym (alike_schedule (reel_from edition shape popups marks) (reel_from edition shape popups turned) (alike edition shape popups))
      ∙ rw (here_edition s here, here_shape s here, kept_popups (split s)) (sym (schedule_is s here))

  module _ (e : Window) (is : e.turn ≡ t) (zoom : Zoom) (room : ℕ) where
    same_shown : (m : ℕ) → m < sheet_count s → shown_in s e zoom m ≡ shown_in other (unturned e) zoom m
    unfolding shown_in shown reaches
    same_shown m h =
        let has = turned_fields t marks (sheet_count s) pass.bytes fit m h in
        rw (same_shape, same_schedule, same_popups, other_marks, is, has.x, has.y, turned_used t marks (sheet_count s) pass.bytes fit m h, turned_0 (turned_at t marks m))

    module _ (disks : sheet_shape s ≢ 2) (few : t ≤ 3) where
      window_there : is_window e ≡ is_window (unturned e)
      unfolding is_window
      window_there = rw (is, le-leb t 3 few)

      same_window : question20 (sheet_shape s) e ≡ question20 (sheet_shape other) (unturned e)
      same_window =
          disks_taken (sheet_shape s) e disks ∙ window_there
          ∙ sym (disks_taken (sheet_shape other) (unturned e) (λ two. disks (sym same_shape ∙ two)))

      same_order : question11 e ≡ question11 (unturned e)
      unfolding question11
      same_order = refl

      -- what is asked behind 1 to 10, by the answers to 20 and 11 and the number of marks
      abbrev later : Bool → Bool → ℕ → List Question
      later taken right n = (20 asks taken) ∷ (11 asks right) ∷ (12 asks is_taken (scale_of zoom)) ∷ (13 asks leb (map_size n) room) ∷ []

      asked_here : answer (view_questions s e zoom room) ≡ answer (later (question20 (sheet_shape s) e) (question11 e) (sheet_count s))
      asked_here = view_asked s e zoom room (here_indexed s here)

      asked_there : answer (view_questions other (unturned e) zoom room) ≡ answer (later (question20 (sheet_shape other) (unturned e)) (question11 (unturned e)) (sheet_count other))
      asked_there = view_asked other (unturned e) zoom room (here_indexed other other_here)

      same_asked : answer (view_questions s e zoom room) ≡ answer (view_questions other (unturned e) zoom room)
      same_asked =
          asked_here ∙ ap (λ (t : Bool). answer (later t (question11 e) (sheet_count s))) same_window
          ∙ ap (λ (t : Bool). answer (later (question20 (sheet_shape other) (unturned e)) t (sheet_count s))) same_order
          ∙ ap (λ (n : ℕ). answer (later (question20 (sheet_shape other) (unturned e)) (question11 (unturned e)) n)) (sym same_count) ∙ sym asked_there

      same_outcome : view_job s e zoom room ≡ view_job other (unturned e) zoom room
      unfolding view_job
      same_outcome =
          let n = sheet_count s in
          let p = shown_in s e zoom in
          let q = shown_in other (unturned e) zoom in
          outcome_same (view_questions s e zoom room) (view_questions other (unturned e) zoom room) _ _ same_asked
          ∙ rw (same_count, count_same p q n same_shown, map_same p q n same_shown)

      -- "gives the same map"
      pub turned_view : view_job s e zoom room ≡ view_job (scheduled (turned_sheet t s)) (unturned e) zoom room
      turned_view = same_outcome ∙ ap (λ (l : List ℕ). view_job l (unturned e) zoom room) (sym (alone_scheduled turned kept turned_pass))

-- ---- and so of what the calls answer and leave

pub turn_meets : {s : List ℕ} {e : Window} {zoom : Zoom} {before map : List ℕ} {r : Answer}
    → Gives (view_job s e zoom (length before)) before r map → MeetsTurn s e zoom before r map
turn_meets {s} {e} {zoom} {before} gives =
    record {
      accepted = λ here fit. turned_accepted s here e.turn fit;
      same = λ here disks fit few. rw (← turned_view s here e.turn fit e refl zoom (length before) disks few) gives;
    }
