-- The answer to the program's questions, and what is printed for each answer. Assumes nothing.
use Rattle.std.specs.Prelude.{ℕ, ◌*◌, ◌<◌, ◌≤◌, ◌≡◌, refl, leb, length, drop}
use Rattle.std.proofs.Common.{sym, ap, ◌∙◌, arith}
use mathlib.Core.List.{List, [], ◌∷◌, ◌++◌}
use borrow.Author.Tests.{le-leb, lt-leb, leb-true, ne_eqb}
use Rattle.lists.specs.Stores.{over}
use Rattle.lists.proofs.StoreLaws.{over_sets}
use Rattle.numbers.specs.Little.{Bytes}
use Rattle.fractions.specs.declared.Fraction.{Fraction}
use Rattle.text.specs.Text.{decimal, Wrote}
use Rattle.text.proofs.Laws.{decimal_denotes, wrote_length}
use Rattle.zoom.specs.Printed.{nearest}
use Rattle.zoom.proofs.Laws.{nearest_is, nearest_fits}
use Rattle.elimination.specs.Process.{gone, process}
use Rattle.elimination.specs.Reel.{Reel, marks_of, GoodReel, schedule_of}
use Rattle.elimination.proofs.Schedule.{schedule_length, gone_small}
use Rattle.contents.specs.Contents.{split}
use Rattle.contents.specs.Asking.{Question, ◌asks◌, answer}
use Rattle.contents.proofs.Laws.{none_asked, asked_yes, asked_no, asked_iff}
use Rattle.contents.proofs.Laws.{append_yes, append_no, append_iff}
use Rattle.bodies.specs.Questions.{reel_of}
use Rattle.sheet.specs.Questions.{sheet_count, check_questions, check}
use Rattle.sheet.proofs.Laws.{check_numbered}
use Rattle.jobs.proofs.Theorems.{good_reel}
use Rattle.listing.specs.Lines.{text, line, mark_line, listing, refusal_line}
use Rattle.listing.specs.Listed.{removal_at, Printable, first_room, text_room}
use Rattle.listing.proofs.Laws.{refusal_room, listing_room, lines_at, listing_same}
use Rattle.report.specs.Text.{most_marks, longest_input, print_questions, removals, printed}
use Rattle.report.specs.Printing.{worked_out, ZoomLine, Prints}
use Rattle.report.proofs.Lemmas.Removals.{removal_process, schedule_printable}

module _ (s : List ℕ) where
  last : List Question
  last = (14 asks leb (sheet_count s) most_marks) ∷ []

  -- ---- the first 'no'

  pub answer_long : longest_input < length s → answer (print_questions s) ≡ 14
  unfolding print_questions
  answer_long h = asked_no 14 _ (lt-leb (length s) longest_input h)

  module _ (short : length s ≤ longest_input) where
    pub answer_refused : 0 < check s → answer (print_questions s) ≡ check s
    unfolding print_questions check
    answer_refused h = asked_yes 14 _ (le-leb (length s) longest_input short) ∙ append_no (check_questions s) _ (check_numbered s) h

    module _ (ok : check s ≡ 0) where
      accepted : answer (print_questions s) ≡ answer last
      unfolding print_questions check last
      accepted = asked_yes 14 _ (le-leb (length s) longest_input short) ∙ append_yes (check_questions s) _ (check_numbered s) ok

      pub answer_many : most_marks < sheet_count s → answer (print_questions s) ≡ 14
      unfolding last
      answer_many h = accepted ∙ asked_no 14 _ (lt-leb (sheet_count s) most_marks h)

      pub answer_taken : sheet_count s ≤ most_marks → answer (print_questions s) ≡ 0
      unfolding last
      answer_taken h = accepted ∙ asked_yes 14 _ (le-leb (sheet_count s) most_marks h) ∙ none_asked

  -- ---- what is printed

  -- the text at the start of a buffer that has room for it
  record Stands (out out-after : List ℕ) (r : ℕ) : Type 0 where
    size : r ≡ length (printed s)
    inside : r ≤ length out-after
    text : out-after ≡ over (printed s) out

  stands : (w : List ℕ) {out out-after : List ℕ} {r : ℕ} → printed s ≡ w → length w ≤ length out → Wrote out out-after 0 w r → Stands out out-after r
  stands w {out} e room o =
      record {
        size = rw e (omega (arith, o.ends));
        inside = omega (arith, o.ends, wrote_length o);
        text = o.holds ∙ over_sets w out room ∙ ap (λ (t : List ℕ). over t out) (sym e);
      }

  module _ {number : ℕ} (e : number ≡ answer (print_questions s)) (no : 0 < number) where
    refusal_printed : printed s ≡ refusal_line number
    unfolding printed
    refusal_printed = rw (← e, ne_eqb number 0 (λ z. omega arith))

    none_worked_out : worked_out s ≡ []
    unfolding worked_out
    none_worked_out = rw (← e, ne_eqb number 0 (λ z. omega arith))

    pub prints_refusal : (work schedule : List ℕ) {out out-after : List ℕ} {r : ℕ} → first_room ≤ length out
        → Wrote out out-after 0 (line (text "refused" ∷ decimal number ∷ [])) r → Prints s work schedule out r work schedule out-after
    unfolding refusal_line over
    prints_refusal work schedule room o =
        let w = stands (refusal_line number) refusal_printed (omega (arith, refusal_room number)) o in
        record { size = w.size; inside = w.inside; text = w.text; records = rw none_worked_out; long = refl; refused = λ h. refl; zooms = λ yes. absurd (omega arith) }

  -- no question said 'no'
  module _ (yes : answer (print_questions s) ≡ 0) where
    asked : (check s ≡ 0) × (answer last ≡ 0)
    unfolding print_questions check last
    asked = (append_iff (check_questions s) _ (check_numbered s)).0 ((asked_iff 14 (leb (length s) longest_input) _ (omega arith)).0 yes).1

    pub taken_accepted : check s ≡ 0
    taken_accepted = asked.0

    few : sheet_count s ≤ most_marks
    unfolding last
    few = leb-true (sheet_count s) most_marks ((asked_iff 14 (leb (sheet_count s) most_marks) [] (omega arith)).0 asked.1).0

  -- every removal zoom is the nearest
  module _ (bytes : Bytes s) (yes : answer (print_questions s) ≡ 0) where
    listed : printed s ≡ listing (removals s) (sheet_count s)
    unfolding printed
    listed = rw yes

    pub zoom_line : (m h : ℕ) (f : Fraction) → m < sheet_count s → removals s m ≡ gone h f → ZoomLine s m h f
    unfolding listing mark_line
    zoom_line m h f l e =
        let ok = (asked yes).0 in
        let small = gone_small (reel_of (split s)) (good_reel s bytes ok) m h f l e in
        let at = lines_at (removals s) m (sheet_count s) l in
        record {
          k = nearest f;
          zoom = nearest_is f small.1 (omega (arith, small.0.num_small));
          denotes = decimal_denotes (nearest f) (nearest_fits f);
          rest = at.0;
          stands = listed ∙ rw (at.1, e);
        }

  -- then `r` is its reel
  module _ (bytes : Bytes s) (yes : answer (print_questions s) ≡ 0) {r : Reel} (is : r ≡ reel_of (split s)) where
    pub reel_few : r.count ≤ most_marks
    reel_few = rw is (few yes)

    reel_good : GoodReel r
    reel_good = rw is (good_reel s bytes (asked yes).0)

    module _ {p : List ℕ} (before : List ℕ) (schedule : p ≡ schedule_of r ++ drop (14 * r.count) before) where
      rest : List ℕ
      rest = drop (14 * r.count) before

      pub taken_printable : Printable p r.count
      unfolding rest
      taken_printable = rw schedule (schedule_printable r rest reel_good)

      same : listing (removal_at p) r.count ≡ printed s
      unfolding rest
      same =
          listing_same (removal_at p) (process (marks_of r)) r.count (rw schedule (removal_process r rest reel_good))
          ∙ ap (λ (q : Reel). listing (process (marks_of q)) q.count) is
          ∙ sym (listed bytes yes)

      worked_out_lem : p ≡ over (worked_out s) before
      unfolding worked_out over
      worked_out_lem = rw (yes, ← is, schedule_length r) schedule

      pub prints_listing : (work work-after : List ℕ) {out out-after : List ℕ} {n : ℕ} → length work-after ≡ length work → text_room most_marks ≤ length out
          → Wrote out out-after 0 (listing (removal_at p) r.count) n → Prints s work before out n work-after p out-after
      prints_listing work work-after long room o =
          let w = stands (listing (removal_at p) r.count) (sym same) (omega (arith, listing_room (removal_at p) r.count, reel_few)) o in
          record { size = w.size; inside = w.inside; text = w.text; records = worked_out_lem; long = long; refused = λ h. absurd (omega (arith, h, yes)); zooms = λ _. zoom_line bytes yes }
