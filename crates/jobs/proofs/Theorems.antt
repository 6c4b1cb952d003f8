-- Demands 2 and 3 over the bytes of sheets, with popups, and that notes don't move breaks. Assumes nothing.
use Rattle.std.specs.Prelude.{ℕ, ◌+◌, ◌*◌, ◌<◌, ◌≤◌, ◌≡◌, Bool, false, ◌↔◌, take, drop}
use Rattle.std.proofs.Math.Path.{sym, ap}
use Rattle.std.proofs.Common.{◌∙◌, arith, length-append}
use Rattle.std.proofs.Math.Bool.{true}
use mathlib.Core.List.{List, [], ◌∷◌, ◌++◌}
use borrow.Author.Tests.{leb-true, le-leb, lt-ltb}
use Rattle.std.proofs.Math.Dec.{leb}
use Rattle.std.proofs.Math.ListN.{length, length-take, length-map}
use Rattle.std.proofs.Math.Seq.{take-append_seam}
use Rattle.lists.specs.Stores.{over}
use Rattle.lists.proofs.TestLaws.{both_iff, passing_same}
use Rattle.lists.specs.Tests.{bit, passing}
use Rattle.numbers.specs.Little.{Bytes}
use Rattle.fractions.specs.declared.Fraction.{Fraction}
use Rattle.fractions.specs.declared.Value.{Value}
use Rattle.fractions.specs.declared.Value.TheVariants.{At}
use Rattle.fractions.specs.Order.{Equal, AtMost}
use Rattle.marks.specs.Good.{GoodMarks}
use Rattle.marks.specs.Pairs.{popup_at, popup_value}
use Rattle.elimination.specs.Records.{value_at}
use Rattle.elimination.specs.Reel.{Reel, GoodReel, schedule_of}
use Rattle.elimination.proofs.Schedule.{schedule_popped, schedule_iff, schedule_later}
use Rattle.elimination.specs.Important.{important_count, important_at}
use Rattle.elimination.proofs.Unmoved.{unpopped_schedule, important_unmoved, same_value}
use Rattle.contents.specs.Contents.{Part, ◌holds◌, codes_of, bodies_of, count_at, has, split, join, together, marks_part, schedule_part, popups_part}
use Rattle.contents.specs.Asking.{Question, answer}
use Rattle.contents.proofs.Laws.{Numbered, asked_iff, append_iff, count_iff, split_length, split_join, together_parts}
use Rattle.contents.specs.Questions.{is_count, codes_right}
use Rattle.parts.specs.Questions.{mark_count, reel_from}
use Rattle.bodies.specs.Questions.{edition_of, shape_of, reel_of}
use Rattle.bodies.specs.Fitting.{Fitting}
use Rattle.bodies.proofs.Laws.{fitting_writable, popups_good}
use Rattle.sheet.specs.Questions.{sheet_count, check_questions, check, indexed_questions, question10}
use Rattle.sheet.proofs.Laws.{check_numbered, indexed_numbered, indexed_iff, accepted_iff, parts_iff, join_accepted, sheet_again, parts_again}
use Rattle.bitmap.specs.Map.{map_size, map_bytes, count_shown, is_set}
use Rattle.bitmap.specs.Facts.{Shows}
use Rattle.bitmap.proofs.Laws.{map_shows, map_length, count_same, shown_set}
use Rattle.zoom.specs.declared.Zoom.{Zoom}
use Rattle.zoom.specs.Zoom.{scale_of, scale}
use Rattle.zoom.specs.Living.{zoom_squared, lives_at}
use Rattle.reaching.specs.declared.Window.{Window}
use Rattle.counting.specs.Lives.{popped_up, lives}
use Rattle.reaching.specs.Shown.{shown}
use Rattle.reaching.specs.Questions.{view_questions, is_map, walk_questions}
use Rattle.jobs.specs.declared.Answer.{Answer}
use Rattle.jobs.specs.Jobs.{Outcome, outcome, after, kept_parts, new_counts, new_parts, scheduled_from, scheduled, scheduled_size, has_room, scheduling_questions, scheduling_job, schedule_job, ScheduledHere, LeftByScheduling}
use Rattle.jobs.specs.Jobs.{are_counted, assemble_questions, assemble_job, shown_in, view_job, walks_from, is_shown_job}
use Rattle.jobs.specs.Answers.{answer_of, Gives}
use Rattle.jobs.specs.Parts.{Joins}
use Rattle.jobs.specs.Demand3.{sheet_value, IsList, KeepsRules, shown_by, ShowsLiving, Demand3, HoldSame, FareSame, Meets, MeetsView}
use Rattle.jobs.proofs.Laws.Given.{together_take, together_named}
use Rattle.jobs.proofs.Laws.Outcomes.{outcome_yes, outcome_number, all_yes, kept_bytes}
use Rattle.jobs.proofs.Laws.Kept.{KeptRight, kept_right, alone_fits, kept_beside, kept_edition, kept_shape, kept_popups, counts_there}
use Rattle.jobs.proofs.Laws.Walking.{map_iff, map_asked, map_taken, walks_all}
use Rattle.jobs.proofs.Laws.Scheduling.{sheet_long, there_room, room_asked, checks_passed}
use Rattle.jobs.proofs.Lemmas.Scheduled.{later_same, new_fitting, new_bytes, good, marks_long, marks_bytes}
-- ---- part 1 of an accepted sheet

pub use Rattle.jobs.proofs.Lemmas.Scheduled.{good, marks_bytes, good_reel}

-- ---- demand 2: what scheduling writes, for an accepted sheet g

module _ (g : List ℕ) (bytes : Bytes g) (ok : check g ≡ 0) where
  abbrev kept : List Part
  kept = kept_parts (split g)

  right : KeptRight (sheet_count g) kept
  right = kept_right g ok bytes

  abbrev counted : Bool
  counted = has (split g) 6

  fits : Fitting (new_parts (marks_part (split g)) kept counted)
  fits = new_fitting (marks_part (split g)) kept (good g bytes ok) (marks_long g bytes ok) (marks_bytes g bytes ok) right counted

  codes : codes_right (codes_of (new_parts (marks_part (split g)) kept counted)) ≡ true
  codes = right.behind_three counted (new_counts (marks_part (split g)) kept)

  -- It is accepted.
  pub scheduled_accepted : check (scheduled g) ≡ 0
  unfolding scheduled
  scheduled_accepted = join_accepted (new_parts (marks_part (split g)) kept counted) codes fits

  -- Its parts are these: part 1 is the given one, byte for byte, and so are those that are kept; part 6 is renewed.
  pub scheduled_parts : split (scheduled g) ≡ new_parts (marks_part (split g)) (kept_parts (split g)) (has (split g) 6)
  unfolding scheduled
  scheduled_parts = split_join (new_parts (marks_part (split g)) kept counted) (fitting_writable (new_parts (marks_part (split g)) kept counted) fits codes)

  -- "32 + 27n bytes for n marks", and those of the parts that are kept
  pub scheduled_length : length (scheduled g) ≡ scheduled_size (sheet_count g) (kept_parts (split g)) (has (split g) 6)
  unfolding scheduled
  scheduled_length =
      sheet_long (marks_part (split g)) (sheet_count g) (good g bytes ok).few (marks_long g bytes ok) kept counted right.no_counts

  -- Scheduling it again gives the same bytes.
  pub scheduled_again : scheduled (scheduled g) ≡ scheduled g
  unfolding scheduled
  scheduled_again =
      let c = new_counts (marks_part (split g)) kept in
      let parts : split (join (new_parts (marks_part (split g)) kept counted)) ≡ new_parts (marks_part (split g)) kept counted = scheduled_parts in
      rw (parts, kept_beside kept counted c, right.again, counts_there kept counted c right.no_counts)

-- ---- marks as they stand, with parts that are kept

-- Marks that pass 4 to 6, and parts that may be kept.
pub record Pass (marks : List ℕ) (kept : List Part) : Type 0 where
  pub good : GoodMarks marks (mark_count marks)
  pub long : length marks ≡ 11 * mark_count marks
  pub bytes : Bytes marks
  pub right : KeptRight (mark_count marks) kept

-- The sheet of them alone is accepted, and scheduling it writes what it writes for them without counts.
module _ (marks : List ℕ) (kept : List Part) (pass : Pass marks kept) where
  abbrev alone : List Part
  alone = (1 holds marks) ∷ kept

  alone_fitting : Fitting alone
  alone_fitting = alone_fits marks kept pass.good pass.long pass.right

  pub alone_accepted : check (join alone) ≡ 0
  alone_accepted = join_accepted alone pass.right.behind_one alone_fitting

  pub alone_split : split (join alone) ≡ alone
  alone_split = split_join alone (fitting_writable alone alone_fitting pass.right.behind_one)

  pub alone_scheduled : scheduled (join alone) ≡ scheduled_from marks kept false
  unfolding scheduled
  alone_scheduled =
      ap (λ (l : List Part). scheduled_from (marks_part l) (kept_parts l) (has l 6)) alone_split
      ∙ rw (pass.right.again, pass.right.no_counts)

-- What scheduling writes for them, with counts or without.
module _ (marks : List ℕ) (kept : List Part) (counted : Bool) (pass : Pass marks kept) where
  abbrev sheet : List ℕ
  sheet = scheduled_from marks kept counted

  abbrev counts : List ℕ
  counts = new_counts marks kept

  from_fitting : Fitting (new_parts marks kept counted)
  from_fitting = new_fitting marks kept pass.good pass.long pass.bytes pass.right counted

  -- its parts
  pub from_parts : split sheet ≡ new_parts marks kept counted
  from_parts = split_join (new_parts marks kept counted) (fitting_writable (new_parts marks kept counted) from_fitting (pass.right.behind_three counted counts))

  from_bytes : Bytes sheet
  from_bytes =
      new_bytes marks kept counted pass.bytes pass.right.bytes

  from_accepted : check sheet ≡ 0
  from_accepted = join_accepted (new_parts marks kept counted) (pass.right.behind_three counted counts) from_fitting

  -- what is kept of it, and whether it has counts
  pub from_kept : kept_parts (split sheet) ≡ kept
  from_kept = ap kept_parts from_parts ∙ kept_beside kept counted counts ∙ pass.right.again

  pub from_counted : has (split sheet) 6 ≡ counted
  from_counted = ap (λ (l : List Part). has l 6) from_parts ∙ counts_there kept counted counts pass.right.no_counts

  -- Scheduling it again gives the same bytes, so it is scheduled here.
  from_again : scheduled sheet ≡ sheet
  unfolding scheduled
  from_again = rw (ap marks_part from_parts, from_kept, from_counted)

  pub from_here : ScheduledHere sheet
  from_here = record { given_sheet = sheet; bytes = from_bytes; accepted = from_accepted; written = sym from_again }

  -- 02, request 9: its schedule, where all popups are 0, and each removal value against the mark's own popup
  abbrev reel : Reel
  reel = reel_from (edition_of kept) (shape_of kept) (popups_part kept) marks

  pub from_unpopped : ((m : ℕ) → m < mark_count marks → popup_at (popups_part kept) m ≡ 0)
      → schedule_part (split sheet) ≡ schedule_of (reel_from (edition_of kept) (shape_of kept) [] marks)
  from_unpopped none = ap schedule_part from_parts ∙ unpopped_schedule reel none

  pub from_popped : (m : ℕ) → m < mark_count marks → (f : Fraction) → sheet_value sheet m ≡ At f
      → AtMost (popup_value (popup_at (popups_part kept) m)) f
  from_popped m h f e =
      let right : GoodReel reel = record { good = pass.good; bytes = pass.bytes; popped = popups_good kept (mark_count marks) pass.right.popups_right } in
      schedule_popped reel right m h f (rw from_parts at e)

pub here_accepted : (s : List ℕ) → ScheduledHere s → check s ≡ 0
here_accepted s here = ap check here.written ∙ scheduled_accepted here.given_sheet here.bytes here.accepted

-- ---- 'scheduled here' over the job

-- what scheduling leaves where it answers 0
module _ (g : List ℕ) (work : ℕ) (held : List ℕ) (answered : (schedule_job g work (length held)).number ≡ 0) where
  abbrev questions : List Question
  questions = scheduling_questions (check_questions g) (marks_part (split g)) (kept_parts (split g)) (has (split g) 6) work (length held)

  yes_to_all : answer questions ≡ 0
  unfolding scheduling_job scheduled
  yes_to_all = sym (outcome_number questions (length (scheduled g)) (scheduled g)) ∙ answered

  pub schedule_accepts : check g ≡ 0
  unfolding check
  schedule_accepts = checks_passed (check_questions g) (check_numbered g) (marks_part (split g)) (kept_parts (split g)) (has (split g) 6) work (length held) yes_to_all

  pub schedule_leaves : take (schedule_job g work (length held)).value (after (schedule_job g work (length held)) held) ≡ scheduled g
  unfolding scheduling_job scheduled after over
  schedule_leaves =
      rw (outcome_yes questions (length (scheduled g)) (scheduled g) yes_to_all) (take-append_seam (scheduled g) (drop (length (scheduled g)) held))

-- Buffers of the right size are enough: the work buffer, and one of the sheet's own length.
module _ (g : List ℕ) (bytes : Bytes g) (ok : check g ≡ 0) where
  pub schedule_answers : (schedule_job g (32 * sheet_count g + 1024) (length (scheduled g))).number ≡ 0
  unfolding scheduling_job scheduled check
  schedule_answers =
      let long = scheduled_length g bytes ok in
      let k = kept_parts (split g) in
      let c = has (split g) 6 in
      let room : has_room (sheet_count g) k c (32 * sheet_count g + 1024) (length (scheduled g)) ≡ true =
      there_room (sheet_count g) k c (32 * sheet_count g + 1024) (length (scheduled g)) (omega arith) (omega (arith, long)) in
      outcome_number (scheduling_questions (check_questions g) (marks_part (split g)) k c (32 * sheet_count g + 1024) (length (scheduled g))) (length (scheduled g)) (scheduled g)
      ∙ (room_asked (check_questions g) (check_numbered g) (marks_part (split g)) k c (32 * sheet_count g + 1024) (length (scheduled g)) ok ∙ rw room)

-- 01's words: "scheduled here if its bytes are those that scheduling, answering 0, writes for some sheet".
pub here_iff : (s : List ℕ) → ScheduledHere s ↔ LeftByScheduling s
here_iff s = (
  (λ h.
      let g = h.given_sheet in
      let n = sheet_count g in
      let yes = schedule_answers g h.bytes h.accepted in
      record {
        given_sheet = g;
        bytes = h.bytes;
        work = 32 * n + 1024;
        held = scheduled g;
        answered = yes;
        left = h.written ∙ sym (schedule_leaves g (32 * n + 1024) (scheduled g) yes);
      }),
  (λ l.
      record {
        given_sheet = l.given_sheet;
        bytes = l.bytes;
        accepted = schedule_accepts l.given_sheet l.work l.held l.answered;
        written = l.left ∙ schedule_leaves l.given_sheet l.work l.held l.answered;
      }),
)

-- ---- putting together, over the job

module _ (codes : List ℕ) (bodies : List (List ℕ)) (room : ℕ) where
  abbrev handed : List Part
  handed = together codes bodies

  -- Number 0: what was written is accepted, and splits into what was given.
  pub assembled_reads : (assemble_job codes bodies room).number ≡ 0
      → (check (assemble_job codes bodies room).written ≡ 0) × (split (assemble_job codes bodies room).written ≡ handed)
  unfolding assemble_job assemble_questions
  assembled_reads z =
      let yes : answer (assemble_questions codes bodies room) ≡ 0 = sym (outcome_number (assemble_questions codes bodies room) (length (join handed)) (join handed)) ∙ z in
      let a = (asked_iff 1 (are_counted codes bodies) _ (omega arith)).0 yes in
      let b = (asked_iff 2 (codes_right codes) _ (omega arith)).0 a.1 in
      let fits = ((parts_iff handed room).0 b.1).0 in
      let enough = ((both_iff (is_count (length codes)) (leb (length codes) (length bodies))).0 a.0).1 in
      let right : codes_right (codes_of handed) ≡ true = rw (together_named codes bodies (leb-true (length codes) (length bodies) enough)) b.0 in
      rw (outcome_yes (assemble_questions codes bodies room) (length (join handed)) (join handed) yes)
      (join_accepted handed right fits, split_join handed (fitting_writable handed fits right))

  -- An accepted sheet's parts, put together with room enough: 0, its length, its bytes.
  pub assembled_again : (s : List ℕ) → Bytes s → check s ≡ 0 → codes ≡ codes_of (split s) → take (length codes) bodies ≡ bodies_of (split s) → length s ≤ room
      → assemble_job codes bodies room ≡ record { number = 0; value = length s; written = s }
  unfolding assemble_job assemble_questions
  assembled_again s bytes ok named held fits =
      let w = ((accepted_iff s).0 ok).laid in
      let are : handed ≡ split s = sym (together_take codes bodies) ∙ rw (held, named) (together_parts (split s)) in
      let count : length codes ≡ count_at s = rw named (length-map (split s) _ ∙ split_length s) in
      let taken : is_count (length codes) ≡ true = rw count ((count_iff (count_at s)).1 (w.whole.some, w.whole.few)) in
      let enough : leb (length codes) (length bodies) ≡ true = le-leb (length codes) (length bodies) (omega (arith, ap length held, length-take (length codes) bodies, length-map (split s) (λ (p : Part). p.body), split_length s)) in
      let right : codes_right codes ≡ true = rw named w.codes in
      let yes : answer (assemble_questions codes bodies room) ≡ 0 =
      (asked_iff 1 (are_counted codes bodies) _ (omega arith)).1 (
        (both_iff (is_count (length codes)) _).1 (taken, enough),
        (asked_iff 2 (codes_right codes) _ (omega arith)).1 (right, rw are (parts_again s room bytes ok fits)),
      ) in
      let same : join handed ≡ s = rw are (sheet_again s bytes ok) in
      outcome_yes (assemble_questions codes bodies room) (length (join handed)) (join handed) yes ∙ rw same

pub assemble_joins : (codes : List ℕ) (bodies : List (List ℕ)) (before : List ℕ) {r : Answer} {out : List ℕ}
    → Gives (assemble_job codes bodies (length before)) before r out → Joins codes bodies before r out
unfolding assemble_job after over
assemble_joins codes bodies before {r} {out} gives =
    record {
      split_again = λ z. ap split (kept_bytes questions sheet before gives z ∙ sym (written z)) ∙ (assembled_reads codes bodies (length before) (number z)).1;
      accepted = λ z. ap check (kept_bytes questions sheet before gives z ∙ sym (written z)) ∙ (assembled_reads codes bodies (length before) (number z)).0;
      again = λ s bytes ok named held fits.
          (let job = assembled_again codes bodies (length before) s bytes ok named held fits in
          (gives.answered ∙ ap answer_of job, gives.bytes ∙ ap (λ (o : Outcome). after o before) job));
    }
  where
    questions : List Question
    questions = assemble_questions codes bodies (length before)

    sheet : List ℕ
    sheet = join (together codes bodies)

    number : r.number ≡ 0 → (assemble_job codes bodies (length before)).number ≡ 0
    number z = ap (λ (a : Answer). a.number) (sym gives.answered) ∙ z

    written : r.number ≡ 0 → (assemble_job codes bodies (length before)).written ≡ sheet
    written z = ap (λ (o : Outcome). o.written) (outcome_yes questions (length sheet) sheet (all_yes questions (length sheet) sheet before gives z))

-- ---- demand 3, of a sheet s scheduled here

module _ (s : List ℕ) (here : ScheduledHere s) where
  open here use {given_sheet as g, bytes, accepted, written}

  parts : split s ≡ new_parts (marks_part (split g)) (kept_parts (split g)) (has (split g) 6)
  parts = ap split written ∙ scheduled_parts g bytes accepted

  right_kept : KeptRight (sheet_count g) (kept_parts (split g))
  right_kept = kept_right g accepted bytes

  -- Its part 1 is the given sheet's, byte for byte, so no mark handed in is missing.
  pub part1_kept : marks_part (split s) ≡ marks_part (split g)
  part1_kept = ap marks_part parts

  -- And the parts that are kept are the given sheet's.
  pub others_kept : kept_parts (split s) ≡ kept_parts (split g)
  others_kept =
      ap kept_parts parts ∙ kept_beside (kept_parts (split g)) (has (split g) 6) (new_counts (marks_part (split g)) (kept_parts (split g))) ∙ right_kept.again

  -- There are counts where the given sheet has counts.
  pub counts_kept : has (split s) 6 ≡ has (split g) 6
  counts_kept =
      ap (λ (l : List Part). has l 6) parts
      ∙ counts_there (kept_parts (split g)) (has (split g) 6) (new_counts (marks_part (split g)) (kept_parts (split g))) right_kept.no_counts

  -- The edition, the shape and the popups that are kept are its own.
  pub here_edition : edition_of (kept_parts (split s)) ≡ edition_of (split s)
  here_edition = kept_edition (split s)

  pub here_shape : shape_of (kept_parts (split s)) ≡ shape_of (split s)
  here_shape = kept_shape (split s)

  part1_good : GoodMarks (marks_part (split s)) (sheet_count s)
  part1_good = rw parts (good g bytes accepted)

  part1_bytes : Bytes (marks_part (split s))
  part1_bytes = rw parts (marks_bytes g bytes accepted)

  reel_good : GoodReel (reel_of (split s))
  reel_good = record { good = part1_good; bytes = part1_bytes; popped = popups_good (split s) (sheet_count s) ((accepted_iff s).0 (here_accepted s here)).fitting.popups_right }

  -- Its marks pass 4 to 6, and its schedule is that of its reel.
  pub here_pass : Pass (marks_part (split s)) (kept_parts (split s))
  here_pass =
      record {
        good = part1_good;
        long = rw parts (marks_long g bytes accepted);
        bytes = part1_bytes;
        right = rw (others_kept, part1_kept) right_kept;
      }

  pub schedule_is : schedule_part (split s) ≡ schedule_of (reel_of (split s))
  schedule_is =
      ap schedule_part parts
      ∙ rw (← others_kept, ← part1_kept, kept_edition (split s), kept_shape (split s), kept_popups (split s))

  pub here_indexed : answer (indexed_questions s) ≡ 0
  unfolding question10
  here_indexed = (indexed_iff s).1 (here_accepted s here, rw parts)

  module _ (list : ℕ → Value) (sound : IsList s list) where
    -- A list equals ours, mark by mark, exactly when it keeps both rules.
    pub same_iff : ((m : ℕ) → m < sheet_count s → Equal (sheet_value s m) (list m)) ↔ KeepsRules s list
    same_iff = rw schedule_is (schedule_iff (reel_of (split s)) reel_good list sound)

    -- And such a list has the same marks living at every zoom.
    pub lives_same : KeepsRules s list → (m k : ℕ) → m < sheet_count s → lives_at k (list m) ≡ lives_at k (sheet_value s m)
    unfolding lives_at
    lives_same rules m k h =
        let e = rw (← schedule_is) at (schedule_later (reel_of (split s)) reel_good list sound rules m (zoom_squared k) h) in
        later_same (list m) (sheet_value s m) (zoom_squared k) e

    -- The view clause. `buffer` is what the lent map held.
    module _ (rules : KeepsRules s list) (e : Window) (zoom : Zoom) (buffer : List ℕ)
        (taken : answer (view_questions s e zoom (length buffer)) ≡ 0) where
      living_same : (m : ℕ) → m < sheet_count s → shown_in s e zoom m ≡ shown_by s e zoom list m
      unfolding shown_in shown lives
      living_same m h = rw (lives_same rules m (scale (scale_of zoom)) h)

      viewed : view_job s e zoom (length buffer)
          ≡ record { number = 0; value = count_shown (shown_in s e zoom) (sheet_count s); written = map_bytes (shown_in s e zoom) (sheet_count s) }
      unfolding view_job outcome
      viewed = rw taken

      pub view_living : ShowsLiving s e zoom list (after (view_job s e zoom (length buffer)) buffer) (view_job s e zoom (length buffer)).value
      unfolding after over
      view_living =
          let w = map_shows (shown_in s e zoom) (sheet_count s) (drop (length (map_bytes (shown_in s e zoom) (sheet_count s))) buffer) in
          rw viewed
          (record {
            bits = record { bits = λ m h. w.bits m h ∙ ap bit (living_same m h); unused = w.unused };
            counted = count_same (shown_in s e zoom) (shown_by s e zoom list) (sheet_count s) living_same;
          })

  -- Demand 3, whole.
  pub demand3 : Demand3 s
  demand3 = record { same = same_iff; view = view_living }

-- ---- 02, request 14: "Notes don't move breaks", of two sheets scheduled here

module _ (s t : List ℕ) (here : ScheduledHere s) (there : ScheduledHere t) (p : ℕ) (same : HoldSame p s t) where
  pub notes_unmoved : FareSame p s t
  notes_unmoved =
      rw (schedule_is s here, schedule_is t there)
      (important_unmoved p (reel_of (split s)) (reel_of (split t)) (reel_good s here) (reel_good t there) same)

  -- So at every zoom the same of them live.
  module _ (i : ℕ) (h : i < important_count p (reel_of (split s))) where
    abbrev a : ℕ
    a = important_at p (reel_of (split s)) i

    abbrev b : ℕ
    b = important_at p (reel_of (split t)) i

    pub notes_value : sheet_value s a ≡ sheet_value t b
    unfolding value_at
    notes_value = same_value (notes_unmoved i h)

    pub notes_lives : (k : ℕ) → lives (sheet_value s a) (popups_part (split s)) k a ≡ lives (sheet_value t b) (popups_part (split t)) k b
    unfolding lives popped_up
    notes_lives k = rw (notes_value, (same.marks i h).popup)

-- ---- the walk as a whole, over the jobs

-- Walking from 0, each next from one past the last, hands out exactly the set bits below n, rising, and then 65,535.
pub walk_whole : (map : List ℕ) (n turns : ℕ) → answer (walk_questions map n) ≡ 0 → n < turns
    → walks_from map n turns 0 ≡ passing (is_set map) n 0 ++ (65535 ∷ [])
walk_whole map n turns asked enough = walks_all map n (map_taken map n asked) n 0 turns (omega arith) enough

-- Of a view's map these are exactly the shown marks, and each is told by its bit. `buffer` is what the lent map held.
module _ (s : List ℕ) (e : Window) (zoom : Zoom) (buffer : List ℕ) (taken : answer (view_questions s e zoom (length buffer)) ≡ 0) where
  abbrev map : List ℕ
  map = after (view_job s e zoom (length buffer)) buffer

  map_is : map ≡ map_bytes (shown_in s e zoom) (sheet_count s) ++ drop (length (map_bytes (shown_in s e zoom) (sheet_count s))) buffer
  unfolding view_job outcome after over
  map_is = rw taken

  shows : Shows (shown_in s e zoom) (sheet_count s) map
  shows = rw map_is (map_shows (shown_in s e zoom) (sheet_count s) _)

  ok : check s ≡ 0
  unfolding view_questions
  ok = ((indexed_iff s).0 ((append_iff (indexed_questions s) _ (indexed_numbered s)).0 taken).0).0

  -- It is a map that can be walked.
  is_map_lem : is_map map (sheet_count s) ≡ true
  is_map_lem =
      let long : map_size (sheet_count s) ≤ length map =
      rw map_is (omega (arith, length-append (map_bytes (shown_in s e zoom) (sheet_count s)) (drop (length (map_bytes (shown_in s e zoom) (sheet_count s))) buffer), map_length (shown_in s e zoom) (sheet_count s))) in
      (map_iff map (sheet_count s)).1 (((accepted_iff s).0 ok).fitting.marks.few, long)

  pub walk_view : (turns : ℕ) → sheet_count s < turns
      → walks_from map (sheet_count s) turns 0 ≡ passing (shown_in s e zoom) (sheet_count s) 0 ++ (65535 ∷ [])
  walk_view turns enough =
      walks_all map (sheet_count s) is_map_lem (sheet_count s) 0 turns (omega arith) enough
      ∙ ap (λ (l : List ℕ). l ++ (65535 ∷ []))
      (passing_same (is_set map) (shown_in s e zoom) (sheet_count s) 0 (λ m low h. shown_set shows m (omega arith)))

  pub is_shown_view : (m : ℕ) → m < sheet_count s
      → is_shown_job map (sheet_count s) m ≡ record { number = 0; value = bit (shown_in s e zoom m); written = [] }
  unfolding is_shown_job outcome
  is_shown_view m h = rw (map_asked map (sheet_count s), is_map_lem, lt-ltb m (sheet_count s) h, shows.bits m h)

-- ---- and so of what the calls answer and leave

-- Of a job that schedules these marks, which pass 4 to 6 wherever its `checks` are passed.
module _ (checks : List Question) (numbered : Numbered checks) (marks : List ℕ) (others : List Part) (counted : Bool)
    (pass : answer checks ≡ 0 → Pass marks others) where
  pub scheduling_meets : (work : ℕ) (before : List ℕ) {r : Answer} {out : List ℕ}
      → Gives (scheduling_job checks marks others counted work (length before)) before r out → Meets marks others counted r out
  unfolding scheduling_job scheduled
  scheduling_meets work before {r} {out} gives =
      record {
        accepted = λ z. rw (written z) (here_accepted (scheduled_from marks others counted) (here z));
        here = λ z. rw (written z) (here z);
        part1 = λ z. rw (written z) (ap marks_part (from_parts marks others counted (pass (ok z))));
        keeps = λ z. rw (written z) (from_kept marks others counted (pass (ok z)));
        renews = λ z. rw (written z) (from_counted marks others counted (pass (ok z)));
        fresh = λ z g e f h. rw (e, f, h) (written z);
        demand3 = λ z. rw (written z) (demand3 (scheduled_from marks others counted) (here z));
        unpopped = λ z. rw (written z) (from_unpopped marks others counted (pass (ok z)));
        popped = λ z. rw (written z) (from_popped marks others counted (pass (ok z)));
        unmoved = λ z t there p. rw (written z) (notes_unmoved (scheduled_from marks others counted) t (here z) there p);
      }
    where
      ok : r.number ≡ 0 → answer checks ≡ 0
      ok z =
          checks_passed checks numbered marks others counted work (length before)
          (all_yes (scheduling_questions checks marks others counted work (length before)) (length (scheduled_from marks others counted)) (scheduled_from marks others counted) before gives z)

      here : r.number ≡ 0 → ScheduledHere (scheduled_from marks others counted)
      here z = from_here marks others counted (pass (ok z))

      written : r.number ≡ 0 → take r.value out ≡ scheduled_from marks others counted
      written z = kept_bytes (scheduling_questions checks marks others counted work (length before)) (scheduled_from marks others counted) before gives z

pub schedule_meets : (g : List ℕ) (work : ℕ) (before : List ℕ) {r : Answer} {out : List ℕ} → Bytes g
    → Gives (schedule_job g work (length before)) before r out → Meets (marks_part (split g)) (kept_parts (split g)) (has (split g) 6) r out
unfolding check
schedule_meets g work before bytes =
    scheduling_meets (check_questions g) (check_numbered g) (marks_part (split g)) (kept_parts (split g)) (has (split g) 6)
    (λ ok. record { good = good g bytes ok; long = marks_long g bytes ok; bytes = marks_bytes g bytes ok; right = kept_right g ok bytes }) work before

pub view_meets : (s : List ℕ) (e : Window) (zoom : Zoom) (before : List ℕ) {r : Answer} {map : List ℕ}
    → Gives (view_job s e zoom (length before)) before r map → MeetsView s e zoom r map
unfolding view_job
view_meets s e zoom before {r} {map} gives =
    record {
      living = λ here z list sound rules.
          (let taken = all_yes (view_questions s e zoom (length before)) _ _ before gives z in
          rw (gives.bytes, ap (λ (a : Answer). a.value) gives.answered) (view_living s here list sound rules e zoom before taken));
    }

-- what a view gives, with demand 3 of it
pub view_whole : {s : List ℕ} {e : Window} {zoom : Zoom} {before map : List ℕ} {r : Answer}
    → Gives (view_job s e zoom (length before)) before r map
    → Gives (view_job s e zoom (length before)) before r map × MeetsView s e zoom r map
view_whole {s} {e} {zoom} {before} gives = (gives, view_meets s e zoom before gives)

-- Schedule, then view: what the first call promises of its output is all that the second asks of its input.
pub schedule_then_view : {g : List ℕ} {others : List Part} {counted : Bool} {out : List ℕ} {r : Answer} {e : Window} {zoom : Zoom} {v : Answer} {map : List ℕ}
    → Meets g others counted r out → r.number ≡ 0 → MeetsView (take r.value out) e zoom v map → v.number ≡ 0
    → (list : ℕ → Value) → IsList (take r.value out) list → KeepsRules (take r.value out) list
    → ShowsLiving (take r.value out) e zoom list map v.value
schedule_then_view meets scheduled-it view viewed-it = view.living (meets.here scheduled-it) viewed-it
