-- 02, request 5, "Marks come and go": what adding a mark and taking one out give, over the jobs, and so of what the calls answer and leave.
-- Assumes nothing.
use Prim.Native.Nat.{ℕ, suc, ◌+◌, ◌-◌, ◌*◌, ◌<◌, ◌≤◌}
use Rattle.std.specs.Prelude.{◌≡◌, refl, Bool, false, ◌||◌, ◌↔◌, ltb, eqb, length, take}
use Rattle.std.proofs.Math.Path.{sym}
use Rattle.std.proofs.Common.{ap, ◌∙◌}
use Rattle.std.proofs.Math.Bool.{true, cond}
use mathlib.Core.List.{List, [], ◌++◌}
use Rattle.std.proofs.Math.Decide.{dec_lt}
use Rattle.std.proofs.Math.Numerals.{add-one}
use native.Mathlib.Omega.{arith}
use borrow.Author.Tests.{ltb-true, lt-ltb, leb-true, eqb-true}
use Rattle.std.proofs.Math.Seq.{take-nil, drop-nil}
use Rattle.lists.proofs.TestLaws.{both_iff, by_cases}
use Rattle.numbers.specs.Little.{le_bytes, Bytes}
use Rattle.marks.specs.declared.Mark.{Mark}
use Rattle.marks.specs.Marks.{mark_bytes}
use Rattle.marks.specs.Good.{GoodMarks}
use Rattle.marks.specs.Fields.{FieldsFit}
use Rattle.marks.specs.Pairs.{popup_size, popup_at}
use Rattle.marks.proofs.PairLaws.{popup_none}
use Rattle.contents.specs.Contents.{Part, has, split, marks_part, edition_part, popups_part, shape_part}
use Rattle.contents.specs.Asking.{answer}
use Rattle.contents.proofs.Laws.{Numbered, numbered_append, none_asked, asked_iff, append_iff, find_none, find_bytes}
use Rattle.parts.specs.Questions.{mark_count, field_questions, is_popup, is_popups}
use Rattle.parts.proofs.Laws.{field_iff, popups_iff}
use Rattle.rows.specs.Rows.{without}
use Rattle.changing.specs.Changing.{added, taken_out, added_popup, taken_out_popup}
use Rattle.changing.proofs.Laws.{added_length, added_bytes, added_fields, added_good, added_taken, taken_length, taken_good, taken_bytes, added_popup_length, added_popup_below, added_popup_last, added_popup_taken, added_popup_bytes, taken_popup_length, taken_popup_below, taken_popup_above, taken_popup_bytes}
use Rattle.sheet.specs.Questions.{sheet_count, check, question10, indexed_questions}
use Rattle.sheet.proofs.Laws.{indexed_numbered, indexed_iff, accepted_iff}
use Rattle.jobs.specs.declared.Answer.{Answer}
use Rattle.jobs.specs.Jobs.{wrote, carried, kept_parts, new_counts, new_parts, scheduled_from, scheduled, scheduled_size, has_room, scheduling_questions, scheduling_job, ScheduledHere, is_new_popup, add_checks, add_job, take_out_checks, take_out_job}
use Rattle.jobs.specs.Answers.{Gives, Lent}
use Rattle.jobs.specs.Steps.{PopupsLent}
use Rattle.jobs.specs.Demand3.{Meets}
use Rattle.jobs.specs.Changed.{MeetsAdding}
use Rattle.jobs.proofs.Theorems.{Pass, good, marks_bytes, scheduled_length, part1_kept, others_kept, counts_kept, from_here, from_parts, from_counted, here_accepted, scheduling_meets}
use Rattle.jobs.proofs.Laws.Outcomes.{outcome_yes, all_yes, kept_bytes}
use Rattle.jobs.proofs.Laws.Kept.{carried_from, carried_is, carried_right, carried_popups, carried_beside, beside_found, popups_lent}
use Rattle.jobs.proofs.Lemmas.Scheduled.{marks_long}
use Rattle.jobs.proofs.Laws.Scheduling.{there_room, room_asked, checks_passed, passed}

-- ---- adding

pub add_numbered : (s : List ℕ) (mark : Mark) (k : ℕ) → Numbered (add_checks s mark k)
unfolding add_checks
add_numbered s mark k =
    numbered_append (indexed_questions s) _ (indexed_numbered s) (omega arith, (omega arith, (omega arith, (omega arith, tt))))

-- what the answer 0 says before 13 is asked
pub record Addable (s : List ℕ) (mark : Mark) (k : ℕ) : Type 0 where
  pub accepted : check s ≡ 0
  pub few : sheet_count s < 4096
  pub kind : mark.kind < 200
  pub radius : mark.radius ≤ 16383
  pub popup : k ≤ 65536
  pub alone : has (split s) 5 ≡ false → k ≡ 0

-- what the answer yes to 21 says of a new mark's k
new_popup : (there : Bool) (k : ℕ) → is_new_popup there k ≡ true → (k ≤ 65536) × (there ≡ false → k ≡ 0)
unfolding is_popup
new_popup there k e =
    let p = (both_iff (is_popup k) (there || eqb k 0)).0 e in
    (leb-true k 65536 p.0, λ f. eqb-true k 0 (rw f at p.1))

module _ (s : List ℕ) (mark : Mark) (k : ℕ) where
  pub add_yes : answer (add_checks s mark k) ≡ 0 → Addable s mark k
  unfolding add_checks
  add_yes e =
      let a = (append_iff (indexed_questions s) _ (indexed_numbered s)).0 e in
      let b = (asked_iff 18 (ltb (sheet_count s) 4096) _ (omega arith)).0 a.1 in
      let c = (append_iff (field_questions mark.kind mark.radius) _ (omega arith, (omega arith, tt))).0 b.1 in
      let d = (field_iff mark.kind mark.radius).0 c.0 in
      let p = new_popup (has (split s) 5) k ((asked_iff 21 (is_new_popup (has (split s) 5) k) [] (omega arith)).0 c.1).0 in
      record { accepted = ((indexed_iff s).0 a.0).0; few = ltb-true _ _ b.0; kind = d.0; radius = d.1; popup = p.0; alone = p.1 }

  abbrev marks : List ℕ
  marks = marks_part (split s)

  abbrev popups : List ℕ
  popups = popups_part (split s)

  -- what is kept beside the new marks
  abbrev more : List Part
  more = carried (split s) (λ q. added_popup q k)

  module _ (bytes : Bytes s) (fit : FieldsFit mark) (asked : answer (add_checks s mark k) ≡ 0) where
    may : Addable s mark k
    may = add_yes asked

    long : length marks ≡ 11 * sheet_count s
    long = marks_long s bytes may.accepted

    count : mark_count (added marks mark) ≡ suc (sheet_count s)
    count = omega (arith, added_length marks (sheet_count s) long mark)

    -- part 5, where it is there
    module _ (there : has (split s) 5 ≡ true) where
      right : (length popups ≡ popup_size * sheet_count s) × ((m : ℕ) → m < sheet_count s → popup_at popups m ≤ 65536)
      right = (popups_iff popups (sheet_count s)).0 (((accepted_iff s).0 may.accepted).fitting.popups_right there)

      each : (m : ℕ) → m < suc (sheet_count s) → popup_at (added_popup popups k) m ≤ 65536
      each m h =
          elim (dec_lt m (sheet_count s)) [
            | yes l ↦ rw (added_popup_below popups (sheet_count s) right.0 k m l) (right.1 m l)
            | no l ↦
                (let last : m ≡ sheet_count s = omega arith in
                rw (last, added_popup_last popups (sheet_count s) right.0 k (omega (arith, may.popup))) may.popup)
          ]

      pub added_popups : is_popups (added_popup popups k) (suc (sheet_count s)) ≡ true
      added_popups = (popups_iff (added_popup popups k) (suc (sheet_count s))).1 (added_popup_length popups (sheet_count s) right.0 k, each)

    pub add_pass : Pass (added marks mark) more
    add_pass =
        record {
          good = rw count (added_good marks (sheet_count s) long mark fit (good s bytes may.accepted) may.few may.kind may.radius);
          long = rw count (added_length marks (sheet_count s) long mark);
          bytes = added_bytes marks (sheet_count s) long mark (marks_bytes s bytes may.accepted);
          right = rw count
              (carried_right s may.accepted bytes (suc (sheet_count s)) (λ q. added_popup q k) added_popups
              (added_popup_bytes popups k (find_bytes s bytes 5)));
        }

    -- as the code lends them: the sheet's marks, and the new one,
    pub add_lent : {l t : List ℕ} → l ≡ marks → t ≡ mark_bytes mark → GoodMarks (l ++ t) (mark_count l + 1) × (length (l ++ t) ≡ 11 * (mark_count l + 1))
    unfolding added
    add_lent e f =
        let one_more : mark_count (marks ++ mark_bytes mark) ≡ sheet_count s + 1 = count ∙ sym (add-one (sheet_count s)) in
        rw (e, f) (rw one_more at add_pass.good, rw one_more at add_pass.long)

    -- and its popups, and the new one's, or none
    pub add_popups_lent : PopupsLent (has (split s) 5) (popups ++ cond (has (split s) 5) (le_bytes popup_size k) []) (sheet_count s + 1)
    unfolding added_popup
    add_popups_lent =
        popups_lent (has (split s) 5) (popups ++ cond (has (split s) 5) (le_bytes 4 k) []) (sheet_count s + 1)
        (λ there. rw (there, add-one (sheet_count s)) (added_popups there)) (λ none. rw (none, find_none (split s) 5 none))

    -- "adding names the new mark's k"
    pub new_popup_is : popup_at (popups_part more) (sheet_count s) ≡ k
    new_popup_is =
        rw (carried_popups (split s) (λ q. added_popup q k))
        (by_cases (has (split s) 5)
        (λ there. rw there (added_popup_last popups (sheet_count s) (right there).0 k (omega (arith, may.popup))))
        (λ none. rw none (popup_none (sheet_count s) ∙ sym (may.alone none))))

-- ---- taking out

pub take_out_numbered : (s : List ℕ) (m : ℕ) → Numbered (take_out_checks s m)
unfolding take_out_checks
take_out_numbered s m = numbered_append (indexed_questions s) _ (indexed_numbered s) (omega arith, tt)

module _ (s : List ℕ) (m : ℕ) where
  pub take_out_iff : (answer (take_out_checks s m) ≡ 0) ↔ (((check s ≡ 0) × (question10 (split s) ≡ true)) × (m < sheet_count s))
  unfolding take_out_checks
  take_out_iff = (
    (λ e.
        let a = (append_iff (indexed_questions s) _ (indexed_numbered s)).0 e in
        let b = (asked_iff 17 (ltb m (sheet_count s)) _ (omega arith)).0 a.1 in
        ((indexed_iff s).0 a.0, ltb-true _ _ b.0)),
    (λ p.
        (append_iff (indexed_questions s) _ (indexed_numbered s)).1
        ((indexed_iff s).1 p.0, (asked_iff 17 (ltb m (sheet_count s)) _ (omega arith)).1 (lt-ltb _ _ p.1, none_asked))),
  )

  -- what is kept beside the marks that are left
  abbrev left_kept : List Part
  left_kept = carried (split s) (λ q. taken_out_popup q m)

  module _ (bytes : Bytes s) (asked : answer (take_out_checks s m) ≡ 0) where
    ok : check s ≡ 0
    ok = (take_out_iff.0 asked).0.0

    low : m < sheet_count s
    low = (take_out_iff.0 asked).1

    left_long : length (taken_out (marks_part (split s)) m) ≡ 11 * (sheet_count s - 1)
    left_long = taken_length (marks_part (split s)) (sheet_count s) (marks_long s bytes ok) m low

    left_count : mark_count (taken_out (marks_part (split s)) m) ≡ sheet_count s - 1
    left_count = omega (arith, left_long)

    -- part 5, where it is there
    module _ (there : has (split s) 5 ≡ true) where
      held_popups : (length (popups_part (split s)) ≡ popup_size * sheet_count s) × ((i : ℕ) → i < sheet_count s → popup_at (popups_part (split s)) i ≤ 65536)
      held_popups = (popups_iff (popups_part (split s)) (sheet_count s)).0 (((accepted_iff s).0 ok).fitting.popups_right there)

      left_each : (i : ℕ) → i < sheet_count s - 1 → popup_at (taken_out_popup (popups_part (split s)) m) i ≤ 65536
      left_each i h =
          elim (dec_lt i m) [
            | yes l ↦ rw (taken_popup_below (popups_part (split s)) (sheet_count s) held_popups.0 m low i l) (held_popups.1 i (omega arith))
            | no l ↦
                rw (taken_popup_above (popups_part (split s)) (sheet_count s) held_popups.0 m low i (omega arith))
                (held_popups.1 (suc i) (omega arith))
          ]

      pub left_popups : is_popups (taken_out_popup (popups_part (split s)) m) (sheet_count s - 1) ≡ true
      left_popups =
          (popups_iff (taken_out_popup (popups_part (split s)) m) (sheet_count s - 1)).1
          (taken_popup_length (popups_part (split s)) (sheet_count s) held_popups.0 m low, left_each)

    pub take_out_pass : Pass (taken_out (marks_part (split s)) m) left_kept
    take_out_pass =
        record {
          good = rw left_count (taken_good (marks_part (split s)) (sheet_count s) (marks_long s bytes ok) m low (good s bytes ok));
          long = rw left_count left_long;
          bytes = taken_bytes (marks_part (split s)) m (marks_bytes s bytes ok);
          right = rw left_count
              (carried_right s ok bytes (sheet_count s - 1) (λ q. taken_out_popup q m) left_popups
              (taken_popup_bytes (popups_part (split s)) m (find_bytes s bytes 5)));
        }

    -- as the code lends them
    pub take_out_lent : {l : List ℕ} → l ≡ taken_out (marks_part (split s)) m → GoodMarks l (sheet_count s - 1) × (length l ≡ 11 * (sheet_count s - 1))
    take_out_lent e = rw e (rw left_count at take_out_pass.good, rw left_count at take_out_pass.long)

    pub take_out_popups_lent : PopupsLent (has (split s) 5) (taken_out_popup (popups_part (split s)) m) (sheet_count s - 1)
    unfolding taken_out_popup without
    take_out_popups_lent =
        popups_lent (has (split s) 5) (taken_out_popup (popups_part (split s)) m) (sheet_count s - 1) left_popups
        (λ none. rw (find_none (split s) 5 none, take-nil {A = ℕ} (4 * m), drop-nil {A = ℕ} (4 * m + 4)))

-- ---- "From a sheet scheduled here, adding a mark and taking that one out returns the old bytes."

module _ (s : List ℕ) (mark : Mark) (k : ℕ) (bytes : Bytes s) (fit : FieldsFit mark) (asked : answer (add_checks s mark k) ≡ 0) where
  abbrev n : ℕ
  n = sheet_count s

  abbrev held : List ℕ
  held = marks_part (split s)

  abbrev others : List Part
  others = kept_parts (split s)

  -- are there counts?
  abbrev counted : Bool
  counted = has (split s) 6

  abbrev new : List ℕ
  new = scheduled_from (added held mark) (more s mark k) counted

  held_long : length held ≡ 11 * n
  held_long = marks_long s bytes (add_yes s mark k asked).accepted

  pass : Pass (added held mark) (more s mark k)
  pass = add_pass s mark k bytes fit asked

  new_parts_lem : split new ≡ new_parts (added held mark) (more s mark k) counted
  new_parts_lem = from_parts (added held mark) (more s mark k) counted pass

  new_counted : has (split new) 6 ≡ counted
  new_counted = from_counted (added held mark) (more s mark k) counted pass

  new_marks : marks_part (split new) ≡ added held mark
  new_marks = ap marks_part new_parts_lem

  new_others : carried (split new) (λ q. taken_out_popup q n) ≡ others
  new_others =
      let e = edition_part (split s) in
      let p = popups_part (split s) in
      let ok = (add_yes s mark k asked).accepted in
      ap (λ (l : List Part). carried l (λ q. taken_out_popup q n)) new_parts_lem
      ∙ carried_beside (more s mark k) counted (new_counts (added held mark) (more s mark k)) (λ q. taken_out_popup q n)
      ∙ ap (λ (l : List Part). carried l (λ q. taken_out_popup q n)) (carried_is s ok (λ q. added_popup q k))
      ∙ carried_from e (has (split s) 5) (added_popup p k) (shape_part (split s)) (λ q. taken_out_popup q n)
      ∙ by_cases (has (split s) 5)
      (λ there. rw (added_popup_taken p n (right s mark k bytes fit asked there).0 k) (sym (carried_is s ok (λ q. q))))
      (λ none. rw none (sym (rw none at (carried_is s ok (λ q. q)))))

  -- the new mark can be taken out of the new sheet,
  new_checks : answer (take_out_checks new n) ≡ 0
  unfolding question10
  new_checks =
      let one_more : sheet_count new ≡ suc n = rw new_marks (omega (arith, added_length held n held_long mark)) in
      (take_out_iff new n).1 ((here_accepted new (from_here (added held mark) (more s mark k) counted pass), rw new_parts_lem), omega arith)

  -- and the others are left.
  new_left : taken_out (marks_part (split new)) n ≡ held
  new_left = rw new_marks (added_taken held n held_long mark)

  module _ (here : ScheduledHere s) where
    open here use {given_sheet as g, bytes as g-bytes, accepted as g-ok, written}

    held_scheduled : scheduled_from held others counted ≡ s
    unfolding scheduled
    held_scheduled = rw (part1_kept s here, others_kept s here, counts_kept s here) (sym written)

    s_long : length s ≡ scheduled_size n others counted
    s_long =
        ap length written ∙ scheduled_length g g-bytes g-ok
        ∙ rw (part1_kept s here, others_kept s here, counts_kept s here)

    pub add_then_take_out : (work room : ℕ) → 32 * n + 1024 ≤ work → length s ≤ room → take_out_job new n work room ≡ wrote s
    unfolding scheduling_job
    add_then_take_out work room p q =
        let fits : has_room n others counted work room ≡ true = there_room n others counted work room p (omega (arith, s_long)) in
        let last : answer (scheduling_questions [] held others counted work room) ≡ 0 = room_asked [] tt held others counted work room none_asked ∙ rw fits in
        passed (take_out_checks new n) (take_out_numbered new n) (taken_out (marks_part (split new)) n) (carried (split new) (λ r. taken_out_popup r n)) (has (split new) 6) work room new_checks
        ∙ rw (new_left, new_others, new_counted)
        (outcome_yes (scheduling_questions [] held others counted work room) (length (scheduled_from held others counted)) (scheduled_from held others counted) last ∙ rw held_scheduled)

-- ---- and so of what the calls answer and leave

module _ (s : List ℕ) (mark : Mark) (k : ℕ) (bytes : Bytes s) (fit : FieldsFit mark) (work : ℕ) (before : List ℕ) {r : Answer} {out : List ℕ}
    (gives : Gives (add_job s mark k work (length before)) before r out) where
  pub add_meets : Meets (added (marks_part (split s)) mark) (more s mark k) (has (split s) 6) r out
  add_meets =
      scheduling_meets (add_checks s mark k) (add_numbered s mark k) (added (marks_part (split s)) mark) (more s mark k) (has (split s) 6) (add_pass s mark k bytes fit) work before gives

  passed_checks : r.number ≡ 0 → answer (add_checks s mark k) ≡ 0
  unfolding scheduling_job
  passed_checks z =
      checks_passed (add_checks s mark k) (add_numbered s mark k) (added (marks_part (split s)) mark) (more s mark k) (has (split s) 6) work (length before)
      (all_yes (scheduling_questions (add_checks s mark k) (added (marks_part (split s)) mark) (more s mark k) (has (split s) 6) work (length before)) _ _ before gives z)

  written_is : r.number ≡ 0 → take r.value out ≡ scheduled_from (added (marks_part (split s)) mark) (more s mark k) (has (split s) 6)
  unfolding scheduling_job
  written_is z =
      kept_bytes (scheduling_questions (add_checks s mark k) (added (marks_part (split s)) mark) (more s mark k) (has (split s) 6) work (length before))
      (scheduled_from (added (marks_part (split s)) mark) (more s mark k) (has (split s) 6)) before gives z

  pub adding_meets : MeetsAdding s mark k r out
  adding_meets =
      record {
        last = λ z.
            (let asked = passed_checks z in
            rw (add_meets.part1 z) (added_fields (marks_part (split s)) (sheet_count s) (held_long s mark k bytes fit asked) mark fit));
        popup = λ z.
            (let asked = passed_checks z in
            rw (written_is z, new_parts_lem s mark k bytes fit asked, beside_found (more s mark k) (has (split s) 6) (new_counts (added (marks_part (split s)) mark) (more s mark k)) 5 refl)
            (new_popup_is s mark k bytes fit asked));
        back = λ z here work' room p q. rw (written_is z) (add_then_take_out s mark k bytes fit (passed_checks z) here work' room p q);
      }

  -- what a way out gives, with all that is claimed of it
  pub add_whole : {w w' : List ℕ} → Lent r w w'
      → Gives (add_job s mark k work (length before)) before r out × ((Lent r w w' × Meets (added (marks_part (split s)) mark) (more s mark k) (has (split s) 6) r out) × MeetsAdding s mark k r out)
  add_whole lent = (gives, ((lent, add_meets), adding_meets))

pub take_out_meets : (s : List ℕ) (m : ℕ) → Bytes s → (work : ℕ) (before : List ℕ) {r : Answer} {out : List ℕ}
    → Gives (take_out_job s m work (length before)) before r out → Meets (taken_out (marks_part (split s)) m) (left_kept s m) (has (split s) 6) r out
take_out_meets s m bytes =
    scheduling_meets (take_out_checks s m) (take_out_numbered s m) (taken_out (marks_part (split s)) m) (left_kept s m) (has (split s) 6) (take_out_pass s m bytes)
