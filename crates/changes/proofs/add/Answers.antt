-- `changes::add`: each way out by the question that ended it, or else what scheduling the new marks gives. Assumes nothing.
use Rattle.std.specs.Prelude.{ℕ, true, cond, [], ◌++◌, ◌/◌, ◌<◌, ◌≤◌, ◌≡◌, List, length}
use Rattle.std.proofs.Common.{refl, sym, ap, ap₂, ◌∙◌, arith, rules}
use Rattle.std.proofs.lemmas.Result.{err_from_is_err_and}
use mir.Facts.{to_z-of_z}
use mir.Syntax.{w16}
use mir.Val.{to_z, of_z}
use Rattle.numbers.specs.Little.{le_bytes, Bytes}
use Rattle.marks.specs.declared.Mark.{Mark}
use Rattle.marks.specs.Marks.{mark_bytes}
use Rattle.marks.specs.Fields.{FieldsFit}
use Rattle.changing.specs.Changing.{added, added_popup}
use Rattle.contents.specs.Contents.{has, split, marks_part, popups_part}
use Rattle.contents.specs.Asking.{answer}
use Rattle.contents.proofs.Laws.{numbered_from_one}
use Rattle.sheet.specs.Questions.{sheet_count}
use Rattle.sheet.proofs.Laws.{indexed_number}
use Rattle.jobs.specs.Jobs.{carried, is_new_popup, add_checks, add_job}
use Rattle.jobs.specs.Answers.{fields, refusal, Gives}
use Rattle.jobs.proofs.Coming.{add_numbered, add_lent, add_popups_lent, add_whole}
use Rattle.jobs.proofs.Laws.Scheduling.{stopped, once_passed}
use Rattle.jobs.proofs.Laws.Changing.{add_refused, add_full, add_fields, add_popup, popup_no, popup_yes}
use Rattle.writing.specs.Pieces.{joined}
use Rattle.changes.proofs.Opened.{indexed_passed, indexed_laid}
use Rattle.changes.proofs.Requests.{asked_kept, asked_taken}
use Rattle.changes.proofs.add.Goals as goal
use Rattle.changes.proofs.add.Goals.{Start, After-is_new_popup, Else-n-ge-MOST_MARKS, Else-not-is_new_popup}

abbrev mark : Start → Mark
mark b = fields b.args.x b.args.y b.args.radius b.args.priority b.args.kind b.args.tag

fit : (b : Start) → FieldsFit (mark b)
fit b =
    record {
      x_fits = b.ranges.x.sfits;
      y_fits = b.ranges.y.sfits;
      radius_fits = b.ranges.radius.fits;
      priority_fits = b.ranges.priority.fits;
      kind_fits = b.ranges.kind.fits;
      tag_fits = b.ranges.tag.fits;
    }

-- a 'no' ends the call
ends : (b : Start) {number : ℕ} → number ≡ answer (add_checks b.args.sheet.now (mark b) b.args.popup) → 0 < number
    → Gives (add_job b.args.sheet.now (mark b) b.args.popup (length b.args.work.now) (length b.args.out.now)) b.args.out.now (refusal number) b.args.out.now
ends b e some =
    let s = b.args.sheet.now in
    let k = b.args.popup in
    stopped (add_checks s (mark b) k) (add_numbered s (mark b) k) (added (marks_part (split s)) (mark b)) (carried (split s) (λ q. added_popup q k)) (has (split s) 6)
    (length b.args.work.now) b.args.out.now e some refl

count : (s : List ℕ) {marks : List ℕ} → marks ≡ marks_part (split s) → length marks / 11 ≡ sheet_count s
count s e = ap (λ (l : List ℕ). length l / 11) e

-- 18 was answered with yes
few : (c : Else-n-ge-MOST_MARKS) → sheet_count c.args.sheet.now < 4096
few c = omega (arith, count c.args.sheet.now c.source_of-source.ensures.marks, c.if-n-ge-MOST_MARKS.false)

-- the bytes of the new mark, as they were told
last_is : (b : Start) {bytes : List ℕ}
    → bytes ≡ mark_bytes (fields (to_z w16 (of_z w16 b.args.x)) (to_z w16 (of_z w16 b.args.y)) b.args.radius b.args.priority b.args.kind b.args.tag)
    → bytes ≡ mark_bytes (mark b)
last_is b e =
    e
    ∙ ap₂ (λ u v. mark_bytes (fields u v b.args.radius b.args.priority b.args.kind b.args.tag)) (to_z-of_z {w = w16} b.ranges.x) (to_z-of_z {w = w16} b.ranges.y)

pub returns-in_err-indexed-clause-gives : goal.returns-in_err-indexed-clause-gives
returns-in_err-indexed-clause-gives c =
    let b = (goal.at.returns-in_err-indexed-clause-gives c).Start in
    let told = err_from_is_err_and c.from_residual.result c.from_residual.ensures.1 in
    let some = numbered_from_one c.in_err-indexed.field-0.0 in
    rw (told.1, told.2) (ends b (add_refused c.args.sheet.now (mark b) c.args.popup (indexed_number _ c.in_err-indexed.ensures) some) some)

pub invariant_of-source_of : goal.invariant_of-source_of
invariant_of-source_of c =
    let p = indexed_laid c.args.sheet.now c.in_ok-indexed.ensures in
    record { passed = p.0; laid = p.1 }

pub returns-then-n-ge-MOST_MARKS-clause-gives : goal.returns-then-n-ge-MOST_MARKS-clause-gives
returns-then-n-ge-MOST_MARKS-clause-gives c =
    let b = (goal.at.returns-then-n-ge-MOST_MARKS-clause-gives c).Start in
    let s = c.args.sheet.now in
    let full : 4096 ≤ sheet_count s = omega (arith, count s c.source_of-source.ensures.marks, c.if-n-ge-MOST_MARKS.true) in
    ends b (add_full s (mark b) c.args.popup (indexed_passed s c.in_ok-indexed.ensures) full) (omega arith)

pub returns-in_err-check_fields-clause-gives : goal.returns-in_err-check_fields-clause-gives
returns-in_err-check_fields-clause-gives c =
    let b = (goal.at.returns-in_err-check_fields-clause-gives c).Start in
    let s = c.args.sheet.now in
    let told = err_from_is_err_and c.from_residual-in_err-check_fields.result c.from_residual-in_err-check_fields.ensures.1 in
    let some = numbered_from_one c.in_err-check_fields.field-0.0 in
    rw (told.1, told.2)
    (ends b (add_fields s (mark b) c.args.popup (indexed_passed s c.in_ok-indexed.ensures) (few (goal.at.returns-in_err-check_fields-clause-gives c).Else-n-ge-MOST_MARKS)
    c.in_err-check_fields.ensures some) some)

-- 21, of the new mark
asked : (c : After-is_new_popup) → c.is_new_popup.result ≡ is_new_popup (has (split c.args.sheet.now) 5) c.args.popup
asked c = rw (c.is_some.ensures, c.source_of-source.ensures.popups_there) at c.is_new_popup.ensures

pub returns-then-not-is_new_popup-clause-gives : goal.returns-then-not-is_new_popup-clause-gives
returns-then-not-is_new_popup-clause-gives c =
    let b = (goal.at.returns-then-not-is_new_popup-clause-gives c).Start in
    let s = c.args.sheet.now in
    let k = c.args.popup in
    ends b (add_popup s (mark b) k (indexed_passed s c.in_ok-indexed.ensures) (few (goal.at.returns-then-not-is_new_popup-clause-gives c).Else-n-ge-MOST_MARKS)
    (sym c.in_ok-check_fields.ensures) (popup_no s k (sym (asked (goal.at.returns-then-not-is_new_popup-clause-gives c).After-is_new_popup) ∙ c.if-not-is_new_popup.true))) (omega arith)

-- and all were answered with yes
all : (c : Else-not-is_new_popup) → answer (add_checks c.args.sheet.now (fields c.args.x c.args.y c.args.radius c.args.priority c.args.kind c.args.tag) c.args.popup) ≡ 0
all c =
    let s = c.args.sheet.now in
    let asked = rw (c.is_some.ensures, c.source_of-source.ensures.popups_there) at c.is_new_popup.ensures in
    let low : sheet_count s < 4096 = omega (arith, count s c.source_of-source.ensures.marks, c.if-n-ge-MOST_MARKS.false) in
    sym (add_popup s (fields c.args.x c.args.y c.args.radius c.args.priority c.args.kind c.args.tag) c.args.popup (indexed_passed s c.in_ok-indexed.ensures) low
    (sym c.in_ok-check_fields.ensures) (popup_yes s c.args.popup (sym asked ∙ c.if-not-is_new_popup.false)))

-- the popups and the new one
more : (s : List ℕ) (k : ℕ) {q row r : List ℕ} → q ≡ popups_part (split s) → row ≡ le_bytes 4 k → r ≡ q ++ row → r ≡ added_popup (popups_part (split s)) k
unfolding added_popup
more s k is told e = rw (is, told) at e

more_there : (s : List ℕ) (k : ℕ) → has (split s) 5 ≡ true → added_popup (popups_part (split s)) k ≡ popups_part (split s) ++ cond (has (split s) 5) (le_bytes 4 k) []
unfolding added_popup
more_there s k there = rw there

pub invariant_of-request : goal.invariant_of-request
invariant_of-request c =
    let b = (goal.at.invariant_of-request c).Start in
    let s = c.args.sheet.now in
    let k = c.args.popup in
    let p = c.source_of-source.ensures in
    let bytes : Bytes s = λ i. (c.type_inv.sheet i).fits in
    let ok = all (goal.at.invariant_of-request c).Else-not-is_new_popup in
    let lent = add_lent s (mark b) k bytes (fit b) ok p.marks (last_is b c.mark_bytes-last.ensures) in
    record {
      taken =
          asked_taken s (indexed_laid s c.in_ok-indexed.ensures).0 (λ q. added_popup q k) c.source_of-source.result.popups c.map.result _ p.edition p.shape p.popups_there p.popups c.map.ensures.variant c.map.ensures.cases
          (λ q r is post. let both : joined r ≡ q.now ++ c.popup_bytes-row.result = search rules in more s k is c.popup_bytes-row.ensures both)
          lent.0 lent.1 (rw (count s p.marks) (add_popups_lent s (mark b) k bytes (fit b) ok)) (more_there s k);
    }

pub returns : goal.returns
unfolding added
returns c =
    let b = (goal.at.returns c).Start in
    let s = c.args.sheet.now in
    let k = c.args.popup in
    let p = c.source_of-source.ensures in
    let ok = all (goal.at.returns c).Else-not-is_new_popup in
    let kept =
    asked_kept s (indexed_laid s c.in_ok-indexed.ensures).0 (λ q. added_popup q k) c.source_of-source.result.popups c.map.result _ p.edition p.shape p.popups_there p.popups c.map.ensures.variant c.map.ensures.cases
    (λ q r is post. let both : joined r ≡ q.now ++ c.popup_bytes-row.result = search rules in more s k is c.popup_bytes-row.ensures both) in
    let w =
    add_whole s (mark b) k (λ i. (c.type_inv.sheet i).fits) (fit b) (length c.args.work.now) c.args.out.now
    (once_passed (add_checks s (mark b) k) (add_numbered s (mark b) k) ok _ (ap₂ ◌++◌ p.marks (last_is b c.mark_bytes-last.ensures)) kept p.counted c.schedule_marks.ensures.gives)
    c.schedule_marks.ensures.lent in
    record { gives = w.0; lent = w.1.0; meets_adding = w.1.1 }
