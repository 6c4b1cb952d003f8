-- `changes::take_out`: each way out by the question that ended it, or else what scheduling the marks that are left gives. Assumes nothing.
use Rattle.std.specs.Prelude.{ℕ, ◌/◌, ◌<◌, ◌≤◌, ◌≡◌, List, length}
use Rattle.std.proofs.Common.{refl, ap, ◌∙◌, arith, rules}
use Rattle.std.proofs.lemmas.Result.{err_from_is_err_and}
use Rattle.numbers.specs.Little.{Bytes}
use Rattle.changing.specs.Changing.{taken_out, taken_out_popup}
use Rattle.rows.specs.Rows.{without}
use Rattle.contents.specs.Contents.{has, split, marks_part, popups_part}
use Rattle.contents.specs.Asking.{answer}
use Rattle.contents.proofs.Laws.{numbered_from_one}
use Rattle.sheet.specs.Questions.{sheet_count}
use Rattle.sheet.proofs.Laws.{indexed_iff, indexed_number}
use Rattle.jobs.specs.Jobs.{carried, take_out_checks, take_out_job}
use Rattle.jobs.specs.Answers.{refusal, Gives}
use Rattle.jobs.proofs.Coming.{take_out_numbered, take_out_iff, take_out_lent, take_out_popups_lent, take_out_meets}
use Rattle.jobs.proofs.Laws.Scheduling.{stopped, once_passed}
use Rattle.jobs.proofs.Laws.Changing.{take_out_refused, take_out_none}
use Rattle.writing.specs.Pieces.{joined}
use Rattle.changes.proofs.Opened.{indexed_passed, indexed_laid}
use Rattle.changes.proofs.Requests.{asked_kept, asked_taken}
use Rattle.changes.proofs.take_out.Goals as goal
use Rattle.changes.proofs.take_out.Goals.{Start, After-without}

-- a 'no' ends the call
ends : (b : Start) {number : ℕ} → number ≡ answer (take_out_checks b.args.sheet.now b.args.m) → 0 < number
    → Gives (take_out_job b.args.sheet.now b.args.m (length b.args.work.now) (length b.args.out.now)) b.args.out.now (refusal number) b.args.out.now
ends b e some =
    let s = b.args.sheet.now in
    let m = b.args.m in
    stopped (take_out_checks s m) (take_out_numbered s m) (taken_out (marks_part (split s)) m) (carried (split s) (λ q. taken_out_popup q m)) (has (split s) 6)
    (length b.args.work.now) b.args.out.now e some refl

count : (s : List ℕ) {marks : List ℕ} → marks ≡ marks_part (split s) → length marks / 11 ≡ sheet_count s
count s e = ap (λ (l : List ℕ). length l / 11) e

-- 17 was answered with yes
passed : (c : After-without) → answer (take_out_checks c.args.sheet.now c.args.m) ≡ 0
passed c =
    let s = c.args.sheet.now in
    let low : c.args.m < sheet_count s = omega (arith, count s c.source_of-source.ensures.marks, c.if-n-gone.false) in
    (take_out_iff _ _).1 ((indexed_iff _).0 (indexed_passed s c.in_ok-indexed.ensures), low)

-- the marks that are left
left : (c : After-without) → joined c.without.result ≡ taken_out (marks_part (split c.args.sheet.now)) c.args.m
unfolding taken_out
left c = c.without.ensures ∙ ap (λ (l : List ℕ). without 11 l c.args.m) c.source_of-source.ensures.marks

-- and the popups
left_popups : (s : List ℕ) (m : ℕ) {q r : List ℕ} → q ≡ popups_part (split s) → r ≡ without 4 q m → r ≡ taken_out_popup (popups_part (split s)) m
unfolding taken_out_popup
left_popups s m is e = e ∙ ap (λ (l : List ℕ). without 4 l m) is

pub returns-in_err-indexed-clause-gives : goal.returns-in_err-indexed-clause-gives
returns-in_err-indexed-clause-gives c =
    let told = err_from_is_err_and c.from_residual.result c.from_residual.ensures.1 in
    let some = numbered_from_one c.in_err-indexed.field-0.0 in
    rw (told.1, told.2)
    (ends (goal.at.returns-in_err-indexed-clause-gives c).Start (take_out_refused c.args.sheet.now c.args.m (indexed_number _ c.in_err-indexed.ensures) some) some)

pub invariant_of-source_of : goal.invariant_of-source_of
invariant_of-source_of c =
    let p = indexed_laid c.args.sheet.now c.in_ok-indexed.ensures in
    record { passed = p.0; laid = p.1 }

pub returns-then-n-gone-clause-gives : goal.returns-then-n-gone-clause-gives
returns-then-n-gone-clause-gives c =
    let s = c.args.sheet.now in
    let none : sheet_count s ≤ c.args.m = omega (arith, count s c.source_of-source.ensures.marks, c.if-n-gone.true) in
    ends (goal.at.returns-then-n-gone-clause-gives c).Start (take_out_none s c.args.m (indexed_passed s c.in_ok-indexed.ensures) none) (omega arith)

pub invariant_of-request : goal.invariant_of-request
invariant_of-request c =
    let w = (goal.at.invariant_of-request c).After-without in
    let s = c.args.sheet.now in
    let m = c.args.m in
    let p = c.source_of-source.ensures in
    let bytes : Bytes s = λ i. (c.type_inv.sheet i).fits in
    let lent = take_out_lent s m bytes (passed w) (left w) in
    record {
      taken =
          rw (count s p.marks)
          (asked_taken s (indexed_laid s c.in_ok-indexed.ensures).0 (λ q. taken_out_popup q m) c.source_of-source.result.popups c.map.result _ p.edition p.shape p.popups_there p.popups c.map.ensures.variant c.map.ensures.cases
          (λ q r is post. let rest : joined r ≡ without 4 q.now m = search rules in left_popups s m is rest) lent.0 lent.1 (take_out_popups_lent s m bytes (passed w)) (λ h. refl));
    }

pub returns : goal.returns
returns c =
    let w = (goal.at.returns c).After-without in
    let s = c.args.sheet.now in
    let m = c.args.m in
    let p = c.source_of-source.ensures in
    let kept =
    asked_kept s (indexed_laid s c.in_ok-indexed.ensures).0 (λ q. taken_out_popup q m) c.source_of-source.result.popups c.map.result _ p.edition p.shape p.popups_there p.popups c.map.ensures.variant c.map.ensures.cases
    (λ q r is post. let rest : joined r ≡ without 4 q.now m = search rules in left_popups s m is rest) in
    let gives = once_passed (take_out_checks s m) (take_out_numbered s m) (passed w) (length c.args.work.now) (left w) kept p.counted c.schedule_marks.ensures.gives in
    record { gives = gives; lent = (c.schedule_marks.ensures.lent, take_out_meets s m (λ i. (c.type_inv.sheet i).fits) (length c.args.work.now) c.args.out.now gives) }
