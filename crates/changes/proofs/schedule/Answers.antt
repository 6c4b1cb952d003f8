-- `changes::schedule`: a sheet that is refused, or else what scheduling its marks gives. Assumes nothing.
use Rattle.std.specs.Prelude.{length}
use Rattle.std.proofs.Common.{refl, ◌∙◌}
use Rattle.std.proofs.lemmas.Result.{err_from_is_err_and}
use Rattle.contents.specs.Contents.{has, split, marks_part}
use Rattle.contents.proofs.Laws.{find_none, numbered_from_one}
use Rattle.sheet.specs.Questions.{check_questions, check}
use Rattle.sheet.proofs.Laws.{check_numbered, accepted_iff, found_number}
use Rattle.jobs.specs.Jobs.{kept_parts}
use Rattle.jobs.proofs.Theorems.{schedule_meets}
use Rattle.jobs.proofs.Laws.Kept.{popups_lent}
use Rattle.jobs.proofs.Laws.Scheduling.{stopped, once_passed}
use Rattle.changes.proofs.Opened.{opened_laid}
use Rattle.changes.proofs.Requests.{asked_kept, asked_taken}
use Rattle.changes.proofs.schedule.Goals as goal

pub returns-in_err-opened-clause-gives : goal.returns-in_err-opened-clause-gives
unfolding check
returns-in_err-opened-clause-gives c =
    let s = c.args.sheet.now in
    let told = err_from_is_err_and c.from_residual.result c.from_residual.ensures.1 in
    rw (told.1, told.2)
    (stopped (check_questions s) (check_numbered s) (marks_part (split s)) (kept_parts (split s)) (has (split s) 6) (length c.args.work.now) c.args.out.now
    (found_number s c.in_err-opened.ensures) (numbered_from_one c.in_err-opened.field-0.0) refl)

pub invariant_of-source_of : goal.invariant_of-source_of
invariant_of-source_of c =
    let p = opened_laid c.args.sheet.now c.in_ok-opened.ensures in
    record { passed = p.0; laid = p.1 }

pub invariant_of-request : goal.invariant_of-request
invariant_of-request c =
    let s = c.args.sheet.now in
    let p = c.source_of-source.ensures in
    let ok = (opened_laid s c.in_ok-opened.ensures).0 in
    let fit = ((accepted_iff s).0 ok).fitting in
    record {
      taken =
          rw (c.whole.ensures, p.marks)
          (asked_taken s ok (λ q. q) c.source_of-source.result.popups c.map.result _ p.edition p.shape p.popups_there p.popups c.map.ensures.variant c.map.ensures.cases
          (λ q r is post. post ∙ is) fit.marks fit.marks_long
          (popups_lent (has (split s) 5) _ _ fit.popups_right (find_none (split s) 5)) (λ h. refl));
    }

pub returns : goal.returns
unfolding check
returns c =
    let s = c.args.sheet.now in
    let p = c.source_of-source.ensures in
    let ok = (opened_laid s c.in_ok-opened.ensures).0 in
    let kept =
    asked_kept s ok (λ q. q) c.source_of-source.result.popups c.map.result _ p.edition p.shape p.popups_there p.popups c.map.ensures.variant c.map.ensures.cases
    (λ q r is post. post ∙ is) in
    let gives =
    once_passed (check_questions s) (check_numbered s) ok (length c.args.work.now) (c.whole.ensures ∙ p.marks) kept p.counted c.schedule_marks.ensures.gives in
    record { gives = gives; lent = (c.schedule_marks.ensures.lent, schedule_meets s (length c.args.work.now) c.args.out.now (λ i. (c.type_inv.sheet i).fits) gives) }
