-- `conversions::marks_to_log`: each way out by the question that ended it, and else the log as it was written. Assumes nothing.
use Prim.Native.Nat.{◌*◌}
use mathlib.Core.Path.{◌≡◌, refl, sym}
use native.Mathlib.Omega.{arith}
use Rattle.std.proofs.Common.{rules}
use Rattle.std.proofs.lemmas.Result.{err_from_is_err_and}
use Rattle.contents.specs.Asking.{answer}
use Rattle.contents.proofs.Laws.{numbered_from_one}
use Rattle.parts.specs.Questions.{mark_count, part1_questions}
use Rattle.parts.proofs.Laws.{part1_numbered, part1_iff}
use Rattle.logs.specs.Log.{log_of_marks}
use Rattle.logs.specs.Questions.{marks_questions}
use Rattle.logs.proofs.Theorems.{log_length}
use Rattle.jobs.specs.Jobs.{marks_to_log_job}
use Rattle.jobs.proofs.Laws.Rooms.{stopped}
use Rattle.jobs.proofs.Laws.Logs.{marks_whole}
use Rattle.conversions.proofs.Lemmas.{rest_gives}
use Rattle.conversions.proofs.marks_to_log.Goals as goal
use Rattle.conversions.proofs.marks_to_log.Goals.{In_ok-check_marks}

-- 4 to 6 were passed
accepted : (c : In_ok-check_marks) → answer (part1_questions c.args.marks.now) ≡ 0
accepted c = sym c.in_ok-check_marks.ensures

pub returns-in_err-check_marks : goal.returns-in_err-check_marks
unfolding marks_to_log_job marks_questions
returns-in_err-check_marks c =
    let s = c.args.marks.now in
    let out = err_from_is_err_and c.from_residual.result c.from_residual.ensures.1 in
    let w =
    marks_whole {s = s} {before = c.args.out.now} (λ i. (c.type_inv.marks i).fits)
    (stopped (part1_questions s) (part1_numbered s) (13 * mark_count s) (log_of_marks s) _ c.in_err-check_marks.ensures
    (numbered_from_one _) refl) in
    rw (out.1, out.2) (record { gives = w.0; meets_marks = w.1 })

pub written-requires-clause-small : goal.written-requires-clause-small
written-requires-clause-small c = omega (arith, ((part1_iff _).0 (accepted (goal.at.written-requires-clause-small c).In_ok-check_marks)).0.few)

pub returns : goal.returns
unfolding marks_to_log_job marks_questions log_of_marks
returns c =
    let s = c.args.marks.now in
    let ok = accepted (goal.at.returns c).In_ok-check_marks in
    let w =
    marks_whole {s = s} {before = c.args.out.now} (λ i. (c.type_inv.marks i).fits)
    (rest_gives (part1_questions s) (part1_numbered s) (13 * mark_count s) (log_of_marks s) _ ok (sym (log_length s ok)) (λ k. search rules)
    c.written.result c.written.ensures) in
    record { gives = w.0; meets_marks = w.1 }
