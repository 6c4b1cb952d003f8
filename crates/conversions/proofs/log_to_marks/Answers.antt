-- `conversions::log_to_marks`: each way out by the question that ended it, and else the marks as they were written. Assumes nothing.
use Prim.Native.Nat.{◌*◌}
use mathlib.Core.Path.{◌≡◌, refl, sym}
use native.Mathlib.Omega.{arith}
use Rattle.std.proofs.Common.{rules}
use Rattle.std.proofs.lemmas.Result.{err_from_is_err_and}
use Rattle.contents.specs.Asking.{answer}
use Rattle.contents.proofs.Laws.{numbered_from_one}
use Rattle.logs.specs.Log.{record_count, marks_of_log}
use Rattle.logs.specs.Questions.{log_checks, log_questions}
use Rattle.logs.proofs.Theorems.{log_numbered, log_right, marks_length}
use Rattle.jobs.specs.Jobs.{log_to_marks_job}
use Rattle.jobs.proofs.Laws.Rooms.{stopped}
use Rattle.jobs.proofs.Laws.Logs.{log_whole}
use Rattle.conversions.proofs.Lemmas.{rest_gives}
use Rattle.conversions.proofs.log_to_marks.Goals as goal
use Rattle.conversions.proofs.log_to_marks.Goals.{In_ok-check_log}

-- all questions but 13 were passed
accepted : (c : In_ok-check_log) → answer (log_checks c.args.log.now) ≡ 0
accepted c = sym c.in_ok-check_log.ensures

pub returns-in_err-check_log : goal.returns-in_err-check_log
unfolding log_to_marks_job log_questions
returns-in_err-check_log c =
    let s = c.args.log.now in
    let out = err_from_is_err_and c.from_residual.result c.from_residual.ensures.1 in
    let w =
    log_whole {s = s} {before = c.args.out.now} (stopped (log_checks s) (log_numbered s) (11 * record_count s) (marks_of_log s) _ c.in_err-check_log.ensures
    (numbered_from_one _) refl) in
    rw (out.1, out.2) (record { gives = w.0; meets_log = w.1 })

pub written-requires-clause-small : goal.written-requires-clause-small
written-requires-clause-small c = omega (arith, (log_right _ (accepted (goal.at.written-requires-clause-small c).In_ok-check_log)).few)

pub written-requires-clause-taken : goal.written-requires-clause-taken
written-requires-clause-taken c = search (rules, log_right _ (accepted (goal.at.written-requires-clause-taken c).In_ok-check_log))

pub returns : goal.returns
unfolding log_to_marks_job log_questions marks_of_log
returns c =
    let s = c.args.log.now in
    let ok = accepted (goal.at.returns c).In_ok-check_log in
    let w =
    log_whole {s = s} {before = c.args.out.now} (rest_gives (log_checks s) (log_numbered s) (11 * record_count s) (marks_of_log s) _ ok (sym (marks_length s ok)) (λ k. search rules)
    c.written.result c.written.ensures) in
    record { gives = w.0; meets_log = w.1 }
