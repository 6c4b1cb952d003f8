-- `conversions::fill`: each way out by the question that ended it, and else the marks as they were written. Assumes nothing.
use Prim.Native.Nat.{◌*◌}
use mathlib.Core.Path.{◌≡◌, refl, sym}
use native.Mathlib.Omega.{arith}
use Rattle.std.proofs.Common.{rules}
use Rattle.std.proofs.lemmas.Result.{err_from_is_err_and}
use Rattle.contents.specs.Asking.{answer}
use Rattle.contents.proofs.Laws.{numbered_from_one}
use Rattle.parts.specs.Questions.{mark_count, part1_questions}
use Rattle.parts.proofs.Laws.{part1_numbered, part1_iff}
use Rattle.filling.specs.Filling.{filled, fill_questions}
use Rattle.filling.proofs.Theorems.{filled_length}
use Rattle.jobs.specs.Jobs.{fill_job}
use Rattle.jobs.proofs.Laws.Rooms.{stopped}
use Rattle.jobs.proofs.Laws.Filling.{fill_whole}
use Rattle.conversions.proofs.Lemmas.{rest_gives}
use Rattle.conversions.proofs.fill.Goals as goal
use Rattle.conversions.proofs.fill.Goals.{In_ok-check_marks}

-- 4 to 6 were passed
accepted : (c : In_ok-check_marks) → answer (part1_questions c.args.marks.now) ≡ 0
accepted c = sym c.in_ok-check_marks.ensures

pub returns-in_err-check_marks : goal.returns-in_err-check_marks
unfolding fill_job fill_questions
returns-in_err-check_marks c =
    let s = c.args.marks.now in
    let out = err_from_is_err_and c.from_residual.result c.from_residual.ensures.1 in
    let w =
    fill_whole {s = s} {before = c.args.out.now} (stopped (part1_questions s) (part1_numbered s) (11 * mark_count s) (filled s) _ c.in_err-check_marks.ensures
    (numbered_from_one _) refl) in
    rw (out.1, out.2) (record { gives = w.0; meets_filling = w.1 })

pub written-requires-clause-small : goal.written-requires-clause-small
written-requires-clause-small c = omega (arith, ((part1_iff _).0 (accepted (goal.at.written-requires-clause-small c).In_ok-check_marks)).0.few)

pub returns : goal.returns
unfolding fill_job fill_questions filled
returns c =
    let s = c.args.marks.now in
    let ok = accepted (goal.at.returns c).In_ok-check_marks in
    let w =
    fill_whole {s = s} {before = c.args.out.now} (rest_gives (part1_questions s) (part1_numbered s) (11 * mark_count s) (filled s) _ ok (sym (filled_length s ok)) (λ k. search rules)
    c.written.result c.written.ensures) in
    record { gives = w.0; meets_filling = w.1 }
