-- `conversions::to_columns`: each way out by the question that ended it, and else the columns of the marks. Assumes nothing.
use Prim.Native.Nat.{◌*◌}
use mathlib.Core.Path.{◌≡◌, refl, sym, ◌∙◌}
use native.Mathlib.Omega.{arith}
use Rattle.std.proofs.Common.{rules}
use Rattle.columns.specs.Columns.{to_columns}
use Rattle.columns.proofs.Theorems.{to_length}
use Rattle.contents.specs.Asking.{answer}
use Rattle.parts.specs.Questions.{mark_count}
use Rattle.jobs.specs.Jobs.{column_checks, column_questions, to_columns_job}
use Rattle.jobs.proofs.Laws.Rooms.{stopped}
use Rattle.jobs.proofs.Laws.Archiving.{column_numbered, taken_asked, refused_asked, few_marks, columns_whole}
use Rattle.conversions.proofs.Lemmas.{rest_gives}
use Rattle.conversions.proofs.to_columns.Goals as goal
use Rattle.conversions.proofs.to_columns.Goals.{Else-not-is_marks}

-- 4 was passed
accepted : (c : Else-not-is_marks) → answer (column_checks c.args.marks.now) ≡ 0
accepted c = taken_asked _ (sym c.is_marks.ensures ∙ c.if-not-is_marks.false)

pub returns-then-not-is_marks : goal.returns-then-not-is_marks
unfolding to_columns_job column_questions
returns-then-not-is_marks c =
    let s = c.args.marks.now in
    let w =
    columns_whole {s = s} {before = c.args.out.now} (λ i. (c.type_inv.marks i).fits)
    (stopped (column_checks s) (column_numbered s) (11 * mark_count s) (to_columns s (mark_count s)) _ (refused_asked s (sym c.is_marks.ensures ∙ c.if-not-is_marks.true))
    (omega arith) refl) in
    record { gives = w.0; meets_columns = w.1 }

pub written-requires-clause-small : goal.written-requires-clause-small
written-requires-clause-small c = omega (arith, few_marks _ (accepted (goal.at.written-requires-clause-small c).Else-not-is_marks))

pub returns : goal.returns
unfolding to_columns_job column_questions
returns c =
    let s = c.args.marks.now in
    let w =
    columns_whole {s = s} {before = c.args.out.now} (λ i. (c.type_inv.marks i).fits)
    (rest_gives (column_checks s) (column_numbered s) (11 * mark_count s) (to_columns s (mark_count s)) _ (accepted (goal.at.returns c).Else-not-is_marks)
    (sym (to_length s (mark_count s))) (λ k. search rules) c.written.result c.written.ensures) in
    record { gives = w.0; meets_columns = w.1 }
