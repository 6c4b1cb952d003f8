-- `report::check_input` meets its contract: the first 'no' ends it. Assumes nothing.
use Rattle.std.proofs.Common.{ℕ, ◌/◌, ◌≡◌, List, length, sym, ap, ◌∙◌, arith}
use Rattle.std.proofs.lemmas.Result.{err_from_is_err_and}
use Rattle.contents.proofs.Laws.{numbered_from_one}
use Rattle.sheet.specs.Questions.{check, sheet_count}
use Rattle.sheet.proofs.Laws.{found_number, found_layout, found_part}
use Rattle.report.proofs.Lemmas.Printed.{answer_long, answer_refused, answer_many, answer_taken}
use Rattle.report.proofs.check_input.Goals as goal
use Rattle.report.proofs.check_input.Goals.{After-cut}

-- questions 1 to 9 were passed
accepted : (c : After-cut) → check c.args.input.now ≡ 0
accepted c = sym (found_number _ c.in_ok-layout.ensures)

-- how many marks there are
count : (c : After-cut) → length c.cut.result.now / 11 ≡ sheet_count c.args.input.now
count c = ap (λ (part : List ℕ). length part / 11) (c.cut.ensures ∙ found_part _ c.in_ok-layout.ensures (accepted c) 1)

pub returns-then-input-gt-LONGEST_INPUT-clause-number : goal.returns-then-input-gt-LONGEST_INPUT-clause-number
returns-then-input-gt-LONGEST_INPUT-clause-number c = sym (answer_long _ (omega (arith, c.if-input-gt-LONGEST_INPUT.true)))

pub returns-in_err-layout-clause-number : goal.returns-in_err-layout-clause-number
returns-in_err-layout-clause-number c =
    let found = found_number _ c.in_err-layout.ensures in
    let gone = err_from_is_err_and c.from_residual.result c.from_residual.ensures.1 in
    rw (gone.1, gone.2) (found ∙ sym (answer_refused _ (omega (arith, c.if-input-gt-LONGEST_INPUT.false)) (omega (arith, found, numbered_from_one c.in_err-layout.field-0.0))))

pub returns-then-cut-gt-MOST_MARKS-clause-number : goal.returns-then-cut-gt-MOST_MARKS-clause-number
returns-then-cut-gt-MOST_MARKS-clause-number c =
    let p = (goal.at.returns-then-cut-gt-MOST_MARKS-clause-number c).After-cut in
    sym (answer_many _ (omega (arith, c.if-input-gt-LONGEST_INPUT.false)) (accepted p) (omega (arith, count p, c.if-cut-gt-MOST_MARKS.true)))

pub returns-clause-number : goal.returns-clause-number
returns-clause-number c =
    let p = (goal.at.returns-clause-number c).After-cut in
    sym (answer_taken _ (omega (arith, c.if-input-gt-LONGEST_INPUT.false)) (accepted p) (omega (arith, count p, c.if-cut-gt-MOST_MARKS.false)))

pub returns-clause-layout : goal.returns-clause-layout
returns-clause-layout c = found_layout _ c.in_ok-layout.ensures (accepted (goal.at.returns-clause-layout c).After-cut)
