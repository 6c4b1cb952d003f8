-- `logs::check_records`: while the loop runs, the records before r answer 0. Assumes nothing.
use Rattle.std.proofs.Common.{◌≡◌, sym, ◌∙◌, arith}
use Rattle.std.proofs.lemmas.Result.{err_from_is_err_and}
use Rattle.contents.proofs.Laws.{turn_none, turn_more, turn_stop, numbered_from_one}
use Rattle.logs.specs.Questions.{record_questions}
use Rattle.logs.proofs.Lemmas.Right.{record_numbered}
use Rattle.logs.proofs.check_records.Goals as goal

pub loop-r-init : goal.loop-r-init
loop-r-init c = turn_none (record_questions c.args.s.now) (record_numbered c.args.s.now)

pub returns-in_err-check_record : goal.returns-in_err-check_record
returns-in_err-check_record c =
    let s = c.args.s.now in
    let refused = c.in_err-check_record.ensures in
    let p = err_from_is_err_and c.from_residual.result c.from_residual.ensures.1 in
    rw (p.1, p.2) (refused
    ∙ sym (turn_stop (record_questions s) (record_numbered s) c.loop-r.r c.args.n c.loop-r-test.true c.loop-r.invariant
    (omega (arith, refused, numbered_from_one c.in_err-check_record.field-0.0))))

pub loop-r-preserved : goal.loop-r-preserved
loop-r-preserved c =
    let s = c.args.s.now in
    turn_more (record_questions s) (record_numbered s) c.loop-r.r c.loop-r.invariant (sym c.in_ok-check_record.ensures)

pub returns : goal.returns
returns c = let q : c.loop-r.r ≡ c.args.n = omega arith in sym (rw q at c.loop-r.invariant)
