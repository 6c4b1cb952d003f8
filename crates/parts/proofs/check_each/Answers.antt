-- `parts::check_each` meets its contract: while the loop runs, the marks before m answer 0. Assumes nothing.
use mathlib.Core.Path.{sym, ◌∙◌}
use native.Mathlib.Omega.{arith}
use Rattle.std.proofs.lemmas.Result.{err_from_is_err_and}
use Rattle.contents.proofs.Laws.{turn_none, turn_more, turn_stop, numbered_from_one}
use Rattle.parts.specs.Questions.{one_mark, mark_questions}
use Rattle.parts.proofs.Lemmas.Numbered.{one_numbered}
use Rattle.parts.proofs.check_each.Goals as goal

pub loop-m-init : goal.loop-m-init
unfolding mark_questions
loop-m-init c = let s = c.args.s.now in turn_none (one_mark s) (one_numbered s)

pub returns-in_err-check_mark : goal.returns-in_err-check_mark
unfolding mark_questions
returns-in_err-check_mark c =
    let s = c.args.s.now in
    let r = c.in_err-check_mark.field-0.0 in
    let p = err_from_is_err_and c.from_residual.result c.from_residual.ensures.1 in
    rw (p.1, p.2) (c.in_err-check_mark.ensures
    ∙ sym (turn_stop (one_mark s) (one_numbered s) c.loop-m.m c.args.n c.loop-m-test.true c.loop-m.invariant
    (omega (arith, c.in_err-check_mark.ensures, numbered_from_one r))))

pub loop-m-preserved : goal.loop-m-preserved
unfolding mark_questions
loop-m-preserved c =
    let s = c.args.s.now in turn_more (one_mark s) (one_numbered s) c.loop-m.m c.loop-m.invariant (sym c.in_ok-check_mark.ensures)
