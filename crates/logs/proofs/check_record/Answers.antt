-- `logs::check_record`: x, y and the fields, in that order. Assumes nothing.
use Rattle.std.proofs.Common.{sym, ◌∙◌}
use Rattle.std.proofs.lemmas.Result.{err_from_is_err_and}
use Rattle.contents.proofs.Laws.{numbered_from_one}
use Rattle.logs.proofs.Lemmas.Right.{record_x, record_y, record_rest}
use Rattle.logs.proofs.check_record.Goals as goal

pub returns-in_err-check_place : goal.returns-in_err-check_place
returns-in_err-check_place c =
    let p = err_from_is_err_and c.from_residual.result c.from_residual.ensures.1 in
    rw (p.1, p.2) (record_x _ _ c.in_err-check_place.ensures (numbered_from_one _))

pub returns-in_err-check_place-2 : goal.returns-in_err-check_place-2
returns-in_err-check_place-2 c =
    let p = err_from_is_err_and c.from_residual-in_err-check_place-2.result c.from_residual-in_err-check_place-2.ensures.1 in
    rw (p.1, p.2) (record_y _ _ (sym c.in_ok-check_place.ensures) c.in_err-check_place-2.ensures (numbered_from_one _))

pub returns : goal.returns
returns c =
    c.check_fields.ensures ∙ record_rest _ _ (sym c.in_ok-check_place.ensures) (sym c.in_ok-check_place-2.ensures)
