-- `sheet::opened` meets its contract: an accepted sheet has its contents' layout, a refused one no parts. Assumes nothing.
use mathlib.Core.Path.{◌≡◌, sym}
use native.Mathlib.Omega.{arith}
use borrow.Author.Tests.{eq-eqb, ne_eqb}
use Rattle.std.proofs.lemmas.Result.{err_from_is_err_and}
use Rattle.contents.proofs.Laws.{numbered_from_one}
use Rattle.contents.specs.Refusals.{number}
use Rattle.sheet.specs.Questions.{check}
use Rattle.sheet.specs.Opened.{opened}
use Rattle.sheet.proofs.Lemmas.Accepting.{accepted_iff}
use Rattle.sheet.proofs.opened.Goals as goal

pub returns-in_err-check : goal.returns-in_err-check
unfolding opened
returns-in_err-check c =
    let r = c.in_err-check.field-0.0 in
    let e : number r ≡ check c.args.s.now = c.in_err-check.ensures in
    let p = err_from_is_err_and c.from_residual.result c.from_residual.ensures.1 in
    rw (p.1, p.2, ← e, ne_eqb (number r) 0 (omega (arith, numbered_from_one r)))

pub layout_of-requires : goal.layout_of-requires
layout_of-requires c = ((accepted_iff _).0 (sym c.in_ok-check.ensures)).laid.whole

pub returns : goal.returns
unfolding opened
returns c =
    rw (c.layout_of.ensures, eq-eqb (check c.args.s.now) 0 (sym c.in_ok-check.ensures), sym c.in_ok-check.ensures)
