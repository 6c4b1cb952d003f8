-- `sheet::indexed` meets its contract: what `opened` refuses stays refused, and of an accepted sheet 10 is asked. Assumes nothing.
use mathlib.Core.Path.{refl, sym, ap₂, ◌∙◌}
use mathlib.Core.Bool.{◌&&◌}
use native.Mathlib.Omega.{arith}
use Rattle.std.proofs.lemmas.Result.{err_from_is_err_and}
use Rattle.lists.proofs.TestLaws.{and_no}
use Rattle.contents.specs.Places.{is_there}
use Rattle.contents.proofs.Laws.{numbered_from_one}
use Rattle.sheet.proofs.Lemmas.Opened.{indexed_refused, indexed_there, indexed_missing}
use Rattle.sheet.proofs.indexed.Goals as goal
use Rattle.sheet.proofs.indexed.Goals.{else-is_there-via-then-is_there+else-is_there-2, else-is_there-via-else-is_there}

pub returns-in_err-layout : goal.returns-in_err-layout
returns-in_err-layout c =
    let some = numbered_from_one c.in_err-layout.field-0.0 in
    let p = err_from_is_err_and c.from_residual.result c.from_residual.ensures.1 in
    rw (p.1, p.2) (indexed_refused c.args.s.now c.in_err-layout.ensures (λ z. omega (arith, some, z)))

pub returns-then-is_there-2 : goal.returns-then-is_there-2
returns-then-is_there-2 c =
    indexed_there c.args.s.now c.in_ok-layout.ensures refl
    (sym (ap₂ ◌&&◌ c.is_there.ensures c.is_there-then-is_there.ensures) ∙ ap₂ ◌&&◌ c.if-is_there.true c.if-is_there-2.true)

pub returns-else-is_there : goal.returns-else-is_there
returns-else-is_there c =
    let two = is_there c.in_ok-layout.layout 2 in
    indexed_missing c.args.s.now c.in_ok-layout.ensures refl (elim c.else-is_there.branch [
      | else-is_there-via-then-is_there+else-is_there-2 w ↦ and_no two (sym w.is_there-then-is_there.ensures ∙ w.if-is_there-2.false)
      | else-is_there-via-else-is_there w ↦ rw (← c.is_there.ensures, w.if-is_there.false)
    ])
