-- `changes::source_of`: the parts lie where the layout says. Assumes nothing.
use Rattle.std.specs.Prelude.{ℕ, ◌≡◌, Bool, true, false, List, is_some, IfSome}
use Rattle.std.specs.Bool.{then_some}
use Rattle.std.specs.Borrow.{Bor}
use Rattle.std.proofs.Common.{refl, ap, ◌∙◌}
use Rattle.sheet.proofs.Laws.{layout_part, layout_there}
use Rattle.changes.proofs.source_of.Goals as goal

pub returns-clause-marks : goal.returns-clause-marks
returns-clause-marks c = c.cut.ensures ∙ layout_part c.args.sheet.now.bytes.now c.args.sheet.now.passed c.args.sheet.now.laid 1

pub returns-clause-edition : goal.returns-clause-edition
returns-clause-edition c = c.cut-2.ensures ∙ layout_part c.args.sheet.now.bytes.now c.args.sheet.now.passed c.args.sheet.now.laid 4

there : (t : Bool) (q : Bor (List ℕ)) → is_some (then_some t q) ≡ t
there true q = refl
there false q = refl

pub returns-clause-popups_there : goal.returns-clause-popups_there
returns-clause-popups_there c =
    ap is_some c.then_some.ensures ∙ there c.is_there.result c.cut-popups.result ∙ c.is_there.ensures ∙ layout_there c.args.sheet.now.bytes.now c.args.sheet.now.passed c.args.sheet.now.laid 5

if_there : (t : Bool) (q : Bor (List ℕ)) {part : List ℕ} → q.now ≡ part → IfSome (then_some t q) (λ p. p.now ≡ part)
if_there true q is = is
if_there false q is = tt

pub returns-clause-popups : goal.returns-clause-popups
returns-clause-popups c =
    rw c.then_some.ensures
    (if_there c.is_there.result c.cut-popups.result (c.cut-popups.ensures ∙ layout_part c.args.sheet.now.bytes.now c.args.sheet.now.passed c.args.sheet.now.laid 5))

pub returns-clause-shape : goal.returns-clause-shape
returns-clause-shape c = c.cut-3.ensures ∙ layout_part c.args.sheet.now.bytes.now c.args.sheet.now.passed c.args.sheet.now.laid 7

pub returns-clause-counted : goal.returns-clause-counted
returns-clause-counted c = c.is_there-2.ensures ∙ layout_there c.args.sheet.now.bytes.now c.args.sheet.now.passed c.args.sheet.now.laid 6
