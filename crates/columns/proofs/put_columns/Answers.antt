-- `columns::put_columns` meets its contract: each turn fills all columns by one value. Assumes nothing.
use Rattle.std.proofs.Common.{◌≡◌, ◌<◌, refl, arith, length, ap, ◌∙◌}
use Rattle.columns.specs.declared.Fields.{Fields}
use Rattle.columns.specs.Columns.{field, to_columns}
use Rattle.columns.proofs.Lemmas.Writing.{kept_none, kept_more, difference}
use Rattle.columns.proofs.Lemmas.Beside.{filled_none, filled_all, entered_more, filled_length}
use Rattle.columns.proofs.put_columns.Goals as goal

pub loop-m-init : goal.loop-m-init
loop-m-init c = (refl, filled_none _ _, kept_none _, kept_none _)

pub loop-m-preserved : goal.loop-m-preserved
loop-m-preserved c =
    let s = c.args.s.now in
    let m = c.loop-m.m in
    let fields = c.fields_at-fields.result in
    let are = c.fields_at-fields.ensures in
    let x : fields.x ≡ field 2 0 s m = ap (λ (f : Fields). f.x) are in
    let y : fields.y ≡ field 2 2 s m = ap (λ (f : Fields). f.y) are in
    let x_fits : fields.x < 65536 = omega arith in
    let y_fits : fields.y < 65536 = omega arith in
    let dx = difference (field 2 0 s) m c.loop-m.invariant.2 x x_fits in
    let dy = difference (field 2 2 s) m c.loop-m.invariant.3 y y_fits in
    let more = entered_more s _ c.args.n m are dx dy c.loop-m-test.true c.loop-m.invariant.1 c.enter.ensures in
    (ap length more ∙ filled_length _ _ _, more, kept_more _ m x_fits x, kept_more _ m y_fits y)

pub shape_of-out : goal.shape_of-out
shape_of-out c = c.loop-m.invariant.0

pub returns : goal.returns
unfolding to_columns
returns c =
    let a = c.args in
    let e : c.loop-m.m ≡ a.n = omega arith in
    rw e at c.loop-m.invariant.1 ∙ filled_all _ a.n _
