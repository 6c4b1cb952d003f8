-- `columns::put_marks` meets its contract: each turn writes one mark, and keeps its place. Assumes nothing.
use Rattle.std.proofs.Common.{◌≡◌, ◌+◌, ◌*◌, ◌%◌, ◌<◌, arith, ap}
use Rattle.columns.specs.declared.Fields.{Fields}
use Rattle.columns.specs.Steps.{mark_with, placed}
use Rattle.columns.specs.Columns.{mark_of, as_marks, in_columns, places_by, sums, entry, from_columns}
use Rattle.columns.proofs.Lemmas.Writing.{laid_none, laid_all, marks_more, kept_none, kept_more, sum}
use Rattle.columns.proofs.put_marks.Goals as goal

pub loop-m-init : goal.loop-m-init
loop-m-init c = (laid_none _ _ _ _, kept_none _, kept_none _)

pub loop-m-preserved : goal.loop-m-preserved
loop-m-preserved c =
    let a = c.args in
    let l = c.loop-m in
    let fields = c.entries_at-fields.result in
    let are = c.entries_at-fields.ensures in
    let v = places_by sums (in_columns a.c.now a.n) in
    let x_fits : fields.x < 65536 = omega arith in
    let y_fits : fields.y < 65536 = omega arith in
    let x = sum (entry 2 0 a.c.now) l.m l.invariant.1 (ap (λ (f : Fields). f.x) are) x_fits in
    let y = sum (entry 2 (2 * a.n) a.c.now) l.m l.invariant.2 (ap (λ (f : Fields). f.y) are) y_fits in
    let b : mark_with (placed fields ((l.x + fields.x) % 65536) ((l.y + fields.y) % 65536)) ≡ mark_of v l.m = rw (x, y, are) in
    (marks_more v l.invariant.0 c.loop-m-test.true b c.put_mark.ensures, kept_more _ l.m (omega arith) x, kept_more _ l.m (omega arith) y)

pub returns : goal.returns
unfolding from_columns as_marks
returns c = laid_all c.loop-m.invariant.0 (omega arith)
