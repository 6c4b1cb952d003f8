-- `logs::put_marks`: each turn writes one row more. Assumes nothing.
use Rattle.std.proofs.Common.{◌≡◌, length, arith, ap, ◌∙◌}
use lib.Seq.{length-sets}
use Rattle.rows.proofs.Laws.{rows_none, rows_more}
use Rattle.logs.specs.Log.{mark_of_record}
use Rattle.logs.proofs.Lemmas.Writing.{mark_length}
use Rattle.logs.proofs.put_marks.Goals as goal

pub loop-r-init : goal.loop-r-init
loop-r-init c = rows_none (mark_of_record c.args.s.now) 11 _

pub put_mark-requires : goal.put_mark-requires
put_mark-requires c =
    let long : length c.loop-r.out ≡ length c.args.out.now = ap length c.loop-r.invariant ∙ simp length-sets in
    (c.requires.0, omega arith, omega (arith, c.requires.1))

pub loop-r-preserved : goal.loop-r-preserved
loop-r-preserved c =
    let s = c.args.s.now in
    rows_more (mark_of_record s) 11 _ c.loop-r.r (λ j l. mark_length s j (omega (arith, c.requires.0.long))) c.loop-r.invariant c.put_mark.ensures

pub shape_of-out : goal.shape_of-out
shape_of-out c = ap length c.loop-r.invariant ∙ simp length-sets

pub returns : goal.returns
returns c = let e : c.loop-r.r ≡ c.args.n = omega arith in rw e at c.loop-r.invariant
