-- `logs::put_records`: each turn writes one row more. Assumes nothing.
use Rattle.std.proofs.Common.{◌≡◌, length, arith, ap, ◌∙◌}
use lib.Seq.{length-sets}
use Rattle.rows.proofs.Laws.{rows_none, rows_more}
use Rattle.logs.specs.Log.{record_of_mark}
use Rattle.logs.proofs.Lemmas.Writing.{record_length}
use Rattle.logs.proofs.put_records.Goals as goal

pub loop-m-init : goal.loop-m-init
loop-m-init c = rows_none (record_of_mark c.args.s.now) 13 _

pub put_record-requires : goal.put_record-requires
put_record-requires c =
    let long : length c.loop-m.out ≡ length c.args.out.now = ap length c.loop-m.invariant ∙ simp length-sets in
    (omega arith, omega arith)

pub loop-m-preserved : goal.loop-m-preserved
loop-m-preserved c =
    let s = c.args.s.now in
    rows_more (record_of_mark s) 13 _ c.loop-m.m (λ j l. record_length s j (omega (arith, c.requires.0))) c.loop-m.invariant c.put_record.ensures

pub shape_of-out : goal.shape_of-out
shape_of-out c = ap length c.loop-m.invariant ∙ simp length-sets

pub returns : goal.returns
returns c = let e : c.loop-m.m ≡ c.args.n = omega arith in rw e at c.loop-m.invariant
