-- `filling::fill` meets its contract: each turn writes one row more. Assumes nothing.
use Rattle.std.proofs.Common.{◌≡◌, length, arith, ap, ◌∙◌}
use lib.Seq.{length-sets}
use Rattle.rows.proofs.Laws.{rows_none, rows_more}
use Rattle.filling.specs.Filling.{filled_mark}
use Rattle.filling.proofs.Lemmas.Filled.{mark_length}
use Rattle.filling.proofs.fill.Goals as goal

pub loop-m-init : goal.loop-m-init
loop-m-init c = rows_none (filled_mark c.args.s.now) 11 _

pub put_mark-requires : goal.put_mark-requires
put_mark-requires c =
    let long : length c.loop-m.out ≡ length c.args.out.now = ap length c.loop-m.invariant ∙ simp length-sets in
    (omega arith, omega arith)

pub loop-m-preserved : goal.loop-m-preserved
loop-m-preserved c =
    let s = c.args.s.now in
    rows_more (filled_mark s) 11 _ c.loop-m.m (λ j l. mark_length s j (omega (arith, c.requires.0))) c.loop-m.invariant c.put_mark.ensures

pub shape_of-out : goal.shape_of-out
shape_of-out c = ap length c.loop-m.invariant ∙ simp length-sets

pub returns : goal.returns
returns c = let e : c.loop-m.m ≡ c.args.n = omega arith in rw e at c.loop-m.invariant
