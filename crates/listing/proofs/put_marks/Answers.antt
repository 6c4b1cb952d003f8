-- `listing::put_marks` meets its contract: while the loop runs, the lines of the marks before m are written. Assumes nothing.
use Rattle.std.proofs.Common.{◌≡◌, arith}
use Rattle.text.proofs.Laws.{wrote_length}
use Rattle.listing.specs.Listed.{removal_at}
use Rattle.listing.proofs.Laws.{marks_room, lines_none, lines_more}
use Rattle.listing.proofs.put_marks.Goals as goal

pub loop-m-init : goal.loop-m-init
loop-m-init c = lines_none _ _ _

pub put_mark-next-requires : goal.put_mark-next-requires
put_mark-next-requires c =
    let l = c.loop-m in
    let p = c.requires in
    let w = l.invariant in
    record {
      record_size_in_bounds = (omega (arith, p.0.long), omega (arith, w.ends, wrote_length w, marks_room (removal_at c.args.schedule.now) l.m, p.1));
      zoomable = p.0.zooms l.m (omega arith);
    }

pub loop-m-preserved : goal.loop-m-preserved
loop-m-preserved c = lines_more _ c.loop-m.m c.loop-m.invariant c.put_mark-next.ensures

pub shape_of-out : goal.shape_of-out
shape_of-out c = wrote_length c.loop-m.invariant

pub returns : goal.returns
returns c =
    let q : c.loop-m.m ≡ c.args.n = omega arith in
    rw q at c.loop-m.invariant
