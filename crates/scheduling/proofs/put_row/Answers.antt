-- `scheduling::put_row` meets its contract: five numbers written one behind the other are the fields. Assumes nothing.
use native.Mathlib.Omega.{arith}
use Rattle.lists.proofs.StoreLaws.{kept_sets}
use Rattle.scheduling.specs.Filling.{row_bytes}
use Rattle.scheduling.proofs.Bytes.{row_put, row_back, row_length}
use Rattle.scheduling.proofs.put_row.Goals as goal

pub returns : goal.returns
returns c =
    let r = c.args.reel.now in
    let m = c.args.m in
    let w = c.args.w.now in
    let at = c.args.at in
    let e = row_put r.marks.now r.popups.now m w at c.write.ensures
    (rw c.read.ensures.0 at c.write-2.ensures)
    (rw c.read-2.ensures.0 at c.write-3.ensures)
    (rw c.radius_at.ensures at c.write-4.ensures)
    (rw c.popup_at.ensures at c.write-5.ensures) in
    record {
      kept = rw (row_length r.marks.now r.popups.now m, ← e) at (kept_sets (row_bytes r.marks.now r.popups.now m) w at);
      row = rw e (row_back r.marks.now r.popups.now m w at (rw (← c.read.ensures.0) c.read.ensures.1) (rw (← c.read-2.ensures.0) c.read-2.ensures.1) c.requires.1
          (omega (arith, r.good.few, c.requires.0)) (omega (arith, (r.good.each _ c.requires.0).used)) (omega (arith, c.requires.2.each _ c.requires.0)));
    }
