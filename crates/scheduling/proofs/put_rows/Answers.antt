-- `scheduling::put_rows` meets its contract: each turn writes one row more, and the keys stay. Assumes nothing.
use Rattle.scheduling.proofs.Filling.{rows_more}
use Rattle.scheduling.proofs.put_rows.Goals as goal

pub loop-q-preserved : goal.loop-q-preserved
loop-q-preserved c =
    rows_more c.loop-q-test.true (rw c.get.ensures) c.loop-q.invariant c.put_row.ensures.kept c.put_row.ensures.row
