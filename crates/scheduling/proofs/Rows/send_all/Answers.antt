-- `scheduling::Rows::send_all` meets its contract: each turn fills one slot more. Assumes nothing.
use Rattle.scheduling.proofs.Sending.{spread_more}
use Rattle.scheduling.proofs.Rows.send_all.Goals as goal

pub loop-q-preserved : goal.loop-q-preserved
loop-q-preserved c = spread_more c.loop-q-test.true c.requires.1 c.requires.2 c.loop-q.invariant c.send_one.ensures
