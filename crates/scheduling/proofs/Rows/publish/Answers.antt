-- `scheduling::Rows::publish` meets its contract: the records that go out are those of the settled rows. Assumes nothing.
use native.Mathlib.Omega.{arith}
use Rattle.scheduling.proofs.Sending.{numbered_like, published}
use Rattle.scheduling.proofs.Rows.publish.Goals as goal

pub send_all-requires : goal.send_all-requires
send_all-requires c =
    let f = c.settle_all.ensures.fields in
    (omega (arith, f.long), c.requires.long.1, numbered_like f c.requires.rows_small.1)

pub returns : goal.returns
returns c = published c.settle_all.ensures c.send_all.ensures
