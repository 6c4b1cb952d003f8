-- `scheduling::put_keys` meets its contract: each turn writes one key more. Assumes nothing.
use Rattle.scheduling.proofs.Filling.{keyed_more}
use Rattle.scheduling.proofs.put_keys.Goals as goal

pub loop-i-preserved : goal.loop-i-preserved
loop-i-preserved c = keyed_more c.loop-i.invariant c.rank_key-key.ensures c.put.ensures
