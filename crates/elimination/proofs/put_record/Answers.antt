-- `elimination::put_record` meets its contract: three numbers written one behind the other are the record. Assumes nothing.
use Rattle.elimination.proofs.Bytes.{record_put}
use Rattle.elimination.proofs.put_record.Goals as goal

pub returns : goal.returns
returns c =
    record_put _ _ _ c.write.ensures c.write-2.ensures c.write-3.ensures
