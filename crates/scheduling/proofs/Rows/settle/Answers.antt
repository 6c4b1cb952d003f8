-- `scheduling::Rows::settle` meets its contract: what was found is read back from the row. Assumes nothing.
use native.Mathlib.Omega.{arith}
use Rattle.lists.proofs.StoreLaws.{kept_none}
use Rattle.scheduling.proofs.Progress.{settles}
use Rattle.scheduling.proofs.Rows.settle.Goals as goal

pub returns : goal.returns
returns c =
    settles c.requires.below (omega (arith, c.requires.room)) (omega arith) (omega arith) (kept_none _ _ 0) c.put_record.ensures c.best_of-found.ensures
