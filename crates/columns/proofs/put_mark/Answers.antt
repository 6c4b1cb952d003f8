-- `columns::put_mark` meets its contract: the six values one behind the other. Assumes nothing.
use Rattle.columns.proofs.Lemmas.Writing.{values_sets}
use Rattle.columns.proofs.put_mark.Goals as goal

pub returns : goal.returns
returns c =
    values_sets _ _ c.args.fields
    c.write.ensures
    c.write-2.ensures
    c.write-3.ensures
    c.write-4.ensures
    c.write-5.ensures
    c.write-6.ensures
