-- `columns::enter` meets its contract: each value goes to its column. Assumes nothing.
use Rattle.columns.proofs.Lemmas.Beside.{entry_sets}
use Rattle.columns.proofs.enter.Goals as goal

pub returns : goal.returns
returns c =
    entry_sets _ c.args.n c.args.m c.args.fields
    c.write.ensures
    c.write-2.ensures
    c.write-3.ensures
    c.write-4.ensures
    c.write-5.ensures
    c.write-6.ensures
