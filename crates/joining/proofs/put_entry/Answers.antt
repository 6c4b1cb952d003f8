-- `joining::put_entry` meets its contract: three runs of stores, each where the last ended, are one. Assumes nothing.
use Rattle.joining.specs.Writing.{entry_sets}
use Rattle.joining.proofs.put_entry.Goals as goal

pub returns : goal.returns
returns c =
    let a = c.args in
    entry_sets a.out.now a.at a.code a.offset a.size (rw c.from.ensures at c.write.ensures) c.write-2.ensures c.write-3.ensures
