-- `changes::without`: the rows before row m, and those behind it. Assumes nothing.
use Rattle.std.proofs.Common.{refl}
use Rattle.jobs.proofs.Laws.Changing.{lent_pieces}
use Rattle.changes.proofs.without.Goals as goal

pub returns : goal.returns
returns c = lent_pieces c.args.width c.args.m c.before-2.ensures c.behind.ensures refl
