-- `clashing::proposal::Proposal::clashes` meets its contract: a mark that is removed before the subject does not clash with it. Assumes nothing.
use mathlib.Core.Bool.{not}
use Rattle.lists.proofs.TestLaws.{and_no}
use Rattle.std.proofs.Common.{sym, refl}
use Rattle.std.specs.Prelude.{eqb}
use Rattle.clashing.specs.Clash.{clash}
use Rattle.clashing.proofs.proposal.Proposal.clashes.Goals as goal

pub returns-else-not-less_small : goal.returns-else-not-less_small
unfolding clash
returns-else-not-less_small c =
    rw (c.if-not-less_small.false, ← c.requires.0.value_is, ← c.limit_at-w.ensures, ← c.less_small.ensures, c.if-not-less_small.false) (sym (and_no (not (eqb c.args.g c.args.q.m)) refl))
