-- `clashing::proposal::Proposal::subject_of` meets its contract: a proposal has all that a subject is made from. Assumes nothing.
use native.Mathlib.Omega.{arith}
use Rattle.elimination.specs.Lent.{lent}
use Rattle.marks.proofs.PairLaws.{good_popup}
use Rattle.clashing.proofs.Laws.Clash.{asked_of}
use Rattle.clashing.proofs.proposal.Proposal.subject_of.Goals as goal

pub subject_of-requires : goal.subject_of-requires
subject_of-requires c =
    let p = c.args.self.now in
    record {
      marked = omega (arith, c.requires.1, p.reel.good.there);
      popup = good_popup (asked_of {r = lent p.reel} p.reel.good p.passed).popped c.requires.1;
      scheduled = omega (arith, c.requires.1, p.passed.schedule_long);
      limit_small = p.limits_small c.args.m c.requires.1;
      used = (p.reel.good.each c.args.m c.requires.1).used;
      bound_small = c.requires.0;
    }
