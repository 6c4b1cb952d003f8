-- `judging::trial::Trial::is_all_clear` meets its contract: each mark is asked. Assumes nothing.
use borrow.Author.Tests.{tests}
use Rattle.std.proofs.Common.{rules}
use Rattle.elimination.specs.Lent.{lent}
use Rattle.parts.proofs.Laws.{every_from_all}
use Rattle.judging.specs.Search.{is_clear, all_clear}
use Rattle.judging.proofs.trial.Trial.is_all_clear.Goals as goal

pub returns : goal.returns
unfolding all_clear
returns c =
    let tr = c.args.self.now in
    every_from_all (is_clear (lent tr.proposal.reel) tr.proposal.schedule.now) tr.proposal.reel.count _ _ _ c.all.ensures.ran
    (λ x b q k. search (rules, tests))
