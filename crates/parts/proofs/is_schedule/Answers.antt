-- `parts::is_schedule` meets its contract: each record is asked. Assumes nothing.
use borrow.Author.Tests.{tests}
use Rattle.std.proofs.Common.{rules}
use Rattle.elimination.specs.Lent.{lent}
use Rattle.parts.specs.Questions.{record_right, is_schedule}
use Rattle.parts.proofs.Lemmas.Ranges.{every_from_all}
use Rattle.parts.proofs.is_schedule.Goals as goal

pub returns : goal.returns
unfolding is_schedule
returns c =
    every_from_all (record_right (lent c.args.reel.now) c.args.schedule.now) c.args.reel.now.count _ _ _ c.all.ensures.ran
    (λ x b q k. search (rules, tests))
