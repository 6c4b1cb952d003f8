-- `schedule::print_read` meets its contract: by what reading came to. Assumes nothing.
use Rattle.std.proofs.Common.{rules}
use Rattle.schedule.specs.Reading.{Reported}
use Rattle.schedule.proofs.print_read.Goals as goal

pub returns-in-Err : goal.returns-in-Err
unfolding Reported
returns-in-Err c = search rules

pub returns-in-Ok : goal.returns-in-Ok
unfolding Reported
returns-in-Ok c = rw c.in-Ok.is c.print.ensures
