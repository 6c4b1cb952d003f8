-- `logs::check_records`: while the loop runs, the records before r answer 0. Assumes nothing.
use Rattle.std.proofs.Common.{◌≡◌}
use Rattle.contents.specs.Asking.{answer, in_turn}
use Rattle.logs.specs.Questions.{record_questions}
use Rattle.logs.proofs.check_records.Given as goal

abbrev pub invariant-loop-r : goal.invariant-loop-r
invariant-loop-r l = answer (in_turn (record_questions l.s) l.r) ≡ 0
