-- `parts::check_each` meets its contract: while the loop runs, the marks before m answer 0. Assumes nothing.
use mathlib.Core.Path.{◌≡◌}
use Rattle.contents.specs.Asking.{answer}
use Rattle.parts.specs.Questions.{mark_questions}
use Rattle.parts.proofs.check_each.Given as goal

abbrev pub invariant-loop-m : goal.invariant-loop-m
invariant-loop-m l = answer (mark_questions l.s l.m) ≡ 0
