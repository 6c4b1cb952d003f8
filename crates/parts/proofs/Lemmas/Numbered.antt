-- No question of these lists bears the number 0.
use Rattle.std.specs.Prelude.{ℕ, List}
use Rattle.std.proofs.Common.{arith}
use Rattle.contents.proofs.Laws.{Numbered, turn_numbered}
use Rattle.parts.specs.Questions.{one_mark, mark_count, mark_questions, part1_questions}

pub one_numbered : (s : List ℕ) (m : ℕ) → Numbered (one_mark s m)
one_numbered s m = (omega arith, (omega arith, tt))

pub part1_numbered : (s : List ℕ) → Numbered (part1_questions s)
unfolding part1_questions mark_questions
part1_numbered s = (omega arith, turn_numbered (one_mark s) (one_numbered s) (mark_count s))
