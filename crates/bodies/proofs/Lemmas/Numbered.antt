-- No question of these lists bears the number 0.
use Rattle.std.specs.Prelude.{List}
use Rattle.std.proofs.Common.{arith}
use Rattle.contents.specs.Contents.{Part}
use Rattle.contents.proofs.Laws.{Numbered, numbered_append}
use Rattle.parts.specs.Questions.{part1_questions}
use Rattle.parts.proofs.Laws.{part1_numbered}
use Rattle.bodies.specs.Questions.{last_questions, body_questions}

pub bodies_numbered : (parts : List Part) → Numbered (body_questions parts)
unfolding body_questions last_questions
bodies_numbered parts = numbered_append (part1_questions _) _ (part1_numbered _)
    (omega arith, (omega arith, (omega arith, (omega arith, (omega arith, (omega arith, (omega arith, tt)))))))
