-- `rollmap::rollmap_walk`: what `viewing::walk` gives, with 65,535 where no mark is left and where it is refused. Assumes nothing.
use Rattle.std.specs.Prelude.{ℕ, ◌≡◌, refl, Result, Ok, Err}
use Rattle.contents.specs.declared.Refusal.{Refusal}
use Rattle.contents.specs.Refusals.{told}
use Rattle.jobs.specs.Answers.{answer_to}
use Rattle.rollmap.proofs.rollmap_walk.Goals as goal

numbered : (r : Result ℕ Refusal) → (answer_to r).number ≡ told r
numbered (Ok value) = refl
numbered (Err refusal) = refl

pub returns : goal.returns
returns c =
    rw (c.from.ensures, c.unwrap_or.ensures, numbered c.walk-mark.result, ← c.walk-mark.ensures.0, ← c.walk-mark.ensures.1)
