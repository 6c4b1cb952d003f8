-- What is known of an accepted sheet: questions 1 to 9 as statements, for the proofs of whoever goes on with it.
use Rattle.std.specs.Prelude.{ℕ, List}
use Rattle.contents.specs.Contents.{split}
use Rattle.contents.specs.Laid.{Laid}
use Rattle.bodies.specs.Fitting.{Fitting}

-- 1 to 9.
pub record Accepted (s : List ℕ) : Type 0 where
  pub laid : Laid s
  pub fitting : Fitting (split s)
