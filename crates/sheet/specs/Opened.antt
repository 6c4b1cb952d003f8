-- The opened sheet: the number that its questions answer, and where the parts lie.
use Rattle.std.specs.Prelude.{ℕ, cond, List, [], Result, Ok, Err, eqb}
use Rattle.contents.specs.Contents.{Part, split}
use Rattle.contents.specs.Places.{layout_of, no_parts}
use Rattle.contents.specs.declared.Layout.{Layout}
use Rattle.contents.specs.declared.Refusal.{Refusal}
use Rattle.contents.specs.Refusals.{number}
use Rattle.contents.specs.Asking.{answer}
use Rattle.sheet.specs.Questions.{check, indexed_questions}

-- what opening a sheet finds
pub record Opening : Type 0 where
  pub number : ℕ
  pub layout : Layout

-- what a caller is told of it: where the parts lie, or the refusal
abbrev pub found_of : Result Layout Refusal → Opening
found_of (Ok layout) = record { number = 0; layout = layout }
found_of (Err r) = record { number = number r; layout = no_parts }

-- 01: "A refused sheet opens with no parts."
abbrev pub opened_at : ℕ → List ℕ → Opening
opened_at number s = record { number = number; layout = cond (eqb number 0) (layout_of s) no_parts }

unfoldable pub opened : List ℕ → Opening
opened s = opened_at (check s) s

-- what is found where 1 to 10 are asked
unfoldable pub indexed : List ℕ → Opening
indexed s = opened_at (answer (indexed_questions s)) s

-- what a reader of an opened sheet is given: the parts of a sheet, and none of a refused one
unfoldable pub open_parts : List ℕ → List Part
open_parts s = cond (eqb (check s) 0) (split s) []
