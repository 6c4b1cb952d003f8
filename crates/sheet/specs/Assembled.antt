-- Putting parts together: what the answer says in 01's terms, and what is written.
use Rattle.std.specs.Prelude.{ℕ, ◌≡◌, cond, List, Result, Ok, Err, eqb, length}
use Rattle.lists.specs.Stores.{over}
use Rattle.contents.specs.Contents.{Part, join}
use Rattle.contents.specs.Asking.{answer}
use Rattle.contents.specs.declared.Refusal.{Refusal}
use Rattle.contents.specs.Refusals.{told}
use Rattle.sheet.specs.Questions.{parts_questions}

-- "0 is success. The first 'no' gives its number, with 0 for every length and count": how many bytes were written
abbrev pub length_of : Result ℕ Refusal → ℕ
length_of (Err r) = 0
length_of (Ok size) = size

-- What putting these parts together answers, `r`, and leaves in a buffer that held `before`.
pub record Assembling (parts : List Part) (before : List ℕ) (r : Result ℕ Refusal) (after : List ℕ) : Type 0 where
  pub number : told r ≡ answer (parts_questions parts (length before))
  pub size : length_of r ≡ cond (eqb (told r) 0) (length (join parts)) 0
  pub bytes : after ≡ cond (eqb (told r) 0) (over (join parts) before) before
