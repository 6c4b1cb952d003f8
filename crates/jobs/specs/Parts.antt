-- Demand 2 over the calls: what is put together splits into what was given, and an accepted sheet's parts give its bytes.
-- The contract of putting together cites it; Theorems proves it.
use Rattle.std.specs.Prelude.{ℕ, ◌≤◌, ◌≡◌, List, length, take}
use Rattle.lists.specs.Stores.{over}
use Rattle.numbers.specs.Little.{Bytes}
use Rattle.contents.specs.Contents.{codes_of, bodies_of, split, together}
use Rattle.sheet.specs.Questions.{check}
use Rattle.jobs.specs.declared.Answer.{Answer}

-- Of putting these bodies under these codes together, which answered r and left `out` in a buffer that held `before`: a success has written a
-- sheet that is accepted and whose parts they are; and where they are an accepted sheet's own, there being room for it, it is that sheet.
pub record Joins (codes : List ℕ) (bodies : List (List ℕ)) (before : List ℕ) (r : Answer) (out : List ℕ) : Type 0 where
  pub split_again : r.number ≡ 0 → split (take r.value out) ≡ together codes bodies
  pub accepted : r.number ≡ 0 → check (take r.value out) ≡ 0
  pub again : (s : List ℕ) → Bytes s → check s ≡ 0 → codes ≡ codes_of (split s) → take (length codes) bodies ≡ bodies_of (split s) → length s ≤ length before
      → (r ≡ record { number = 0; value = length s }) × (out ≡ over s before)
