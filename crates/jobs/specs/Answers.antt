-- What the answers of the interface stand for.
use Rattle.std.specs.Prelude.{ℕ, ◌<◌, ◌≡◌, List, ℤ, Result, Ok, Err, length}
use Rattle.contents.specs.declared.Refusal.{Refusal}
use Rattle.contents.specs.Refusals.{number}
use Rattle.marks.specs.declared.Mark.{Mark}
use Rattle.reaching.specs.declared.Window.{Window}
use Rattle.jobs.specs.declared.Answer.{Answer}
use Rattle.jobs.specs.Jobs.{Outcome, after}

-- the number and the value of an outcome
abbrev pub answer_of : Outcome → Answer
answer_of o = record { number = o.number; value = o.value }

-- "The first 'no' gives its number, with 0 for every length and count"
abbrev pub refusal : ℕ → Answer
refusal number = record { number = number; value = 0 }

-- what a call answers of what it came to: a value, or a refusal
abbrev pub answer_to : Result ℕ Refusal → Answer
answer_to (Ok value) = record { number = 0; value = value }
answer_to (Err r) = refusal (number r)

-- the window of these edges, turned by so many quarter turns
abbrev pub window : ℤ → ℤ → ℤ → ℤ → ℕ → Window
window x0 x1 y0 y1 turn = record { x0 = x0; x1 = x1; y0 = y0; y1 = y1; turn = turn }

-- the mark of these fields
abbrev pub fields : ℤ → ℤ → ℕ → ℕ → ℕ → ℕ → Mark
fields x y radius priority kind tag = record { x = x; y = y; radius = radius; priority = priority; kind = kind; tag = tag }

-- What a call that writes answers, `r`, and leaves in a buffer that held `before`.
pub record Gives (o : Outcome) (before : List ℕ) (r : Answer) (buffer : List ℕ) : Type 0 where
  pub answered : r ≡ answer_of o
  pub bytes : buffer ≡ after o before

-- What a call that answers `r` leaves in a work buffer that held `before`: a refused call has written nothing, and after a success only
-- the length is said.
pub record Lent (r : Answer) (before buffer : List ℕ) : Type 0 where
  pub long : length buffer ≡ length before
  pub refused : 0 < r.number → buffer ≡ before
