-- What a run of stores leaves: it starts at the front of a buffer, or it keeps to a range of places.
use Rattle.std.specs.Prelude.{ℕ, ◌+◌, ◌≤◌, min, max, ◌≡◌, List, ◌++◌, length, get_or, drop}

-- "Bytes past a written result stay untouched": `w` at the start of a buffer.
unfoldable pub over : List ℕ → List ℕ → List ℕ
over w buffer = w ++ drop (length w) buffer

-- The w places at p and those from a to b - 1 do not meet: whichever ends first ends before the other starts.
pub record Clear (p w a b : ℕ) : Type 0 where
  pub clear : min (p + w) b ≤ max p a

-- t is s but for the places from a to b - 1
pub record Kept (s t : List ℕ) (a b : ℕ) : Type 0 where
  pub long : length t ≡ length s
  pub rest : (p : ℕ) → Clear p 1 a b → get_or t p 0 ≡ get_or s p 0
