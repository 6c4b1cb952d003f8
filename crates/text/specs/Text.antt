-- Numbers as text.
use Rattle.std.specs.Prelude.{ℕ, zero, suc, ◌+◌, ◌-◌, ◌*◌, ◌/◌, ◌%◌, ◌≡◌, cond, List, [], ◌∷◌, ◌++◌, length, ltb}
use Rattle.std.proofs.lemmas.List.Edits.{sets}

-- the decimal digits of v, which has at most `width` of them
unfoldable pub digits : ℕ → ℕ → List ℕ
digits zero v = []
digits (suc width) v = cond (ltb v 10) [] (digits width (v / 10)) ++ ((48 + v % 10) ∷ [])

-- a number of up to 8 bytes has at most 20 digits
abbrev pub most_digits : ℕ
most_digits = 20

abbrev pub decimal : ℕ → List ℕ
decimal v = digits most_digits v

-- the room that a number and one byte behind it may take
abbrev pub number_room : ℕ
number_room = most_digits + 1

-- the number that decimal digits denote, the highest first, where those before them denote v
unfoldable pub denoted : ℕ → List ℕ → ℕ
denoted v [] = v
denoted v (d ∷ rest) = denoted (10 * v + (d - 48)) rest

-- `after` is `before` with these bytes at `at`, and `next` is behind them
pub record Wrote (before after : List ℕ) (at : ℕ) (bytes : List ℕ) (next : ℕ) : Type 0 where
  pub holds : after ≡ sets before at bytes
  pub ends : next ≡ at + length bytes
