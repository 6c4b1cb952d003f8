-- 01, "Questions put in turn".
use Rattle.std.specs.Prelude.{ℕ, zero, suc, Bool, true, cond, List, [], ◌∷◌, ◌++◌}

-- a question's number, and whether the answer is 'yes'
pub record Question : Type 0 where
  pub number : ℕ
  pub holds : Bool

infix 20 ◌asks◌
abbrev pub ◌asks◌ : ℕ → Bool → Question
number asks test = record { number = number; holds = test }

-- "0 is success. The first 'no' gives its number."
unfoldable pub answer : List Question → ℕ
answer [] = 0
answer (q ∷ rest) = cond q.holds (answer rest) q.number

-- the questions of one thing after another, of the first n
unfoldable pub in_turn : (ℕ → List Question) → ℕ → List Question
in_turn ask zero = []
in_turn ask (suc n) = in_turn ask n ++ ask n

-- a question about something that may be missing
abbrev pub if_there : Bool → Bool → Bool
if_there there test = cond there test true
