-- Tests: one that holds of every number below n, one as a number, how many numbers pass one, and which.
use Rattle.std.specs.Prelude.{ℕ, zero, suc, ◌+◌, Bool, true, false, cond, ◌&&◌, List, [], ◌∷◌}

-- `test` holds of every number below n
unfoldable pub every : (ℕ → Bool) → ℕ → Bool
every test zero = true
every test (suc n) = every test n && test n

abbrev pub bit : Bool → ℕ
bit true = 1
bit false = 0

-- how many of the numbers below n pass
unfoldable pub how_many : (ℕ → Bool) → ℕ → ℕ
how_many test zero = 0
how_many test (suc n) = how_many test n + bit (test n)

-- those of the `left` numbers from m on that pass, rising
unfoldable pub passing : (ℕ → Bool) → ℕ → ℕ → List ℕ
passing test zero m = []
passing test (suc left) m = cond (test m) (m ∷ passing test left (suc m)) (passing test left (suc m))
