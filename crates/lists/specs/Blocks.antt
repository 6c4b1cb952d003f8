-- Numbers by their places. `e i` is what stands at place i.
use Rattle.std.specs.Prelude.{ℕ, zero, suc, List, [], ◌∷◌}

-- what stands at the `size` places from `lo` on
abbrev pub block : (ℕ → ℕ) → ℕ → ℕ → List ℕ
block e lo zero = []
block e lo (suc size) = e lo ∷ block e (suc lo) size

-- the numbers below n
abbrev pub up_to : ℕ → List ℕ
up_to n = block (λ i. i) 0 n
