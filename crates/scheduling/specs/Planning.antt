-- How a row comes into a cell.
use Rattle.std.specs.Prelude.{ℕ, ◌≡◌, List, ◌⊎◌}
use Rattle.fractions.specs.declared.Fraction.{Fraction}
use Rattle.marks.specs.declared.Label.{Label}
use Rattle.grid.specs.Steps.{LinkPut, Added}

-- v is w with row p, of this label and removal value, in cell c, or, where it is removed at 0, in none
abbrev pub Entered : List ℕ → List ℕ → ℕ → ℕ → ℕ → ℕ → Label → Fraction → Type 0
Entered w v at groups p c a f = (LinkPut w v at groups p 0 × (f.num ≡ 0)) ⊎ Added w v at groups p c a f
