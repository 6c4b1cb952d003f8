-- What the process, the rules and uniqueness are stated over: marks of any rank and any symmetric pair value.
-- Disks, squares and popups are cases (Cases), and so is a sheet (Sheet).
use Rattle.std.specs.Prelude.{ℕ, ◌<◌, ◌≡◌}
use Rattle.fractions.specs.declared.Fraction.{Fraction}

-- Marks 0, .., count - 1. The smaller a mark's key, the higher its rank; `value i j` is where i and j touch first.
pub record Marks : Type 0 where
  pub count : ℕ
  pub key : ℕ → ℕ
  pub value : ℕ → ℕ → Fraction

-- No two marks have one rank, and the pair value is a symmetric fraction with a denominator above 0.
pub record Proper (M : Marks) : Type 0 where
  pub distinct : (i j : ℕ) → i < M.count → j < M.count → M.key i ≡ M.key j → i ≡ j
  pub positive : (i j : ℕ) → 0 < (M.value i j).den
  pub symmetric : (i j : ℕ) → M.value i j ≡ M.value j i
