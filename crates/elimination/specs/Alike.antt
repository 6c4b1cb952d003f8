-- Marks that the process cannot tell apart, and the highest-ranked of many by themselves.
use Rattle.std.specs.Prelude.{ℕ, ◌<◌, ◌≡◌, ◌↔◌}
use Rattle.fractions.specs.declared.Fraction.{Fraction}
use Rattle.elimination.specs.Marks.{Marks}
use Rattle.elimination.specs.Process.{Removal, stays, gone}

-- As many marks, ranked in one order, with one pair value for each pair. The keys themselves may differ.
pub record Alike (M N : Marks) : Type 0 where
  pub counts : M.count ≡ N.count
  pub ranks : (i j : ℕ) → i < M.count → j < M.count → (M.key i < M.key j) ↔ (N.key i < N.key j)
  pub values : (i j : ℕ) → i < M.count → j < M.count → M.value i j ≡ N.value i j

-- ---- the highest-ranked marks

-- Marks f 0, .., f (c - 1) of M by themselves, numbered 0, .., c - 1.
abbrev pub among : Marks → ℕ → (ℕ → ℕ) → Marks
among M c f = record { count = c; key = λ i. M.key (f i); value = λ i j. M.value (f i) (f j) }

-- They are the c highest-ranked, each once, in any order: whoever outranks one of them is one of them.
pub record Top (M : Marks) (c : ℕ) (f : ℕ → ℕ) : Type 0 where
  pub inside : (i : ℕ) → i < c → f i < M.count
  pub once : (i j : ℕ) → i < c → j < c → f i ≡ f j → i ≡ j
  pub above : (i h : ℕ) → i < c → h < M.count → M.key h < M.key (f i) → (j : ℕ) × (j < c) × (f j ≡ h)

-- what becomes of a mark, its eliminator numbered by f
abbrev pub renumber : (ℕ → ℕ) → Removal → Removal
renumber f stays = stays
renumber f (gone j v) = gone (f j) v

-- One of f 0, .., f (c - 1) and one of g 0, .., g (c - 1) fare alike: both stay, or both go at one fraction, unreduced, by the j-th of the ones
-- and the j-th of the others.
pub data FareAlike (c : ℕ) (f g : ℕ → ℕ) : Removal → Removal → Type 0 where
  both_stay : FareAlike c f g stays stays
  both_gone : {j : ℕ} {v : Fraction} → j < c → FareAlike c f g (gone (f j) v) (gone (g j) v)
