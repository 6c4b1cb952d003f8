-- What the rows of no turn and of one quarter turn make of a column; small numbers and grids. Assumes nothing.
use Rattle.std.specs.Prelude.{ℕ, zero, suc, ◌≤◌, ◌≡◌, [], ◌∷◌, get_or, ℤ, pos, negsuc, neg_ℤ, nat_abs, ◌+ℤ◌, ◌*ℤ◌}
use Rattle.std.proofs.Common.{ap, ap₂, ◌∙◌, arith}
use Rattle.std.proofs.Math.IntN.{+ℤ_idl, +ℤ_idr, zero-*ℤ}
use Rattle.turns.specs.declared.Place.{Place}
use Rattle.turns.specs.Small.{UpTo, SmallRow, Small}
use Rattle.turns.proofs.Lemmas.Whole.{one_times, neg_times, abs_neg}

abbrev pub placed : ℤ → ℤ → Place
placed a b = record { x = a; y = b }

-- ---- the rows of the two grids by the column u, v

pub by_1_0 : (u v : ℤ) → pos 1 *ℤ u +ℤ pos 0 *ℤ v ≡ u
by_1_0 u v = ap₂ ◌+ℤ◌ (one_times u) (zero-*ℤ v) ∙ +ℤ_idr u

pub by_0_1 : (u v : ℤ) → pos 0 *ℤ u +ℤ pos 1 *ℤ v ≡ v
by_0_1 u v = ap₂ ◌+ℤ◌ (zero-*ℤ u) (one_times v) ∙ +ℤ_idl v

pub by_0_minus_1 : (u v : ℤ) → pos 0 *ℤ u +ℤ negsuc 0 *ℤ v ≡ neg_ℤ v
by_0_minus_1 u v =
    ap₂ ◌+ℤ◌ (zero-*ℤ u) (neg_times (pos 1) v ∙ ap neg_ℤ (one_times v)) ∙ +ℤ_idl (neg_ℤ v)

-- ---- small numbers and grids

pub up_to : {n : ℕ} {z : ℤ} → nat_abs z ≤ n → UpTo n z
up_to h = record { most = h }

pub up_to_neg : {n : ℕ} {z : ℤ} → UpTo n z → UpTo n (neg_ℤ z)
up_to_neg {z = z} h = up_to (rw (abs_neg z) h.most)

pub up_to_grows : {m n : ℕ} {z : ℤ} → m ≤ n → UpTo m z → UpTo n z
up_to_grows l h = up_to (omega (arith, h.most))

row_small : {a b : ℤ} → UpTo 16383 a → UpTo 16383 b → SmallRow (a ∷ b ∷ [])
row_small {a} {b} p q = record { each = each }
  where
    each : (j : ℕ) → UpTo 16383 (get_or (a ∷ b ∷ []) j (pos 0))
    each zero = p
    each (suc zero) = q
    each (suc (suc j)) = up_to (omega arith)

pub grid_small : {a b c d : ℤ} → UpTo 16383 a → UpTo 16383 b → UpTo 16383 c → UpTo 16383 d
    → Small ((a ∷ b ∷ []) ∷ (c ∷ d ∷ []) ∷ [])
grid_small {a} {b} {c} {d} p q r s = record { rows = rows }
  where
    rows : (i : ℕ) → SmallRow (get_or ((a ∷ b ∷ []) ∷ (c ∷ d ∷ []) ∷ []) i [])
    rows zero = row_small p q
    rows (suc zero) = row_small r s
    rows (suc (suc i)) = record { each = λ j. up_to (omega arith) }
