-- Numbers written one after the other, read back one by one. Assumes nothing.
use Rattle.std.specs.Prelude.{ℕ, ◌+◌, ◌*◌, ◌^◌, ◌≤◌, ◌<◌, ◌≡◌, refl, List, [], ◌++◌, length}
use Rattle.std.proofs.Common.{sym, ap, ◌∙◌, append-nil, add-zero, add_assoc, arith}
use Rattle.std.proofs.lemmas.List.Edits.{sets}
use Rattle.std.proofs.Math.Seq.{length-sets}
use Rattle.lists.proofs.StoreLaws.{kept_sets}
use Rattle.numbers.specs.Little.{le_at, le_bytes}
use Rattle.numbers.proofs.Laws.{read_back_sets, number_kept, write_then}

module _ (s : List ℕ) (at : ℕ) (bytes : List ℕ) where
  -- `bytes`, written at `at`, are some numbers and then, from `o` bytes on, the rest
  abbrev pub Stage : ℕ → List ℕ → Type 0
  Stage o rest = (t : List ℕ) × (length t ≡ length s) × (sets s at bytes ≡ sets t (at + o) rest)

  pub stage_start : Stage 0 bytes
  stage_start = (s, refl, ap (λ i. sets s i bytes) (sym (add-zero at)))

  -- the number there
  pub stage_read : (o w v : ℕ) (rest : List ℕ) → Stage o (le_bytes w v ++ rest) → at + o + w ≤ length s → v < 2 ^ (8 * w)
      → le_at w (sets s at bytes) (at + o) ≡ v
  stage_read o w v rest (t, l, e) room small =
      ap (λ x. le_at w x (at + o)) (e ∙ write_then w v t (at + o) rest)
      ∙ number_kept (kept_sets rest (sets t (at + o) (le_bytes w v)) (at + o + w)) w (at + o) (omega arith)
      ∙ read_back_sets w t (at + o) v (omega arith) small

  -- what stands behind it
  pub stage_next : (o w v : ℕ) (rest : List ℕ) → Stage o (le_bytes w v ++ rest) → Stage (o + w) rest
  stage_next o w v rest (t, l, e) = (
    sets t (at + o) (le_bytes w v),
    length-sets t (at + o) (le_bytes w v) ∙ l,
    e ∙ write_then w v t (at + o) rest ∙ ap (λ i. sets (sets t (at + o) (le_bytes w v)) i rest) (add_assoc at o w),
  )

  -- the last one
  pub stage_last : (o w v : ℕ) → Stage o (le_bytes w v) → at + o + w ≤ length s → v < 2 ^ (8 * w) → le_at w (sets s at bytes) (at + o) ≡ v
  stage_last o w v (t, l, e) = stage_read o w v [] (t, l, e ∙ ap (sets t (at + o)) (sym (append-nil (le_bytes w v))))
