-- A mark and a record, written as three pieces.
use Rattle.std.specs.Prelude.{ℕ, ◌+◌, ◌-◌, ◌*◌, ◌≤◌, ◌≡◌, refl, List, nat_abs, length, take, drop}
use Rattle.std.proofs.Common.{ap, ◌∙◌, arith, length-append}
use Rattle.std.proofs.lemmas.List.Edits.{sets}
use Rattle.numbers.specs.Little.{le_at, le_bytes, signed}
use Rattle.numbers.proofs.Laws.{le_length}
use Rattle.marks.specs.Marks.{x_at, y_at}
use Rattle.rows.proofs.Laws.{cut_length, pieces_sets}
use Rattle.packed.specs.Packed.{coordinate_at, sign_of, packed_of, packed}
use Rattle.marks.specs.Marks.{place_bits}
use Rattle.logs.specs.Log.{mark_of_record, record_of_mark}

pub packed_length : (m sign : ℕ) → length (packed_of m sign) ≡ 3
unfolding packed_of
packed_length m sign = refl

pub mark_length : (s : List ℕ) (r : ℕ) → 13 * r + 13 ≤ length s → length (mark_of_record s r) ≡ 11
mark_length s r h = simp (length-append, le_length) (omega (arith, cut_length s 7 (13 * r + 6) (omega arith)))

pub record_length : (s : List ℕ) (m : ℕ) → 11 * m + 11 ≤ length s → length (record_of_mark s m) ≡ 13
record_length s m h = simp (length-append, packed_length) (omega (arith, cut_length s 7 (11 * m + 4) (omega arith)))

-- ---- one row

module _ (s l : List ℕ) {l₁ l₂ l₃ : List ℕ} where
  pub mark_put : (r : ℕ) {x y : ℕ} → x ≡ place_bits (coordinate_at s (13 * r)) → y ≡ place_bits (coordinate_at s (13 * r + 3))
      → l₁ ≡ sets l (11 * r) (le_bytes 2 x) → l₂ ≡ sets l₁ (11 * r + 2) (le_bytes 2 y)
      → l₃ ≡ sets l₂ (11 * r + 4) (take (13 * r + 13 - (13 * r + 6)) (drop (13 * r + 6) s)) → l₃ ≡ sets l (11 * r) (mark_of_record s r)
  mark_put r p q e f g =
      let seven : 13 * r + 13 - (13 * r + 6) ≡ 7 = omega arith in
      let x = place_bits (coordinate_at s (13 * r)) in
      let y = place_bits (coordinate_at s (13 * r + 3)) in
      pieces_sets l (le_bytes 2 x) (le_bytes 2 y) (take 7 (drop (13 * r + 6) s)) (11 * r)
      (rw (le_length 2 x), e ∙ ap (λ (v : ℕ). sets l (11 * r) (le_bytes 2 v)) p)
      (rw (le_length 2 y) (omega arith), f ∙ ap (λ (v : ℕ). sets l₁ (11 * r + 2) (le_bytes 2 v)) q)
      (rw seven at g)

  pub record_put : (m : ℕ) {x y : ℕ} → x ≡ le_at 2 s (11 * m) → y ≡ le_at 2 s (11 * m + 2)
      → l₁ ≡ sets l (13 * m) (packed (signed 2 x)) → l₂ ≡ sets l₁ (13 * m + 3) (packed (signed 2 y))
      → l₃ ≡ sets l₂ (13 * m + 6) (take (11 * m + 11 - (11 * m + 4)) (drop (11 * m + 4) s)) → l₃ ≡ sets l (13 * m) (record_of_mark s m)
  record_put m p q e f g =
      let seven : 11 * m + 11 - (11 * m + 4) ≡ 7 = omega arith in
      pieces_sets l (packed (x_at s m)) (packed (y_at s m)) (take 7 (drop (11 * m + 4) s)) (13 * m)
      (rw (packed_length (nat_abs (x_at s m)) (sign_of (x_at s m))), e ∙ ap (λ (v : ℕ). sets l (13 * m) (packed (signed 2 v))) p)
      (rw (packed_length (nat_abs (y_at s m)) (sign_of (y_at s m))) (omega arith), f ∙ ap (λ (v : ℕ). sets l₁ (13 * m + 3) (packed (signed 2 v))) q)
      (rw seven at g)
