-- Pieces written one after the other, and what the loops keep of the mark before.
use Rattle.std.specs.Prelude.{ℕ, zero, suc, ◌+◌, ◌-◌, ◌*◌, ◌%◌, ◌≤◌, ◌<◌, ◌≡◌, refl, List, ◌++◌}
use Rattle.std.proofs.Math.Path.{ap}
use Rattle.std.proofs.Common.{◌∙◌, zero-add, add-one, arith}
use Rattle.std.proofs.Math.ListN.{length}
use Rattle.std.proofs.lemmas.List.Edits.{sets}
use Rattle.std.proofs.Math.Seq.{length-sets}
use Rattle.numbers.specs.Little.{le_bytes}
use Rattle.numbers.proofs.Laws.{le_length}
use Rattle.lists.proofs.StoreLaws.{sets_append}
use Rattle.rows.specs.Rows.{rows}
use Rattle.columns.specs.declared.Fields.{Fields}
use Rattle.columns.specs.Columns.{Values, mark_of, column, as_columns, differences, sums}
use Rattle.columns.specs.Steps.{mark_with, Laid, Kept}
use Rattle.columns.proofs.Lemmas.Pieces.{pieces_length}
use Rattle.columns.proofs.Lemmas.Reading.{column_length, mark_length}

-- ---- a loop that writes a piece each turn

pub laid_none : (l : List ℕ) (start : ℕ) (piece : ℕ → List ℕ) (n : ℕ) → Laid l start piece n l 0
unfolding rows
laid_none l start piece n = record { within = omega arith; long = refl; laid = refl }

module _ (w : ℕ) (piece : ℕ → List ℕ) (sized : (m : ℕ) → length (piece m) ≡ w) {l₀ l : List ℕ} {start n m : ℕ} (d : Laid l₀ start piece n l m) where
  pub laid_more : {l' : List ℕ} {at : ℕ} {bytes : List ℕ} → m < n → at ≡ start + w * m → bytes ≡ piece m → l' ≡ sets l at bytes
      → Laid l₀ start piece n l' (m + 1)
  unfolding rows
  laid_more {l'} {at} {bytes} h a b e =
      record {
        within = omega arith;
        long = ap length e ∙ length-sets l at bytes ∙ d.long;
        laid =
            rw (add-one m, sets_append l₀ start (rows piece m) (piece m), pieces_length w piece sized m)
            (rw (← d.laid, ← a, ← b) e);
      }

pub laid_all : {l₀ l : List ℕ} {start n m : ℕ} {piece : ℕ → List ℕ} → Laid l₀ start piece n l m → n ≤ m → l ≡ sets l₀ start (rows piece n)
laid_all {l₀} {l} {start} {n} {m} {piece} d h =
    let e : m ≡ n = omega (arith, d.within) in
    d.laid ∙ rw e

-- of a column
pub column_more : (w : ℕ) (value : ℕ → ℕ) {l₀ l l' : List ℕ} {start n m at v : ℕ} → Laid l₀ start (λ k. le_bytes w (value k)) n l m
    → m < n → at ≡ start + w * m → v ≡ value m → l' ≡ sets l at (le_bytes w v) → Laid l₀ start (λ k. le_bytes w (value k)) n l' (m + 1)
column_more w value d h a e = laid_more w (λ k. le_bytes w (value k)) (λ k. le_length w (value k)) d h a (ap (le_bytes w) e)

-- of marks
pub marks_more : (v : Values) {l₀ l l' bytes : List ℕ} {n m : ℕ} → Laid l₀ 0 (mark_of v) n l m
    → m < n → bytes ≡ mark_of v m → l' ≡ sets l (11 * m) bytes → Laid l₀ 0 (mark_of v) n l' (m + 1)
marks_more v d h b = laid_more 11 (mark_of v) (mark_length v) d h (omega arith) b

-- ---- the mark before

module _ (value : ℕ → ℕ) where
  pub kept_none : Kept value 0 0
  kept_none = record { small = omega arith; last_is = refl }

  pub kept_more : (m : ℕ) {last : ℕ} → last < 65536 → last ≡ value m → Kept value last (m + 1)
  kept_more m h e = record { small = h; last_is = e ∙ rw (add-one m) }

pub difference : (value : ℕ → ℕ) (m : ℕ) {last v : ℕ} → Kept value last m → v ≡ value m → v < 65536
    → (v + (65536 - last)) % 65536 ≡ differences value m
unfolding differences
difference value zero k e h = omega (arith, k.last_is)
difference value (suc m) k e h = omega (arith, k.last_is, k.small, e)

pub sum : (value : ℕ → ℕ) (m : ℕ) {last v : ℕ} → Kept (sums value) last m → v ≡ value m → v < 65536
    → (last + v) % 65536 ≡ sums value m
unfolding sums
sum value zero k e h = omega (arith, k.last_is)
sum value (suc m) k e h = rw (k.last_is, e)

-- ---- six runs

pub values_sets : (l₀ : List ℕ) {l₁ l₂ l₃ l₄ l₅ l₆ : List ℕ} (at : ℕ) (v : Fields)
    → l₁ ≡ sets l₀ at (le_bytes 2 v.x) → l₂ ≡ sets l₁ (at + 2) (le_bytes 2 v.y) → l₃ ≡ sets l₂ (at + 4) (le_bytes 2 v.radius)
    → l₄ ≡ sets l₃ (at + 6) (le_bytes 2 v.priority) → l₅ ≡ sets l₄ (at + 8) (le_bytes 1 v.kind) → l₆ ≡ sets l₅ (at + 9) (le_bytes 2 v.tag)
    → l₆ ≡ sets l₀ at (mark_with v)
values_sets l₀ {l₁} {l₂} {l₃} {l₄} at v a b c d e f =
    let tags = le_bytes 2 v.tag in
    let kinds = le_bytes 1 v.kind ++ tags in
    let priorities = le_bytes 2 v.priority ++ kinds in
    let radii = le_bytes 2 v.radius ++ priorities in
    f
    ∙ behind l₄ 8 1 (le_bytes 1 v.kind) tags (le_length 1 v.kind) e
    ∙ behind l₃ 6 2 (le_bytes 2 v.priority) kinds (le_length 2 v.priority) d
    ∙ behind l₂ 4 2 (le_bytes 2 v.radius) priorities (le_length 2 v.radius) c
    ∙ behind l₁ 2 2 (le_bytes 2 v.y) radii (le_length 2 v.y) b
    ∙ rw (a, sets_append l₀ at (le_bytes 2 v.x), le_length 2 v.x)
  where
    -- a run, and what stands behind it
    behind : (l : List ℕ) (k w : ℕ) (run rest : List ℕ) {l' : List ℕ} → length run ≡ w → l' ≡ sets l (at + k) run
        → sets l' (at + (k + w)) rest ≡ sets l (at + k) (run ++ rest)
    behind l k w run rest s g =
        let e : at + (k + w) ≡ at + k + w = omega arith in
        rw (g, e, sets_append l (at + k) run rest, s)

pub columns_sets : (l₀ : List ℕ) {l₁ l₂ l₃ l₄ l₅ l₆ : List ℕ} (v : Values) (n : ℕ)
    → l₁ ≡ sets l₀ 0 (column 2 v.x n) → l₂ ≡ sets l₁ (2 * n) (column 2 v.y n) → l₃ ≡ sets l₂ (4 * n) (column 2 v.radius n)
    → l₄ ≡ sets l₃ (6 * n) (column 2 v.priority n) → l₅ ≡ sets l₄ (8 * n) (column 1 v.kind n)
    → l₆ ≡ sets l₅ (9 * n) (column 2 v.tag n)
    → l₆ ≡ sets l₀ 0 (as_columns v n)
unfolding as_columns
columns_sets l₀ {l₁} {l₂} {l₃} {l₄} v n a b c d e f =
    let tags = column 2 v.tag n in
    let kinds = column 1 v.kind n ++ tags in
    let priorities = column 2 v.priority n ++ kinds in
    let radii = column 2 v.radius n ++ priorities in
    f
    ∙ behind l₄ 8 1 9 v.kind tags (omega arith) e
    ∙ behind l₃ 6 2 8 v.priority kinds (omega arith) d
    ∙ behind l₂ 4 2 6 v.radius priorities (omega arith) c
    ∙ behind l₁ 2 2 4 v.y radii (omega arith) b
    ∙ rw (a, sets_append l₀ 0 (column 2 v.x n), column_length 2 v.x n, zero-add (2 * n))
  where
    behind : (l : List ℕ) (k w next : ℕ) (value : ℕ → ℕ) (rest : List ℕ) {l' : List ℕ} → next * n ≡ k * n + w * n → l' ≡ sets l (k * n) (column w value n)
        → sets l' (next * n) rest ≡ sets l (k * n) (column w value n ++ rest)
    behind l k w next value rest s g = rw (g, s, sets_append l (k * n) (column w value n) rest, column_length w value n)
