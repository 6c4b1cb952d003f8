-- Columns that stand one behind the other may be filled side by side: what is written into one is left by the others. Assumes nothing.
use Rattle.std.specs.Prelude.{ℕ, suc, ◌+◌, ◌*◌, ◌≤◌, ◌<◌, ◌≡◌, List, [], ◌∷◌, ◌++◌, ◌⊎◌, length, set}
use Rattle.std.proofs.Math.Path.{refl}
use Rattle.std.proofs.Common.{sym, ap, ◌∙◌, inl, inr, mul-le-mul_left, add-one, arith}
use Rattle.std.proofs.lemmas.List.Edits.{sets}
use Rattle.std.proofs.lemmas.List.{set_comm}
use Rattle.std.proofs.Math.Seq.{length-sets}
use Rattle.lists.proofs.StoreLaws.{sets_append}
use Rattle.numbers.specs.Little.{le_bytes}
use Rattle.numbers.proofs.Laws.{le_length}
use Rattle.rows.specs.Rows.{rows}
use Rattle.columns.specs.declared.Fields.{Fields}
use Rattle.columns.specs.Columns.{Values, field, in_marks, column, as_columns, differences, places_by}
use Rattle.columns.specs.Steps.{Column, fields_at, placed, columns_of, filled_to, entered, alike}
use Rattle.columns.proofs.Lemmas.Reading.{column_length}
use Rattle.columns.proofs.Lemmas.Writing.{columns_sets}

-- ---- stores that do not meet

set_sets : (v l : List ℕ) (i j a : ℕ) → (j < i) ⊎ (i + length v ≤ j) → set (sets l i v) j a ≡ sets (set l j a) i v
set_sets [] l i j a h = refl
set_sets (b ∷ v) l i j a h =
    set_sets v (set l i b) (suc i) j a (elim h [ inl x ↦ inl (omega arith) | inr x ↦ inr (omega arith) ])
    ∙ ap (λ (k : List ℕ). sets k (suc i) v) (set_comm l i j b a (λ e. elim h [ inl x ↦ omega arith | inr x ↦ omega arith ]))

pub sets_swap : (w v l : List ℕ) (i j : ℕ) → i + length v ≤ j → sets (sets l i v) j w ≡ sets (sets l j w) i v
sets_swap [] v l i j h = refl
sets_swap (a ∷ w) v l i j h =
    ap (λ (k : List ℕ). sets k (suc j) w) (set_sets v l i j a (inr h)) ∙ sets_swap w v (set l j a) i (suc j) (omega arith)

-- ---- columns

-- n values of each stand behind `from`, and before the next one begins
abbrev pub Behind : ℕ → List Column → ℕ → Type 0
Behind from [] n = 0 ≤ n
Behind from (c ∷ cs) n = (from ≤ c.start) × Behind (c.start + c.width * n) cs n

pub filled_none : (cs : List Column) (l : List ℕ) → l ≡ filled_to cs 0 l
unfolding filled_to rows
filled_none [] l = refl
filled_none (c ∷ cs) l = filled_none cs l

-- what is written before them stays
before_them : (cs : List Column) (from n m : ℕ) (l u : List ℕ) (a : ℕ) → Behind from cs n → a + length u ≤ from
    → sets (filled_to cs m l) a u ≡ filled_to cs m (sets l a u)
unfolding filled_to
before_them [] from n m l u a b h = refl
before_them (c ∷ cs) from n m l u a b h =
    before_them cs (c.start + c.width * n) n m (sets l c.start (column c.width c.value m)) u a b.1 (omega (arith, b.0))
    ∙ ap (filled_to cs m) (sym (sets_swap (column c.width c.value m) u l a c.start (omega (arith, b.0))))

pub filled_more : (cs : List Column) (from n m : ℕ) (l : List ℕ) → Behind from cs n → m < n → entered cs m (filled_to cs m l) ≡ filled_to cs (suc m) l
unfolding filled_to entered rows
filled_more [] from n m l b h = refl
filled_more (c ∷ cs) from n m l b h =
    let w = c.width in
    let piece = le_bytes w (c.value m) in
    let done = column w c.value m in
    let room : c.start + w * m + length piece ≤ c.start + w * n =
    rw (le_length w (c.value m)) (omega (arith, mul-le-mul_left {m = suc m} {n = n} w h)) in
    let more : sets (sets l c.start done) (c.start + w * m) piece ≡ sets l c.start (done ++ piece) =
    sym (rw (column_length w c.value m) at (sets_append l c.start done piece)) in
    ap (entered cs m) (before_them cs (c.start + w * n) n m (sets l c.start done) piece (c.start + w * m) b.1 room)
    ∙ ap (λ (k : List ℕ). entered cs m (filled_to cs m k)) more
    ∙ filled_more cs (c.start + w * n) n m (sets l c.start (done ++ piece)) b.1 h

module _ (v : Values) (n : ℕ) where
  pub in_line : Behind 0 (columns_of v n) n
  in_line = (omega arith, (omega arith, (omega arith, (omega arith, (omega arith, (omega arith, omega arith))))))

  pub filled_all : (l : List ℕ) → filled_to (columns_of v n) n l ≡ sets l 0 (as_columns v n)
  unfolding filled_to
  filled_all l = columns_sets l v n refl refl refl refl refl refl

-- six stores are an entry of each column
pub entry_sets : (l₀ : List ℕ) {l₁ l₂ l₃ l₄ l₅ l₆ : List ℕ} (n m : ℕ) (v : Fields)
    → l₁ ≡ sets l₀ (2 * m) (le_bytes 2 v.x) → l₂ ≡ sets l₁ (2 * n + 2 * m) (le_bytes 2 v.y) → l₃ ≡ sets l₂ (4 * n + 2 * m) (le_bytes 2 v.radius)
    → l₄ ≡ sets l₃ (6 * n + 2 * m) (le_bytes 2 v.priority) → l₅ ≡ sets l₄ (8 * n + m) (le_bytes 1 v.kind) → l₆ ≡ sets l₅ (9 * n + 2 * m) (le_bytes 2 v.tag)
    → l₆ ≡ entered (columns_of (alike v) n) m l₀
unfolding entered
entry_sets l₀ n m v a b c d e f =
    let z : 0 + 2 * m ≡ 2 * m = omega arith in
    let o : 8 * n + 1 * m ≡ 8 * n + m = omega arith in
    rw (z, o, ← a, ← b, ← c, ← d, ← e) f

-- a turn of the loop that rearranges marks
pub entered_more : (s l₀ : List ℕ) (n m : ℕ) {f : Fields} {dx dy : ℕ} {l l' : List ℕ} → f ≡ fields_at s m → dx ≡ differences (field 2 0 s) m → dy ≡ differences (field 2 2 s) m → m < n
    → l ≡ filled_to (columns_of (places_by differences (in_marks s)) n) m l₀ → l' ≡ entered (columns_of (alike (placed f dx dy)) n) m l
    → l' ≡ filled_to (columns_of (places_by differences (in_marks s)) n) (m + 1) l₀
unfolding entered
entered_more s l₀ n m are a b h e f =
    let v = places_by differences (in_marks s) in
    rw (a, b, are, e) at f ∙ filled_more (columns_of v n) 0 n m l₀ (in_line v n) h ∙ rw (add-one m)

pub filled_length : (cs : List Column) (m : ℕ) (l : List ℕ) → length (filled_to cs m l) ≡ length l
unfolding filled_to
filled_length [] m l = refl
filled_length (c ∷ cs) m l = filled_length cs m _ ∙ length-sets l c.start (column c.width c.value m)
