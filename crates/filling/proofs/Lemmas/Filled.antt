-- Each piece of a filled mark is found again: its radius is that of the old table, and all else is the mark's own.
use Rattle.std.specs.Prelude.{ℕ, ◌+◌, ◌-◌, ◌*◌, ◌<◌, ◌≤◌, ◌≡◌, refl, List, ◌++◌, length, take, drop}
use Rattle.std.proofs.Common.{sym, ap, ◌∙◌, arith, length-append, le-leb, ne_eqb, eq-eqb}
use Rattle.std.proofs.lemmas.List.Edits.{sets}
use Rattle.std.proofs.Math.Decide.{dec_lt}
use Rattle.numbers.specs.Little.{le_bytes}
use Rattle.numbers.proofs.Laws.{le_length}
use Rattle.marks.specs.Marks.{radius_at, kind_at, used_at, old_radius, is_radius, used_radius}
use Rattle.marks.specs.Good.{GoodMark, GoodMarks}
use Rattle.marks.proofs.Laws.{used_bound, old_positive, old_bound}
use Rattle.rows.specs.Rows.{rows}
use Rattle.rows.proofs.Laws.{rows_length, rows_at, rows_whole, field_le, le_found, cut_length, Pieces, pieces_of, pieces, pieces_sets}
use Rattle.parts.specs.Questions.{mark_count}
use Rattle.filling.specs.Filling.{filled_radius, filled_mark}

-- ---- the radius that is written

filled_of : (radius kind : ℕ) → 0 < radius → filled_radius radius kind ≡ radius
unfolding filled_radius
filled_of radius kind h = rw (ne_eqb radius 0 (omega arith))

filled_zero : (radius kind : ℕ) → radius ≡ 0 → filled_radius radius kind ≡ old_radius kind
unfolding filled_radius
filled_zero radius kind e = rw (eq-eqb radius 0 e)

filled_positive : (radius kind : ℕ) → 0 < filled_radius radius kind
filled_positive radius kind =
    elim (dec_lt 0 radius) [
      | yes l ↦ omega (arith, filled_of radius kind l)
      | no l ↦ omega (arith, filled_zero radius kind (omega arith), old_positive kind)
    ]

filled_bound : (radius kind : ℕ) → radius ≤ 16383 → filled_radius radius kind ≤ 16383
filled_bound radius kind h =
    elim (dec_lt 0 radius) [
      | yes l ↦ omega (arith, filled_of radius kind l)
      | no l ↦ omega (arith, filled_zero radius kind (omega arith), old_bound kind)
    ]

-- ---- one mark written

pub mark_length : (s : List ℕ) (m : ℕ) → 11 * m + 11 ≤ length s → length (filled_mark s m) ≡ 11
mark_length s m h =
    simp (length-append, le_length)
    (omega (arith, cut_length s 4 (11 * m) (omega arith), cut_length s 5 (11 * m + 6) (omega arith)))

-- ---- the marks s, of which there are n

module _ (s : List ℕ) (n : ℕ) (good : GoodMarks s n) where
  abbrev full : List ℕ
  full = rows (filled_mark s) n

  row_long : (i : ℕ) → i < n → length (filled_mark s i) ≡ 11
  row_long i l = mark_length s i (omega (arith, good.there))

  pub full_long : length full ≡ 11 * n
  full_long = rows_length (filled_mark s) 11 n row_long

  module _ (i : ℕ) (l : i < n) where
    abbrev radius : ℕ
    radius = filled_radius (radius_at s i) (kind_at s i)

    found : Pieces full (take 4 (drop (11 * i) s)) (le_bytes 2 radius) (take 5 (drop (11 * i + 6) s)) 4 2 5 (11 * i)
    found =
        pieces_of full (take 4 (drop (11 * i) s)) (le_bytes 2 radius) (take 5 (drop (11 * i + 6) s)) 4 2 5 (11 * i)
        (cut_length s 4 (11 * i) (omega (arith, good.there))) (le_length 2 radius) (omega (arith, full_long))
        (rows_at (filled_mark s) 11 n i row_long l)

    pub radius_is : radius_at full i ≡ radius
    radius_is =
        le_found 2 full (11 * i + 4) radius (omega (arith, filled_bound (radius_at s i) (kind_at s i) (good.each i l).radius)) found.second

    kind_is : kind_at full i ≡ kind_at s i
    kind_is =
        let t : List ℕ = take 5 (drop (11 * i + 6) s) in
        let eight : 11 * i + 6 + 2 ≡ 11 * i + 8 = omega arith in
        rw (← eight) (field_le full t 5 (11 * i + 6) found.third 1 2 (omega arith) ∙ sym (field_le s t 5 (11 * i + 6) refl 1 2 (omega arith)))

    pub radius_some : 0 < radius_at full i
    radius_some = rw radius_is (filled_positive (radius_at s i) (kind_at s i))

    -- it is the one that counts
    pub used_is : used_at full i ≡ radius
    unfolding used_radius
    used_is = rw (ne_eqb (radius_at full i) 0 (omega (arith, radius_some))) radius_is

    mark_good : GoodMark full i
    unfolding is_radius
    mark_good =
        let r = good.each i l in
        let small : radius_at full i ≤ 16383 = rw radius_is (filled_bound (radius_at s i) (kind_at s i) r.radius) in
        record { kind = rw kind_is r.kind; radius = small; used = used_bound _ _ (le-leb _ 16383 small) }

    -- filled again it is the same
    mark_again : filled_mark full i ≡ take 11 (drop (11 * i) full)
    mark_again =
        let same : filled_radius (radius_at full i) (kind_at full i) ≡ radius = filled_of (radius_at full i) (kind_at full i) radius_some ∙ radius_is in
        ap (λ (v : ℕ). take 4 (drop (11 * i) full) ++ (le_bytes 2 v ++ take 5 (drop (11 * i + 6) full))) same
        ∙ ap (λ (w : List ℕ). take 4 (drop (11 * i) full) ++ (w ++ take 5 (drop (11 * i + 6) full))) (sym found.second)
        ∙ pieces full (11 * i) 4 2 5

  pub full_good : GoodMarks full n
  full_good = record { few = good.few; there = omega (arith, full_long); each = mark_good }

  pub full_count : mark_count full ≡ n
  full_count = omega (arith, full_long)

  pub full_again : rows (filled_mark full) n ≡ full
  full_again = rows_whole (filled_mark full) 11 full n full_long mark_again

-- ---- what the code stores for mark m

pub mark_put : (s l : List ℕ) {l₁ l₂ l₃ : List ℕ} (m : ℕ) {v : ℕ} → 11 * m + 11 ≤ length s → v ≡ filled_radius (radius_at s m) (kind_at s m)
    → l₁ ≡ sets l (11 * m) (take (11 * m + 4 - 11 * m) (drop (11 * m) s)) → l₂ ≡ sets l₁ (11 * m + 4) (le_bytes 2 v)
    → l₃ ≡ sets l₂ (11 * m + 6) (take (11 * m + 11 - (11 * m + 6)) (drop (11 * m + 6) s)) → l₃ ≡ sets l (11 * m) (filled_mark s m)
mark_put s l {l₁} m h p e f g =
    let four : 11 * m + 4 - 11 * m ≡ 4 = omega arith in
    let five : 11 * m + 11 - (11 * m + 6) ≡ 5 = omega arith in
    pieces_sets l (take 4 (drop (11 * m) s)) (le_bytes 2 (filled_radius (radius_at s m) (kind_at s m))) (take 5 (drop (11 * m + 6) s)) (11 * m)
    (rw (cut_length s 4 (11 * m) (omega arith)), rw four at e)
    (rw (le_length 2 (filled_radius (radius_at s m) (kind_at s m))) (omega arith), f ∙ ap (λ (u : ℕ). sets l₁ (11 * m + 4) (le_bytes 2 u)) p)
    (rw five at g)
