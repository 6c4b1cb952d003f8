-- Both turns, record by record: each piece of a row is found again in the rows, and turned back.
use Rattle.std.specs.Prelude.{ℕ, suc, ◌+◌, ◌*◌, ◌<◌, ◌≤◌, ◌≡◌, refl, true, List, [], ◌∷◌, ◌++◌, ℤ, length, get_or, take, drop}
use Rattle.std.proofs.Common.{sym, ap, ap₂, ◌∙◌, arith, drop-cons, le-leb}
use Rattle.numbers.specs.Little.{le_at, le_bytes, signed, Bytes}
use Rattle.numbers.proofs.Laws.{le_length, le_bound, write_back}
use Rattle.marks.specs.Marks.{x_at, y_at, place_bits, is_radius}
use Rattle.marks.specs.Good.{GoodMark, GoodMarks}
use Rattle.marks.proofs.Laws.{used_bound}
use Rattle.marks.proofs.FieldLaws.{bits_bound, signed_bits, bits_signed}
use Rattle.rows.specs.Rows.{rows}
use Rattle.rows.proofs.Laws.{rows_length, rows_at, rows_whole, field_le, field_get, le_found, Pieces, pieces_of, pieces}
use Rattle.parts.specs.Questions.{mark_count}
use Rattle.packed.specs.Packed.{coordinate_at, packed_at, is_place, packed}
use Rattle.packed.proofs.Laws.{packed_back, packed_read, place_mag, place_short, signed_place}
use Rattle.logs.specs.Log.{record_count, mark_of_record, record_of_mark}
use Rattle.logs.specs.Right.{PlaceRight, RecordRight, LogRight}
use Rattle.logs.proofs.Lemmas.Writing.{packed_length, mark_length, record_length}

-- ---- a coordinate that is found

pub three : (s : List ℕ) (at : ℕ) → at + 3 ≤ length s
    → get_or s at 0 ∷ get_or s (at + 1) 0 ∷ get_or s (at + 2) 0 ∷ [] ≡ take 3 (drop at s)
three s at h =
    let e : at + 1 ≡ suc at = omega arith in
    let f : at + 2 ≡ suc (suc at) = omega arith in
    rw (e, f, drop-cons s at 0 (omega arith), drop-cons s (suc at) 0 (omega arith), drop-cons s (suc (suc at)) 0 (omega arith))

-- a coordinate reads as the three bytes found
three_same : (s t : List ℕ) (at : ℕ) → get_or s at 0 ≡ get_or t 0 0 → get_or s (at + 1) 0 ≡ get_or t 1 0 → get_or s (at + 2) 0 ≡ get_or t 2 0
    → (packed_at s at ≡ packed_at t 0) × (coordinate_at s at ≡ coordinate_at t 0)
three_same s t at e f g = (rw (e, f, g), rw (e, f, g))

-- so it passes 15 and 16
module _ (s : List ℕ) (at : ℕ) (z : ℤ) (place : is_place z ≡ true) (e : take 3 (drop at s) ≡ packed z) where
  same : (packed_at s at ≡ packed_at (packed z) 0) × (coordinate_at s at ≡ coordinate_at (packed z) 0)
  same =
      let none : at + 0 ≡ at = omega arith in
      three_same s (packed z) at (rw none at (field_get s (packed z) 3 at e 0 (omega arith)))
      (field_get s (packed z) 3 at e 1 (omega arith)) (field_get s (packed z) 3 at e 2 (omega arith))

  place_found : coordinate_at s at ≡ z
  place_found = same.1 ∙ (packed_read z (place_short z place)).1

  place_right : PlaceRight s at
  place_right = record { packed = same.0 ∙ (packed_read z (place_short z place)).0; place = rw place_found place }

-- ---- a piece of a row of `s` at `from`, found at `at` in `w`

-- the same 7 bytes have the same radius and kind
fields_same : (w s : List ℕ) (at p from q : ℕ) → take 7 (drop (at + p) w) ≡ take 7 (drop (from + q) s)
    → (le_at 2 w (at + p) ≡ le_at 2 s (from + q)) × (le_at 1 w (at + (p + 4)) ≡ le_at 1 s (from + (q + 4)))
fields_same w s at p from q e = (same 2 0 (omega arith) (omega arith) (omega arith), same 1 4 (omega arith) (omega arith) (omega arith))
  where
    same : (k j : ℕ) → j + k ≤ 7 → {a f : ℕ} → at + p + j ≡ a → from + q + j ≡ f → le_at k w a ≡ le_at k s f
    same k j h e₁ e₂ =
        rw (← e₁, ← e₂)
        (field_le w (take 7 (drop (from + q) s)) 7 (at + p) e k j h ∙ sym (field_le s (take 7 (drop (from + q) s)) 7 (from + q) refl k j h))

module _ (w s : List ℕ) (at from : ℕ) where
  -- a coordinate's 16 bits are packed as it was
  packed_again : PlaceRight s from → from + 3 ≤ length s → take 2 (drop at w) ≡ le_bytes 2 (place_bits (coordinate_at s from))
      → packed (signed 2 (le_at 2 w at)) ≡ take 3 (drop from s)
  packed_again p fits e =
      let z = coordinate_at s from in
      let mag = place_mag z p.place in
      ap (λ (u : ℕ). packed (signed 2 u)) (le_found 2 w at (place_bits z) (bits_bound z mag) e)
      ∙ ap packed (signed_bits z mag) ∙ packed_back _ _ _ p.packed ∙ three s from fits

  -- and a packed one has the bits it had
  bits_again : Bytes s → from + 2 ≤ length s → take 3 (drop at w) ≡ packed (signed 2 (le_at 2 s from))
      → le_bytes 2 (place_bits (coordinate_at w at)) ≡ take 2 (drop from s)
  bits_again bytes fits e =
      let low = le_bound 2 s from bytes in
      ap (λ (z : ℤ). le_bytes 2 (place_bits z)) (place_found w at (signed 2 (le_at 2 s from)) (signed_place _ low) e)
      ∙ ap (le_bytes 2) (bits_signed _ low) ∙ write_back 2 s from bytes fits

-- ---- logs into marks and back

module _ (s : List ℕ) (n : ℕ) (right : LogRight s n) where
  abbrev marks : List ℕ
  marks = rows (mark_of_record s) n

  row_long : (i : ℕ) → i < n → length (mark_of_record s i) ≡ 11
  row_long i l = mark_length s i (omega (arith, right.long))

  pub marks_long : length marks ≡ 11 * n
  marks_long = rows_length (mark_of_record s) 11 n row_long

  module _ (i : ℕ) (l : i < n) where
    abbrev x : ℤ
    x = coordinate_at s (13 * i)

    abbrev y : ℤ
    y = coordinate_at s (13 * i + 3)

    found : Pieces marks (le_bytes 2 (place_bits x)) (le_bytes 2 (place_bits y)) (take 7 (drop (13 * i + 6) s)) 2 2 7 (11 * i)
    found =
        pieces_of marks (le_bytes 2 (place_bits x)) (le_bytes 2 (place_bits y)) (take 7 (drop (13 * i + 6) s)) 2 2 7 (11 * i) (le_length 2 (place_bits x)) (le_length 2 (place_bits y))
        (omega (arith, marks_long)) (rows_at (mark_of_record s) 11 n i row_long l)

    -- the fields behind the places are the record's own
    mark_good : GoodMark marks i
    unfolding is_radius
    mark_good =
        let r = right.each i l in
        let (radius, kind) = fields_same marks s (11 * i) 4 (13 * i) 6 found.third in
        let small : le_at 2 marks (11 * i + 4) ≤ 16383 = omega (arith, r.radius) in
        record { kind = omega (arith, r.kind); radius = small; used = used_bound _ _ (le-leb _ 16383 small) }

    x_again : packed (x_at marks i) ≡ take 3 (drop (13 * i) s)
    x_again = packed_again marks s (11 * i) (13 * i) (right.each i l).x (omega (arith, right.long)) found.first

    y_again : packed (y_at marks i) ≡ take 3 (drop (13 * i + 3) s)
    y_again = packed_again marks s (11 * i + 2) (13 * i + 3) (right.each i l).y (omega (arith, right.long)) found.second

    record_again : record_of_mark marks i ≡ take 13 (drop (13 * i) s)
    record_again = ap₂ ◌++◌ x_again (ap₂ ◌++◌ y_again found.third) ∙ pieces s (13 * i) 3 3 7

  pub marks_good : GoodMarks marks n
  marks_good = record { few = right.few; there = omega (arith, marks_long); each = mark_good }

  pub marks_count : mark_count marks ≡ n
  marks_count = omega (arith, marks_long)

  pub log_is : rows (record_of_mark marks) n ≡ s
  log_is = rows_whole (record_of_mark marks) 13 s n right.long record_again

-- ---- marks into logs and back

module _ (s : List ℕ) (n : ℕ) (good : GoodMarks s n) where
  line_long : (i : ℕ) → i < n → length (record_of_mark s i) ≡ 13
  line_long i l = record_length s i (omega (arith, good.there))

  pub log_long : length (rows (record_of_mark s) n) ≡ 13 * n
  log_long = rows_length (record_of_mark s) 13 n line_long

module _ (s : List ℕ) (n : ℕ) (bytes : Bytes s) (good : GoodMarks s n) where
  abbrev log : List ℕ
  log = rows (record_of_mark s) n

  module _ (i : ℕ) (l : i < n) where
    line : Pieces log (packed (x_at s i)) (packed (y_at s i)) (take 7 (drop (11 * i + 4) s)) 3 3 7 (13 * i)
    line =
        pieces_of log (packed (x_at s i)) (packed (y_at s i)) (take 7 (drop (11 * i + 4) s)) 3 3 7 (13 * i) (packed_length _ _) (packed_length _ _)
        (omega (arith, log_long s n good)) (rows_at (record_of_mark s) 13 n i (line_long s n good) l)

    x_place : is_place (x_at s i) ≡ true
    x_place = signed_place _ (le_bound 2 s (11 * i) bytes)

    y_place : is_place (y_at s i) ≡ true
    y_place = signed_place _ (le_bound 2 s (11 * i + 2) bytes)

    record_right_lem : RecordRight log i
    record_right_lem =
        let r = good.each i l in
        let (radius, kind) = fields_same log s (13 * i) 6 (11 * i) 4 line.third in
        record {
          x = place_right log (13 * i) (x_at s i) x_place line.first;
          y = place_right log (13 * i + 3) (y_at s i) y_place line.second;
          kind = omega (arith, r.kind);
          radius = omega (arith, r.radius);
        }

    x_back : le_bytes 2 (place_bits (coordinate_at log (13 * i))) ≡ take 2 (drop (11 * i) s)
    x_back = bits_again log s (13 * i) (11 * i) bytes (omega (arith, good.there)) line.first

    y_back : le_bytes 2 (place_bits (coordinate_at log (13 * i + 3))) ≡ take 2 (drop (11 * i + 2) s)
    y_back = bits_again log s (13 * i + 3) (11 * i + 2) bytes (omega (arith, good.there)) line.second

    mark_again : mark_of_record log i ≡ take 11 (drop (11 * i) s)
    mark_again = ap₂ ◌++◌ x_back (ap₂ ◌++◌ y_back line.third) ∙ pieces s (11 * i) 2 2 7

  pub log_right : LogRight log n
  log_right = record { few = good.few; long = log_long s n good; each = record_right_lem }

  pub log_count : record_count log ≡ n
  log_count = omega (arith, log_long s n good)

  pub marks_are : length s ≡ 11 * n → rows (mark_of_record log) n ≡ s
  marks_are long = rows_whole (mark_of_record log) 11 s n long mark_again
