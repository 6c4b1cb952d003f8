-- Turned marks: they have their fields, stay good, and the process cannot tell them from the others. Assumes nothing.
use Rattle.std.specs.Prelude.{ℕ, ◌+◌, ◌*◌, ◌<◌, ◌≡◌, length}
use Rattle.std.proofs.Math.Path.{refl, ap}
use Rattle.std.proofs.Common.{◌∙◌}
use mathlib.Core.List.{List, []}
use native.Mathlib.Omega.{arith}
use Rattle.numbers.specs.Little.{signed, Bytes}
use Rattle.numbers.proofs.Laws.{le_bound}
use Rattle.marks.specs.Marks.{mark_size, used_at, mark_bytes, touching_of, touching, rank_radius, rank_key}
use Rattle.marks.specs.Pairs.{pair_value}
use Rattle.marks.specs.Good.{GoodMarks}
use Rattle.marks.specs.Fields.{FieldsFit, HasFields}
use Rattle.marks.proofs.FieldLaws.{mark_length, mark_bytes_lem, mark_reads}
use Rattle.turns.proofs.Laws.{turned_distance}
use Rattle.rows.specs.Rows.{rows}
use Rattle.rows.proofs.Laws.{rows_length, rows_at, rows_bytes, field_le}
use Rattle.changing.specs.Turned.{turned_mark, turned_marks, TurnedFit}

module _ (t : ℕ) (s : List ℕ) (n : ℕ) where
  pub turned_length : length (turned_marks t s n) ≡ mark_size * n
  unfolding turned_marks
  turned_length = rows_length (λ m. mark_bytes (turned_mark t s m)) 11 n (λ m h. mark_length (turned_mark t s m))

  pub turned_bytes : Bytes (turned_marks t s n)
  unfolding turned_marks
  turned_bytes = rows_bytes (λ m. mark_bytes (turned_mark t s m)) n (λ m h. mark_bytes_lem (turned_mark t s m))

  module _ (bytes : Bytes s) (fit : TurnedFit t s n) where
    fields_fit : (m : ℕ) → m < n → FieldsFit (turned_mark t s m)
    fields_fit m h =
        record {
          x_fits = fit.x_fits m h;
          y_fits = fit.y_fits m h;
          radius_fits = le_bound 2 s _ bytes;
          priority_fits = le_bound 2 s _ bytes;
          kind_fits = le_bound 1 s _ bytes;
          tag_fits = le_bound 2 s _ bytes;
        }

    -- Each has its own fields, but for the place, which is turned.
    pub turned_fields : (m : ℕ) → m < n → HasFields (turned_marks t s n) m (turned_mark t s m)
    unfolding turned_marks
    turned_fields m h =
        let row = mark_bytes (turned_mark t s m) in
        let at = rows_at (λ i. mark_bytes (turned_mark t s i)) 11 n m (λ j l. mark_length (turned_mark t s j)) h in
        let has = mark_reads [] 0 refl (turned_mark t s m) (fields_fit m h) in
        let read = field_le (rows (λ i. mark_bytes (turned_mark t s i)) n) row 11 (11 * m) at in
        let none : 11 * m + 0 ≡ 11 * m = omega arith in
        record {
          x = ap (signed 2) (rw none at (read 2 0 (omega arith))) ∙ has.x;
          y = ap (signed 2) (read 2 2 (omega arith)) ∙ has.y;
          radius = read 2 4 (omega arith) ∙ has.radius;
          priority = read 2 6 (omega arith) ∙ has.priority;
          kind = read 1 8 (omega arith) ∙ has.kind;
          tag = read 2 9 (omega arith) ∙ has.tag;
        }

    pub turned_used : (m : ℕ) → m < n → used_at (turned_marks t s n) m ≡ used_at s m
    turned_used m h = let has = turned_fields m h in rw (has.radius, has.kind)

    pub turned_good : GoodMarks s n → GoodMarks (turned_marks t s n) n
    turned_good good =
        record {
          few = good.few;
          there = omega (arith, turned_length);
          each = λ m h.
              (let has = turned_fields m h in
              record {
                kind = rw has.kind (good.each m h).kind;
                radius = rw has.radius (good.each m h).radius;
                used = rw (turned_used m h) (good.each m h).used;
              });
        }

    -- ---- what the process sees: ranks and pair values

    pub turned_rank : (edition m : ℕ) → m < n → rank_key edition (turned_marks t s n) m ≡ rank_key edition s m
    unfolding rank_key rank_radius
    turned_rank edition m h = rw ((turned_fields m h).priority, turned_used m h)

    pub turned_touching : (shape a b : ℕ) → a < n → b < n → touching shape (turned_marks t s n) a b ≡ touching shape s a b
    unfolding touching touching_of
    turned_touching shape a b ha hb =
        let p = turned_fields a ha in
        let q = turned_fields b hb in
        rw (p.x, p.y, q.x, q.y, turned_used a ha, turned_used b hb, turned_distance shape t _ _)

    -- and so their pair values, with the same popups
    pub turned_pair : (shape : ℕ) (q : List ℕ) (a b : ℕ) → a < n → b < n → pair_value shape (turned_marks t s n) q a b ≡ pair_value shape s q a b
    unfolding pair_value
    turned_pair shape q a b ha hb = rw (turned_touching shape a b ha hb)
