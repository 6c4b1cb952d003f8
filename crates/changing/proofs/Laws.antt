-- Marks that are added and taken out stay good; the others keep their bytes and their order; and the one undoes the other. Assumes nothing.
use Rattle.std.specs.Prelude.{ℕ, suc, ◌+◌, ◌-◌, ◌*◌, ◌<◌, ◌≤◌, ◌≡◌, refl, List, ◌++◌, length, take}
use Rattle.std.proofs.Common.{sym, ◌∙◌, le-leb, drop_at, take_all}
use Rattle.std.proofs.Math.Decide.{dec_lt}
use native.Mathlib.Omega.{arith}
use Rattle.std.proofs.Math.ListN.{length-append}
use Rattle.std.proofs.Math.Seq.{take_at}
use Rattle.numbers.specs.Little.{le_bytes, Bytes}
use Rattle.numbers.proofs.Laws.{bytes_append, le_length, le_bytes_lem}
use Rattle.marks.specs.declared.Mark.{Mark}
use Rattle.marks.specs.Marks.{mark_size, kind_at, radius_at, is_radius, mark_bytes}
use Rattle.marks.specs.Good.{GoodMark, GoodMarks}
use Rattle.marks.specs.Pairs.{popup_size, popup_at}
use Rattle.marks.specs.Fields.{FieldsFit, HasFields}
use Rattle.marks.proofs.Laws.{used_bound}
use Rattle.marks.proofs.FieldLaws.{mark_length, mark_bytes_lem, mark_reads}
use Rattle.rows.specs.Rows.{row_at, without}
use Rattle.rows.proofs.Laws.{append_below, without_last, without_length, without_below, without_above, without_bytes, field_le, le_found}
use Rattle.changing.specs.Changing.{added, taken_out, added_popup, taken_out_popup}

-- a mark with the bytes of a good one is good
same_good : (s t : List ℕ) (i j : ℕ) → row_at mark_size s i ≡ row_at mark_size t j → GoodMark t j → GoodMark s i
same_good s t i j e good =
    let kind : kind_at s i ≡ kind_at t j =
    field_le s (row_at mark_size t j) 11 (11 * i) e 1 8 (omega arith) ∙ sym (field_le t (row_at mark_size t j) 11 (11 * j) refl 1 8 (omega arith)) in
    let radius : radius_at s i ≡ radius_at t j =
    field_le s (row_at mark_size t j) 11 (11 * i) e 2 4 (omega arith) ∙ sym (field_le t (row_at mark_size t j) 11 (11 * j) refl 2 4 (omega arith)) in
    record { kind = rw kind good.kind; radius = rw radius good.radius; used = rw (kind, radius) good.used }

module _ (s : List ℕ) (n : ℕ) (long : length s ≡ mark_size * n) where
  -- ---- adding

  module _ (mark : Mark) where
    pub added_length : length (added s mark) ≡ mark_size * suc n
    unfolding added
    added_length = omega (arith, length-append s (mark_bytes mark), mark_length mark)

    pub added_bytes : Bytes s → Bytes (added s mark)
    unfolding added
    added_bytes bytes = bytes_append s (mark_bytes mark) bytes (mark_bytes_lem mark)

    -- The marks that were there keep their bytes, and the new one is mark n and has its fields.
    pub added_kept : take (mark_size * n) (added s mark) ≡ s
    unfolding added
    added_kept = take_at s (mark_bytes mark) (mark_size * n) long

    pub added_fields : FieldsFit mark → HasFields (added s mark) n mark
    unfolding added
    added_fields fit = mark_reads s n long mark fit

    pub added_good : FieldsFit mark → GoodMarks s n → n < 4096 → mark.kind < 200 → mark.radius ≤ 16383 → GoodMarks (added s mark) (suc n)
    unfolding added is_radius
    added_good fit good few kind radius =
        let has = added_fields fit in
        let new : GoodMark (s ++ mark_bytes mark) n =
        record {
          kind = rw has.kind kind;
          radius = rw has.radius radius;
          used = rw (has.kind, has.radius) (used_bound mark.radius mark.kind (le-leb mark.radius 16383 radius));
        } in
        record {
          few = omega arith;
          there = omega (arith, added_length);
          each = λ m h.
              elim (dec_lt m n) [
                | yes l ↦ same_good (s ++ mark_bytes mark) s m m (append_below 11 s n long (mark_bytes mark) m l) (good.each m l)
                | no l ↦ (let last : m ≡ n = omega arith in rw last new)
              ];
        }

    -- "adding a mark and taking that one out returns the old" marks
    pub added_taken : taken_out (added s mark) n ≡ s
    unfolding added taken_out
    added_taken = without_last 11 s n long (mark_bytes mark) (mark_length mark)

  -- ---- taking out

  module _ (m : ℕ) (low : m < n) where
    pub taken_length : length (taken_out s m) ≡ mark_size * (n - 1)
    unfolding taken_out
    taken_length = omega (arith, without_length 11 s n long m low)

    -- The marks below m keep their numbers, and "higher numbers drop by one".
    pub taken_below : (i : ℕ) → i < m → row_at mark_size (taken_out s m) i ≡ row_at mark_size s i
    unfolding taken_out
    taken_below = without_below 11 s n long m low

    pub taken_above : (i : ℕ) → m ≤ i → row_at mark_size (taken_out s m) i ≡ row_at mark_size s (suc i)
    unfolding taken_out
    taken_above = without_above 11 s n long m low

    pub taken_good : GoodMarks s n → GoodMarks (taken_out s m) (n - 1)
    unfolding taken_out
    taken_good good =
        record {
          few = omega (arith, good.few);
          there = omega (arith, taken_length);
          each = λ i h.
              elim (dec_lt i m) [
                | yes l ↦ same_good (taken_out s m) s i i (taken_below i l) (good.each i (omega arith))
                | no l ↦ same_good (taken_out s m) s i (suc i) (without_above 11 s n long m low i (omega arith)) (good.each (suc i) (omega arith))
              ];
        }

pub taken_bytes : (s : List ℕ) (m : ℕ) → Bytes s → Bytes (taken_out s m)
unfolding taken_out
taken_bytes s m = without_bytes mark_size s m

-- ---- popups

-- a popup with the bytes of another is that one
same_popup : (q r : List ℕ) (i j : ℕ) → row_at popup_size q i ≡ row_at popup_size r j → popup_at q i ≡ popup_at r j
same_popup q r i j e =
    let at : 4 * i + 0 ≡ 4 * i = omega arith in
    let from : 4 * j + 0 ≡ 4 * j = omega arith in
    (rw at at (field_le q (row_at 4 r j) 4 (4 * i) e 4 0 (omega arith))) ∙ sym (rw from at (field_le r (row_at 4 r j) 4 (4 * j) refl 4 0 (omega arith)))

module _ (q : List ℕ) (n : ℕ) (long : length q ≡ popup_size * n) where
  module _ (k : ℕ) where
    pub added_popup_length : length (added_popup q k) ≡ popup_size * suc n
    unfolding added_popup
    added_popup_length = omega (arith, length-append q (le_bytes 4 k), le_length 4 k)

    -- The marks that were there keep their popups, and k is the new one's.
    pub added_popup_below : (m : ℕ) → m < n → popup_at (added_popup q k) m ≡ popup_at q m
    unfolding added_popup
    added_popup_below m h = same_popup (q ++ le_bytes 4 k) q m m (append_below 4 q n long (le_bytes 4 k) m h)

    pub added_popup_last : k < 4294967296 → popup_at (added_popup q k) n ≡ k
    unfolding added_popup
    added_popup_last h =
        le_found 4 (q ++ le_bytes 4 k) (4 * n) k h
        (rw (drop_at q (le_bytes 4 k) (4 * n) long) (take_all 4 (le_bytes 4 k) (omega (arith, le_length 4 k))))

    pub added_popup_taken : taken_out_popup (added_popup q k) n ≡ q
    unfolding added_popup taken_out_popup
    added_popup_taken = without_last 4 q n long (le_bytes 4 k) (le_length 4 k)

  module _ (m : ℕ) (low : m < n) where
    pub taken_popup_length : length (taken_out_popup q m) ≡ popup_size * (n - 1)
    unfolding taken_out_popup
    taken_popup_length = omega (arith, without_length 4 q n long m low)

    pub taken_popup_below : (i : ℕ) → i < m → popup_at (taken_out_popup q m) i ≡ popup_at q i
    unfolding taken_out_popup
    taken_popup_below i h = same_popup (without 4 q m) q i i (without_below 4 q n long m low i h)

    pub taken_popup_above : (i : ℕ) → m ≤ i → popup_at (taken_out_popup q m) i ≡ popup_at q (suc i)
    unfolding taken_out_popup
    taken_popup_above i h = same_popup (without 4 q m) q i (suc i) (without_above 4 q n long m low i h)

pub added_popup_bytes : (q : List ℕ) (k : ℕ) → Bytes q → Bytes (added_popup q k)
unfolding added_popup
added_popup_bytes q k b = bytes_append q (le_bytes 4 k) b (le_bytes_lem 4 k)

pub taken_popup_bytes : (q : List ℕ) (m : ℕ) → Bytes q → Bytes (taken_out_popup q m)
unfolding taken_out_popup
taken_popup_bytes q m = without_bytes popup_size q m
