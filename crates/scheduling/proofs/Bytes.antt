-- Numbers written one after the other, read back one by one, and parts of a list that a write leaves. Assumes nothing.
use Prim.Native.Nat.{ℕ, ◌+◌, ◌*◌, ◌^◌, ◌≤◌, ◌<◌}
use mathlib.Core.Path.{◌≡◌, refl, sym, ap, ◌∙◌}
use mathlib.Core.List.{List, ◌++◌, append_assoc}
use native.Mathlib.Omega.{arith}
use native.Mathlib.Decide.{dec_lt}
use lib.ListN.{length, take, drop, length-append, length-take, length-drop}
use lib.Seq.{sets, sets-eq, length-sets, length-take-le, take_at, drop_at, ext_get_or, get_or-take, get_or-drop}
use Rattle.lists.specs.Stores.{Clear, Kept}
use Rattle.lists.proofs.StoreLaws.{kept_sets}
use Rattle.numbers.specs.Little.{le_at, le_bytes}
use Rattle.numbers.proofs.Laws.{le_length, read_back_sets, number_kept, write_then, write_joined}
use Rattle.marks.specs.Marks.{mark_size, y_offset, used_at}
use Rattle.marks.specs.Pairs.{popup_at}
use Rattle.elimination.specs.declared.Record.{Record}
use Rattle.elimination.specs.Records.{record_size, num_offset, den_offset, record_at, record_bytes}
use Rattle.elimination.proofs.Schedule.{record_length}
use Rattle.searching.specs.Rows.{row_size, row_x_offset, row_y_offset, row_radius_offset, row_popup_offset, row_record_offset}
use Rattle.scheduling.specs.Filling.{row_bytes, RowAt}

pub row_put : (s p : List ℕ) (m : ℕ) (w : List ℕ) (at : ℕ) {t u v y z : List ℕ}
    → t ≡ sets w at (le_bytes 2 m) → u ≡ sets t (at + row_x_offset) (le_bytes 2 (le_at 2 s (mark_size * m)))
    → v ≡ sets u (at + row_y_offset) (le_bytes 2 (le_at 2 s (mark_size * m + y_offset)))
    → y ≡ sets v (at + row_radius_offset) (le_bytes 2 (used_at s m)) → z ≡ sets y (at + row_popup_offset) (le_bytes 3 (popup_at p m))
    → z ≡ sets w at (row_bytes s p m)
row_put s p m w at {t} {u} {v} a b c d e =
    write_joined 2 m w at _ refl a
    (write_joined 2 _ t (at + row_x_offset) _ (omega arith) b
    (write_joined 2 _ u (at + row_y_offset) _ (omega arith) c (write_joined 2 _ v (at + row_radius_offset) _ (omega arith) d e)))

read_first : (w v : ℕ) (s : List ℕ) (at : ℕ) (rest : List ℕ) → at + w ≤ length s → v < 2 ^ (8 * w)
    → le_at w (sets s at (le_bytes w v ++ rest)) at ≡ v
read_first w v s at rest room small =
    ap (λ l. le_at w l at) (write_then w v s at rest)
    ∙ number_kept (kept_sets rest (sets s at (le_bytes w v)) (at + w)) w at (omega arith)
    ∙ read_back_sets w s at v room small

-- what is read behind the first number is read of the rest
read_rest : (w v : ℕ) (s : List ℕ) (at next : ℕ) (rest : List ℕ) (k p : ℕ) {x : ℕ} → next ≡ at + w
    → ((t : List ℕ) → length t ≡ length s → le_at k (sets t next rest) p ≡ x) → le_at k (sets s at (le_bytes w v ++ rest)) p ≡ x
read_rest w v s at next rest k p n inner =
    ap (λ l. le_at k l p) (write_then w v s at rest ∙ ap (λ i. sets (sets s at (le_bytes w v)) i rest) (sym n))
    ∙ inner (sets s at (le_bytes w v)) (length-sets s at (le_bytes w v))

pub record_back : (s : List ℕ) (at : ℕ) (r : Record) → at + record_size ≤ length s → r.eliminator < 65536 → r.num < 2 ^ 64 → r.den < 4294967296
    → record_at (sets s at (record_bytes r)) at ≡ r
record_back s at r room he hn hd =
    let second : ℕ = at + num_offset in
    let third : ℕ = at + den_offset in
    rw (
      read_first 2 r.eliminator s at (le_bytes 8 r.num ++ le_bytes 4 r.den) (omega arith) he,
      read_rest 2 r.eliminator s at second (le_bytes 8 r.num ++ le_bytes 4 r.den) 8 second refl (λ t l. read_first 8 r.num t second _ (omega arith) hn),
      read_rest 2 r.eliminator s at second (le_bytes 8 r.num ++ le_bytes 4 r.den) 4 third refl
          (λ t l. read_rest 8 r.num t second third _ 4 third (omega arith) (λ u m. read_back_sets 4 u third r.den (omega arith) hd)),
    )

pub row_back : (s p : List ℕ) (m : ℕ) (w : List ℕ) (at : ℕ) → le_at 2 s (mark_size * m) < 65536 → le_at 2 s (mark_size * m + y_offset) < 65536
    → at + row_record_offset ≤ length w → m < 65536 → used_at s m < 65536 → popup_at p m < 16777216 → RowAt s p (sets w at (row_bytes s p m)) at m
row_back s p m w at hx hy room hm hr hp =
    let x : ℕ = le_at 2 s (mark_size * m) in
    let y : ℕ = le_at 2 s (mark_size * m + y_offset) in
    record {
      number = read_first 2 m w at _ (omega arith) hm;
      x_is = read_rest 2 m w at (at + row_x_offset) _ 2 (at + row_x_offset) refl (λ t l. read_first 2 x t (at + row_x_offset) _ (omega arith) hx);
      y_is = read_rest 2 m w at (at + row_x_offset) _ 2 (at + row_y_offset) refl
          (λ t l. read_rest 2 x t (at + row_x_offset) (at + row_y_offset) _ 2 (at + row_y_offset) (omega arith)
          (λ u k. read_first 2 y u (at + row_y_offset) _ (omega arith) hy));
      radius_is = read_rest 2 m w at (at + row_x_offset) _ 2 (at + row_radius_offset) refl
          (λ t l. read_rest 2 x t (at + row_x_offset) (at + row_y_offset) _ 2 (at + row_radius_offset) (omega arith)
          (λ u k. read_rest 2 y u (at + row_y_offset) (at + row_radius_offset) _ 2 (at + row_radius_offset) (omega arith)
          (λ v j. read_first 2 (used_at s m) v (at + row_radius_offset) _ (omega arith) hr)));
      popup_is = read_rest 2 m w at (at + row_x_offset) _ 3 (at + row_popup_offset) refl
          (λ t l. read_rest 2 x t (at + row_x_offset) (at + row_y_offset) _ 3 (at + row_popup_offset) (omega arith)
          (λ u k. read_rest 2 y u (at + row_y_offset) (at + row_radius_offset) _ 3 (at + row_popup_offset) (omega arith)
          (λ v j. read_rest 2 (used_at s m) v (at + row_radius_offset) (at + row_popup_offset) _ 3 (at + row_popup_offset) (omega arith)
          (λ z i. read_back_sets 3 z (at + row_popup_offset) (popup_at p m) (omega arith) hp))));
    }

pub row_length : (s p : List ℕ) (m : ℕ) → length (row_bytes s p m) ≡ row_record_offset
row_length s p m =
    simp length-append
    (omega (arith, le_length 2 m, le_length 2 (le_at 2 s (mark_size * m)), le_length 2 (le_at 2 s (mark_size * m + y_offset)), le_length 2 (used_at s m), le_length 3 (popup_at p m)))

-- ---- a row's record, and its fields

pub put_kept : {u v : List ℕ} (p : ℕ) (r : Record) → v ≡ sets u (row_size * p + row_record_offset) (record_bytes r)
    → Kept u v (row_size * p + row_record_offset) (row_size * p + row_size)
put_kept {u} {v} p r f =
    let c : row_size * p + row_record_offset + record_size ≡ row_size * p + row_size = omega arith in
    rw (record_length r, c, ← f) at (kept_sets (record_bytes r) u (row_size * p + row_record_offset))

-- a field lies off every row's record
pub off_field : (q p j : ℕ) → j ≤ row_radius_offset → Clear (row_size * q + j) 2 (row_size * p + row_record_offset) (row_size * p + row_size)
off_field q p j h = elim (dec_lt p q) [ yes l ↦ omega arith | no l ↦ omega arith ]

pub off_popup : (q p : ℕ) → Clear (row_size * q + row_popup_offset) 3 (row_size * p + row_record_offset) (row_size * p + row_size)
off_popup q p = elim (dec_lt p q) [ yes l ↦ omega arith | no l ↦ omega arith ]

-- ---- parts

pub part_sets : (vs s : List ℕ) (i k : ℕ) → length vs ≡ k → i + k ≤ length s → take k (drop i (sets s i vs)) ≡ vs
part_sets vs s i k e h =
    let room : i + length vs ≤ length s = omega arith in
    let front : length (take i s) ≡ i = length-take-le i s (omega arith) in
    rw (sets-eq vs s i room, append_assoc)
    (rw (drop_at (take i s) (vs ++ drop (i + length vs) s) i front) (take_at vs (drop (i + length vs) s) k e))

-- a part off the range of a write stays
pub part_kept : {s t : List ℕ} {a b : ℕ} → Kept s t a b → (i k : ℕ) → Clear i k a b → take k (drop i t) ≡ take k (drop i s)
part_kept {s} {t} w i k o =
    ext_get_or 0 (take k (drop i t)) (take k (drop i s)) (simp (length-take, length-drop) (rw w.long))
    (λ d l.
    let h : d < k = omega (arith, simp (length-take, length-drop) at l) in
    get_or-take k (drop i t) d 0 h ∙ get_or-drop i t d 0 ∙ w.rest (i + d) (omega arith) ∙ sym (get_or-drop i s d 0) ∙ sym (get_or-take k (drop i s) d 0 h))

pub rest_kept : {s t : List ℕ} {a b : ℕ} → Kept s t a b → drop b t ≡ drop b s
rest_kept {s} {t} {a} {b} w =
    ext_get_or 0 (drop b t) (drop b s) (simp length-drop (rw w.long))
    (λ d l. get_or-drop b t d 0 ∙ w.rest (b + d) (omega arith) ∙ sym (get_or-drop b s d 0))
