-- Each question of a log decides its statement, so the answer 0 is what LogRight says.
use Rattle.std.specs.Prelude.{ℕ, ◌+◌, ◌*◌, ◌%◌, ◌<◌, ◌≤◌, ◌≡◌, true, List, ◌↔◌, eqb, length}
use Rattle.std.proofs.Math.Path.{sym}
use Rattle.std.proofs.Common.{◌∙◌, leb-true, eqb-true, le-leb, eq-eqb}
use native.Mathlib.Omega.{arith}
use Rattle.lists.proofs.TestLaws.{both_iff}
use Rattle.contents.specs.Asking.{answer}
use Rattle.contents.proofs.Laws.{Numbered, asked_iff, append_yes, append_no}
use Rattle.contents.proofs.Laws.{turn_numbered, turn_at, turn_of}
use Rattle.parts.specs.Questions.{field_questions}
use Rattle.parts.proofs.Laws.{field_iff}
use Rattle.packed.specs.Packed.{coordinate_at, packed_at, is_place}
use Rattle.logs.specs.Log.{record_count, radius_of, kind_of}
use Rattle.logs.specs.Questions.{log_size, place_questions, record_questions, log_checks}
use Rattle.logs.specs.Right.{RecordRight, LogRight}

-- ---- no question bears the number 0

pub record_numbered : (s : List ℕ) (r : ℕ) → Numbered (record_questions s r)
unfolding record_questions
record_numbered s r = (omega arith, (omega arith, (omega arith, (omega arith, (omega arith, (omega arith, tt))))))

pub log_numbered : (s : List ℕ) → Numbered (log_checks s)
unfolding log_checks
log_numbered s = (omega arith, turn_numbered (record_questions s) (record_numbered s) (record_count s))

-- ---- one record

module _ (s : List ℕ) (r : ℕ) where
  record_there : answer (record_questions s r) ≡ 0 → RecordRight s r
  unfolding record_questions
  record_there e =
      let a = (asked_iff 15 (packed_at s (13 * r)) _ (omega arith)).0 e in
      let b = (asked_iff 16 (is_place (coordinate_at s (13 * r))) _ (omega arith)).0 a.1 in
      let c = (asked_iff 15 (packed_at s (13 * r + 3)) _ (omega arith)).0 b.1 in
      let d = (asked_iff 16 (is_place (coordinate_at s (13 * r + 3))) _ (omega arith)).0 c.1 in
      let f = (field_iff (kind_of s r) (radius_of s r)).0 d.1 in
      record {
        x = record { packed = a.0; place = b.0 };
        y = record { packed = c.0; place = d.0 };
        kind = f.0;
        radius = f.1;
      }

  record_back : RecordRight s r → answer (record_questions s r) ≡ 0
  unfolding record_questions
  record_back h =
      (asked_iff 15 (packed_at s (13 * r)) _ (omega arith)).1 (
        h.x.packed,
        (asked_iff 16 (is_place (coordinate_at s (13 * r))) _ (omega arith)).1 (
          h.x.place,
          (asked_iff 15 (packed_at s (13 * r + 3)) _ (omega arith)).1 (
            h.y.packed,
            (asked_iff 16 (is_place (coordinate_at s (13 * r + 3))) _ (omega arith)).1
                (h.y.place, (field_iff (kind_of s r) (radius_of s r)).1 (h.kind, h.radius)),
          ),
        ),
      )

-- ---- a record's questions in the groups in which the functions ask them

module _ (s : List ℕ) (r : ℕ) where
  pub record_x : {number : ℕ} → number ≡ answer (place_questions s (13 * r)) → 0 < number → number ≡ answer (record_questions s r)
  unfolding record_questions
  record_x e p = e ∙ sym (append_no (place_questions s (13 * r)) _ (omega arith, (omega arith, tt)) (omega arith))

  module _ (x : answer (place_questions s (13 * r)) ≡ 0) where
    pub record_y : {number : ℕ} → number ≡ answer (place_questions s (13 * r + 3)) → 0 < number → number ≡ answer (record_questions s r)
    unfolding record_questions
    record_y e p =
        e ∙ sym (append_yes (place_questions s (13 * r)) _ (omega arith, (omega arith, tt)) x
        ∙ append_no (place_questions s (13 * r + 3)) _ (omega arith, (omega arith, tt)) (omega arith))

    pub record_rest : answer (place_questions s (13 * r + 3)) ≡ 0 → answer (field_questions (kind_of s r) (radius_of s r)) ≡ answer (record_questions s r)
    unfolding record_questions
    record_rest y =
        sym (append_yes (place_questions s (13 * r)) _ (omega arith, (omega arith, tt)) x
        ∙ append_yes (place_questions s (13 * r + 3)) _ (omega arith, (omega arith, tt)) y)

-- ---- a whole log

log_size_iff : (s : List ℕ) → (log_size s ≡ true) ↔ ((record_count s ≤ 4096) × (length s ≡ 13 * record_count s))
unfolding log_size
log_size_iff s = (
  (λ e. let p = (both_iff (eqb (length s % 13) 0) _).0 e in
      (leb-true (record_count s) 4096 p.1, omega (arith, eqb-true (length s % 13) 0 p.0))),
  (λ p. (both_iff (eqb (length s % 13) 0) _).1 (eq-eqb (length s % 13) 0 (omega arith), le-leb (record_count s) 4096 p.0)),
)

pub log_iff : (s : List ℕ) → (answer (log_checks s) ≡ 0) ↔ LogRight s (record_count s)
unfolding log_checks
log_iff s = (
  (λ e. let a = (asked_iff 4 (log_size s) _ (omega arith)).0 e in
      let size = (log_size_iff s).0 a.0 in
      record {
        few = size.0;
        long = size.1;
        each = λ r l. record_there s r (turn_at (record_questions s) (record_numbered s) (record_count s) a.1 r l);
      }),
  (λ h. (asked_iff 4 (log_size s) _ (omega arith)).1 (
    (log_size_iff s).1 (h.few, h.long),
    turn_of (record_questions s) (record_numbered s) (record_count s) (λ r l. record_back s r (h.each r l)),
  )),
)
