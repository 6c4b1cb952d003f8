-- Each question of one part decides its statement.
use Rattle.std.specs.Prelude.{ℕ, ◌*◌, ◌%◌, ◌<◌, ◌≤◌, ◌≡◌, true, List, ◌↔◌, ◌⊎◌, eqb, length}
use Rattle.std.proofs.Common.{inl, inr, arith, leb-true, eqb-true, le-leb, eq-eqb}
use Rattle.lists.proofs.TestLaws.{both_iff, every_at, every_of}
use Rattle.marks.specs.Marks.{kind_at, radius_at, is_kind, is_radius}
use Rattle.marks.specs.Pairs.{popup_size, popup_at, GoodPopups}
use Rattle.marks.specs.Good.{GoodMark, GoodMarks}
use Rattle.marks.proofs.Laws.{kind_iff, used_bound}
use Rattle.contents.specs.Asking.{answer}
use Rattle.contents.proofs.Laws.{none_asked, asked_iff, turn_at, turn_of}
use Rattle.parts.specs.Questions.{question4, mark_count, field_questions, one_mark, mark_questions, part1_questions, is_choice, is_popup, is_popups}
use Rattle.parts.proofs.Lemmas.Numbered.{one_numbered}

-- ---- 4 to 6

pub size_iff : (s : List ℕ) → (question4 s ≡ true) ↔ ((mark_count s ≤ 4096) × (length s ≡ 11 * mark_count s))
unfolding question4
size_iff s = (
  (λ e. let p = (both_iff (eqb (length s % 11) 0) _).0 e in
      (omega (arith, eqb-true (length s % 11) 0 p.0, leb-true (length s) 45056 p.1), omega (arith, eqb-true (length s % 11) 0 p.0))),
  (λ p. (both_iff (eqb (length s % 11) 0) _).1 (eq-eqb (length s % 11) 0 (omega arith), le-leb (length s) 45056 (omega arith))),
)

radius_iff : (r : ℕ) → (is_radius r ≡ true) ↔ (r ≤ 16383)
unfolding is_radius
radius_iff r = (leb-true r 16383, le-leb r 16383)

pub field_iff : (kind radius : ℕ) → (answer (field_questions kind radius) ≡ 0) ↔ ((kind < 200) × (radius ≤ 16383))
field_iff kind radius = (
  (λ e. let k = (asked_iff 5 (is_kind kind) _ (omega arith)).0 e in
      let r = (asked_iff 6 (is_radius radius) _ (omega arith)).0 k.1 in
      ((kind_iff _).0 k.0, (radius_iff _).0 r.0)),
  (λ h. (asked_iff 5 (is_kind kind) _ (omega arith)).1
      ((kind_iff _).1 h.0, (asked_iff 6 (is_radius radius) _ (omega arith)).1 ((radius_iff _).1 h.1, none_asked))),
)

one_iff : (s : List ℕ) (m : ℕ) → (answer (one_mark s m) ≡ 0) ↔ GoodMark s m
one_iff s m = (
  (λ e. let f = (field_iff (kind_at s m) (radius_at s m)).0 e in
      record { kind = f.0; radius = f.1; used = used_bound _ _ ((radius_iff _).1 f.1) }),
  (λ h. (field_iff (kind_at s m) (radius_at s m)).1 (h.kind, h.radius)),
)

pub part1_iff : (s : List ℕ) → (answer (part1_questions s) ≡ 0) ↔ (GoodMarks s (mark_count s) × (length s ≡ 11 * mark_count s))
unfolding part1_questions mark_questions
part1_iff s = (
  (λ e. let a = (asked_iff 4 (question4 s) _ (omega arith)).0 e in
      let size = (size_iff s).0 a.0 in (
        record {
          few = size.0;
          there = omega (arith, size.1);
          each = λ m l. (one_iff s m).0 (turn_at (one_mark s) (one_numbered s) (mark_count s) a.1 m l);
        },
        size.1,
      )),
  (λ h. (asked_iff 4 (question4 s) _ (omega arith)).1 (
    (size_iff s).1 (h.0.few, h.1),
    turn_of (one_mark s) (one_numbered s) (mark_count s) (λ m l. (one_iff s m).1 (h.0.each m l)),
  )),
)

-- ---- parts 4, 5 and 7

-- parts 4 and 7 are one byte
pub choice_long : (body : List ℕ) → is_choice body ≡ true → length body ≡ 1
unfolding is_choice
choice_long body e = eqb-true (length body) 1 ((both_iff (eqb (length body) 1) _).0 e).0

-- part 5 has a popup for each mark
pub popups_iff : (body : List ℕ) (n : ℕ) → (is_popups body n ≡ true) ↔ ((length body ≡ popup_size * n) × ((m : ℕ) → m < n → popup_at body m ≤ 65536))
unfolding is_popups is_popup
popups_iff body n = (
  (λ e. let p = (both_iff (eqb (length body) (popup_size * n)) _).0 e in
      (eqb-true (length body) (popup_size * n) p.0, λ m l. leb-true (popup_at body m) 65536 (every_at _ n p.1 m l))),
  (λ h. (both_iff (eqb (length body) (popup_size * n)) _).1 (eq-eqb (length body) (popup_size * n) h.0, every_of _ n (λ m l. le-leb (popup_at body m) 65536 (h.1 m l)))),
)

-- there are enough bytes to be read
pub popups_enough : {q : List ℕ} {n : ℕ} → GoodPopups q n → (length q ≡ 0) ⊎ (popup_size * n ≤ length q)
popups_enough {q} {n} good = go good.sized
  where
    go : (length q ≡ 0) ⊎ (length q ≡ 4 * n) → (length q ≡ 0) ⊎ (4 * n ≤ length q)
    go (inl e) = inl e
    go (inr e) = inr (omega (arith, e))
