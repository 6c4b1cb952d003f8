-- Each of questions 1 to 3 decides its statement, so the answer 0 is what Laid says.
use Rattle.std.specs.Prelude.{ℕ, ◌<◌, ◌≤◌, ◌≡◌, true, List, ◌↔◌, leb, eqb, length}
use Rattle.std.proofs.Common.{arith, leb-true, eqb-true, le-leb, eq-eqb}
use Rattle.contents.specs.Contents.{count_at, offset_at, start_at}
use Rattle.lists.specs.Tests.{every}
use Rattle.contents.specs.Asking.{answer}
use Rattle.contents.specs.Questions.{top_code, is_count, question1, question2, question3, contents_questions}
use Rattle.contents.specs.Laid.{Whole, Laid}
use Rattle.lists.proofs.TestLaws.{both_iff, every_of, every_at}
use Rattle.contents.proofs.Lemmas.Asked.{Numbered, none_asked, asked_iff}

pub count_iff : (k : ℕ) → (is_count k ≡ true) ↔ ((1 ≤ k) × (k ≤ top_code))
count_iff k = (
  (λ e. let p = (both_iff (leb 1 k) (leb k top_code)).0 e in (leb-true 1 k p.0, leb-true k top_code p.1)),
  (λ p. (both_iff (leb 1 k) (leb k top_code)).1 (le-leb 1 k p.0, le-leb k top_code p.1)),
)

pub whole_iff : (s : List ℕ) → (question1 s ≡ true) ↔ Whole s
unfolding question1
whole_iff s = (there, back)
  where
    there : question1 s ≡ true → Whole s
    there e =
        let p = (both_iff (leb 2 (length s)) _).0 e in
        let q = (both_iff (is_count (count_at s)) _).0 p.1 in
        let k = (count_iff (count_at s)).0 q.0 in
        record { some = k.0; few = k.1; inside = leb-true _ _ q.1 }

    back : Whole s → question1 s ≡ true
    back w =
        (both_iff (leb 2 (length s)) _).1
        (le-leb 2 (length s) (omega arith), (both_iff (is_count (count_at s)) _).1 ((count_iff (count_at s)).1 (w.some, w.few), le-leb _ _ w.inside))

joins_iff : (s : List ℕ) → (question3 s ≡ true) ↔ (((i : ℕ) → i < count_at s → offset_at s i ≡ start_at s i) × (start_at s (count_at s) ≡ length s))
unfolding question3
joins_iff s = (
  (λ e. let p = (both_iff _ (eqb (start_at s (count_at s)) (length s))).0 e in
      ((λ i l. eqb-true _ _ (every_at (λ i. eqb (offset_at s i) (start_at s i)) (count_at s) p.0 i l)), eqb-true _ _ p.1)),
  (λ p. (both_iff (every (λ i. eqb (offset_at s i) (start_at s i)) (count_at s)) _).1
      (every_of (λ i. eqb (offset_at s i) (start_at s i)) (count_at s) (λ i l. eq-eqb _ _ (p.0 i l)), eq-eqb _ _ p.1)),
)

pub contents_numbered : (s : List ℕ) → Numbered (contents_questions s)
unfolding contents_questions
contents_numbered s = (omega arith, (omega arith, (omega arith, tt)))

pub laid_iff : (s : List ℕ) → (answer (contents_questions s) ≡ 0) ↔ Laid s
unfolding contents_questions
laid_iff s = (there, back)
  where
    there : answer (contents_questions s) ≡ 0 → Laid s
    there e =
        let p = (asked_iff 1 (question1 s) _ (omega arith)).0 e in
        let q = (asked_iff 2 (question2 s) _ (omega arith)).0 p.1 in
        let r = (asked_iff 3 (question3 s) _ (omega arith)).0 q.1 in
        let j = (joins_iff s).0 r.0 in
        record { whole = (whole_iff s).0 p.0; codes = q.0; offsets = j.0; ends = j.1 }

    back : Laid s → answer (contents_questions s) ≡ 0
    back l =
        (asked_iff 1 (question1 s) _ (omega arith)).1 (
          (whole_iff s).1 l.whole,
          (asked_iff 2 (question2 s) _ (omega arith)).1
              (l.codes, (asked_iff 3 (question3 s) _ (omega arith)).1 ((joins_iff s).1 (l.offsets, l.ends), none_asked)),
        )
