-- The answer 0 of each job is what its questions say.
use Rattle.std.specs.Prelude.{ℕ, ◌<◌, ◌≤◌, ◌≡◌, true, List, ◌↔◌, leb, length}
use Rattle.std.proofs.Common.{arith, leb-true, le-leb}
use Rattle.contents.specs.Contents.{Part, split, join}
use Rattle.contents.specs.Asking.{answer}
use Rattle.contents.specs.Questions.{contents_questions}
use Rattle.contents.specs.Laid.{Laid}
use Rattle.contents.proofs.Laws.{Numbered, numbered_append, none_asked, asked_iff, append_yes, append_no, append_iff, contents_numbered, laid_iff}
use Rattle.bodies.specs.Questions.{body_questions}
use Rattle.bodies.specs.Fitting.{Fitting}
use Rattle.bodies.proofs.Laws.{bodies_numbered, fitting_iff}
use Rattle.sheet.specs.Questions.{check_questions, check, question10, indexed_questions, parts_questions}
use Rattle.sheet.specs.Accepted.{Accepted}

pub check_numbered : (s : List ℕ) → Numbered (check_questions s)
unfolding check_questions
check_numbered s = numbered_append (contents_questions s) (body_questions (split s)) (contents_numbered s) (bodies_numbered (split s))

-- Checking answers what 1 to 3 answer where that is a 'no', and asks 4 to 9 where they are passed.
pub check_refused : (s : List ℕ) → 0 < answer (contents_questions s) → check s ≡ answer (contents_questions s)
unfolding check check_questions
check_refused s l = append_no (contents_questions s) _ (contents_numbered s) l

pub check_laid : (s : List ℕ) → Laid s → check s ≡ answer (body_questions (split s))
unfolding check check_questions
check_laid s l = append_yes (contents_questions s) _ (contents_numbered s) ((laid_iff s).1 l)

pub accepted_iff : (s : List ℕ) → (check s ≡ 0) ↔ Accepted s
unfolding check check_questions
accepted_iff s = (
  (λ e.
      let p = (append_iff (contents_questions s) _ (contents_numbered s)).0 e in
      record { laid = (laid_iff s).0 p.0; fitting = (fitting_iff (split s)).0 p.1 }),
  (λ a. (append_iff (contents_questions s) _ (contents_numbered s)).1 ((laid_iff s).1 a.laid, (fitting_iff (split s)).1 a.fitting)),
)

-- 1 to 10
pub indexed_numbered : (s : List ℕ) → Numbered (indexed_questions s)
unfolding indexed_questions
indexed_numbered s = numbered_append (check_questions s) _ (check_numbered s) (omega arith, tt)

pub indexed_iff : (s : List ℕ) → (answer (indexed_questions s) ≡ 0) ↔ ((check s ≡ 0) × (question10 (split s) ≡ true))
unfolding indexed_questions check
indexed_iff s = (
  (λ e.
      let a = (append_iff (check_questions s) _ (check_numbered s)).0 e in
      (a.0, ((asked_iff 10 (question10 (split s)) _ (omega arith)).0 a.1).0)),
  (λ p. (append_iff (check_questions s) _ (check_numbered s)).1 (p.0, (asked_iff 10 (question10 (split s)) _ (omega arith)).1 (p.1, none_asked))),
)

pub parts_iff : (parts : List Part) (room : ℕ)
    → (answer (parts_questions parts room) ≡ 0) ↔ (Fitting parts × (length (join parts) ≤ room))
unfolding parts_questions
parts_iff parts room = (
  (λ e.
      let b = (append_iff (body_questions parts) _ (bodies_numbered parts)).0 e in
      let c = (asked_iff 13 (leb (length (join parts)) room) _ (omega arith)).0 b.1 in
      ((fitting_iff parts).0 b.0, leb-true _ _ c.0)),
  (λ p.
      (append_iff (body_questions parts) _ (bodies_numbered parts)).1
      ((fitting_iff parts).1 p.0, (asked_iff 13 (leb (length (join parts)) room) _ (omega arith)).1 (le-leb _ _ p.1, none_asked))),
)
