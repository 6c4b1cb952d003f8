-- The parts of an opened sheet are its own, and a refused one has none.
use Rattle.std.specs.Prelude.{ℕ, ◌<◌, ◌≡◌, true, false, cond, ◌&&◌, List, eqb, length}
use Rattle.std.proofs.Math.Path.{sym, ap}
use Rattle.std.proofs.Common.{◌∙◌, arith, eqb-true, eq-eqb}
use Rattle.lists.proofs.TestLaws.{by_cases}
use Rattle.contents.specs.Contents.{find, split}
use Rattle.contents.specs.Asking.{answer}
use Rattle.contents.specs.Places.{layout_of, no_parts, place_of, is_there, cut_of, Located}
use Rattle.contents.proofs.Laws.{append_yes, append_no, split_length, layout_part, layout_located, layout_there, none_part, none_located}
use Rattle.sheet.specs.Opened.{Opening}
use Rattle.sheet.specs.Questions.{check_questions, check, question10, indexed_questions}
use Rattle.sheet.specs.Opened.{opened_at, opened, indexed, open_parts}
use Rattle.sheet.proofs.Lemmas.Accepting.{check_numbered, accepted_iff}

pub opened_accepted : (s : List ℕ) → check s ≡ 0 → (opened s).layout ≡ layout_of s
unfolding opened
opened_accepted s e = rw (eq-eqb (check s) 0 e)

module _ (s : List ℕ) where
  pub opened_count : (opened s).layout.count ≡ length (open_parts s)
  unfolding opened open_parts
  opened_count = by_cases (eqb (check s) 0) (λ e. rw e (sym (split_length s))) (λ e. rw e)

  pub opened_part : (code : ℕ) → cut_of s (place_of (opened s).layout code) ≡ find (open_parts s) code
  unfolding opened open_parts
  opened_part code =
      by_cases (eqb (check s) 0) (λ e. rw e (layout_part s ((accepted_iff s).0 (eqb-true (check s) 0 e)).laid code)) (λ e. rw e (none_part s code))

  pub located : (code : ℕ)
      → Located s (open_parts s) code (place_of (opened s).layout code).offset (place_of (opened s).layout code).length
  unfolding opened open_parts
  located code =
      by_cases (eqb (check s) 0) (λ e. rw e (layout_located s ((accepted_iff s).0 (eqb-true (check s) 0 e)).laid code))
      (λ e. rw e (none_located s code))

-- ---- 1 to 10, after `opened` found what it found

module _ {found : Opening} (s : List ℕ) (is : found ≡ opened s) where
  -- A refused sheet stays refused.
  pub indexed_refused : (found.number ≡ 0 → ⊥) → found ≡ indexed s
  unfolding opened indexed indexed_questions check
  indexed_refused some =
      let no : 0 < check s = omega (arith, some, ap (λ (o : Opening). o.number) is) in
      is ∙ ap (λ (n : ℕ). opened_at n s) (sym (append_no (check_questions s) _ (check_numbered s) no))

  module _ (ok : found.number ≡ 0) where
    accepted : check s ≡ 0
    unfolding opened
    accepted = sym (ap (λ (o : Opening). o.number) is) ∙ ok

    asked : answer (indexed_questions s) ≡ cond (question10 (split s)) 0 10
    unfolding indexed_questions answer check
    asked = append_yes (check_questions s) _ (check_numbered s) accepted

    layout_is : found.layout ≡ layout_of s
    layout_is = rw is (opened_accepted s accepted)

    both : is_there found.layout 2 && is_there found.layout 3 ≡ question10 (split s)
    unfolding question10
    both =
        let laid = ((accepted_iff s).0 accepted).laid in
        rw (layout_is, layout_there s laid 2, layout_there s laid 3)

    pub indexed_there : is_there found.layout 2 && is_there found.layout 3 ≡ true → record { number = found.number; layout = found.layout } ≡ indexed s
    unfolding indexed
    indexed_there e = rw (asked, sym both ∙ e, ok, layout_is)

    pub indexed_missing : is_there found.layout 2 && is_there found.layout 3 ≡ false → record { number = 10; layout = no_parts } ≡ indexed s
    unfolding indexed
    indexed_missing e = rw (asked, sym both ∙ e)
