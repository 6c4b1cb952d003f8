-- 02, request 6: "Part 4, one byte, names edition 1 or 2; without it edition 1 holds." Request 13: "Part 7, one byte, names 1 disk or 2 square;
-- without it disks are meant." So a sheet without such a part and the same sheet with one that names 1 are scheduled, viewed and checked alike,
-- but for that part's own bytes. Assumes nothing.
use Rattle.std.specs.Prelude.{ℕ, ◌≡◌, Bool, true, false, List, [], ◌∷◌, ◌++◌, eqb}
use Rattle.std.proofs.Math.Path.{refl, sym}
use Rattle.std.proofs.Common.{ap, ◌∙◌, inl, inr, arith}
use borrow.Author.Tests.{eqb-true}
use Rattle.lists.proofs.TestLaws.{by_cases}
use Rattle.numbers.specs.Little.{Bytes}
use Rattle.contents.specs.Contents.{Part, find, has, split, marks_part, edition_part, popups_part, shape_part}
use Rattle.contents.specs.Asking.{Question, answer}
use Rattle.contents.proofs.Laws.{find_none, with_found, with_there, with_other_found, with_other_there, asked_no, append_yes, append_no}
use Rattle.parts.specs.Questions.{choice_in, is_choice}
use Rattle.bodies.specs.Questions.{reel_of, is_chosen, question7, question8, question9, question19, last_questions, body_questions, question21, question23, question24}
use Rattle.sheet.specs.Questions.{check_questions, check, question10, indexed_questions}
use Rattle.sheet.proofs.Laws.{check_numbered, indexed_numbered, indexed_iff}
use Rattle.zoom.specs.declared.Zoom.{Zoom}
use Rattle.reaching.specs.declared.Window.{Window}
use Rattle.reaching.specs.Questions.{view_questions}
use Rattle.jobs.specs.Jobs.{part_if, kept_parts, new_parts, scheduled, shown_in, view_job}
use Rattle.jobs.proofs.Theorems.{scheduled_parts}
use Rattle.jobs.proofs.Laws.Outcomes.{outcome_same}
use Rattle.jobs.specs.Choices.{IsChoiceCode, with_first}

-- ---- its parts

-- a code that is neither
apart : {code : ℕ} → IsChoiceCode code → (other : ℕ) → eqb 4 other ≡ false → eqb 7 other ≡ false → eqb code other ≡ false
apart (inl is) other four seven = rw (is) four
apart (inr is) other four seven = rw (is) seven

module _ (code : ℕ) (choice : IsChoiceCode code) (parts : List Part) where
  find_other : (other : ℕ) → eqb 4 other ≡ false → eqb 7 other ≡ false → find (with_first code parts) other ≡ find parts other
  find_other other four seven = with_other_found code (1 ∷ []) parts other (apart choice other four seven)

  has_other : (other : ℕ) → eqb 4 other ≡ false → eqb 7 other ≡ false → has (with_first code parts) other ≡ has parts other
  has_other other four seven = with_other_there code (1 ∷ []) parts other (apart choice other four seven)

  module _ (none : has parts code ≡ false) where
    -- What is named is the same, under any code,
    named_same : (other : ℕ) → choice_in (find (with_first code parts) other) ≡ choice_in (find parts other)
    named_same other =
        by_cases (eqb code other)
        (λ e. rw (← eqb-true code other e, with_found code (1 ∷ []) parts, find_none parts code none))
        (λ e. rw (with_other_found code (1 ∷ []) parts other e))

    -- and is right where it was.
    chosen_same : (other : ℕ) → is_chosen (with_first code parts) other ≡ is_chosen parts other
    unfolding is_chosen is_choice
    chosen_same other =
        by_cases (eqb code other)
        (λ e. rw (← eqb-true code other e, with_there code (1 ∷ []) parts, with_found code (1 ∷ []) parts, none))
        (λ e. rw (with_other_there code (1 ∷ []) parts other e, with_other_found code (1 ∷ []) parts other e))

    -- The reel is the same, so that the process, question 8, the rules and demand 3 are.
    pub same_reel : reel_of (with_first code parts) ≡ reel_of parts
    same_reel = rw (named_same 4, named_same 7, find_other 1 refl refl, find_other 5 refl refl)

    -- So is what is asked of the bodies,
    pub same_questions : body_questions (with_first code parts) ≡ body_questions parts
    unfolding body_questions last_questions question7 question19 question21 question24 question8 question9 question23
    same_questions =
        rw (
          chosen_same 4,
          chosen_same 7,
          named_same 4,
          named_same 7,
          find_other 1 refl refl,
          find_other 2 refl refl,
          find_other 3 refl refl,
          find_other 5 refl refl,
          find_other 6 refl refl,
          has_other 2 refl refl,
          has_other 3 refl refl,
          has_other 5 refl refl,
          has_other 6 refl refl,
        )

-- what is kept, by which parts are there and their bodies
kept_as : (parts : List Part) {e p v : Bool} {edition popups shape : List ℕ} → has parts 4 ≡ e → find parts 4 ≡ edition → has parts 5 ≡ p → find parts 5 ≡ popups
    → has parts 7 ≡ v → find parts 7 ≡ shape
    → kept_parts parts ≡ part_if e 4 edition ++ (part_if p 5 popups ++ part_if v 7 shape)
kept_as parts e-is edition-is p-is popups-is v-is shape-is = rw (e-is, edition-is, p-is, popups-is, v-is, shape-is)

-- and what scheduling writes, but for that part.
pub same_scheduled : (code : ℕ) → IsChoiceCode code → (parts : List Part) → has parts code ≡ false → (marks : List ℕ) (counted : Bool)
    → new_parts marks (kept_parts (with_first code parts)) counted ≡ with_first code (new_parts marks (kept_parts parts) counted)
same_scheduled code (inl is) parts none marks counted =
    let kept = kept_as (with_first 4 parts) (with_there 4 (1 ∷ []) parts) (with_found 4 (1 ∷ []) parts) (with_other_there 4 (1 ∷ []) parts 5 refl) (with_other_found 4 (1 ∷ []) parts 5 refl) (with_other_there 4 (1 ∷ []) parts 7 refl) (with_other_found 4 (1 ∷ []) parts 7 refl) in
    let before = kept_as parts (rw is at none) refl refl refl refl refl in
    ap (λ (c : ℕ). new_parts marks (kept_parts (with_first c parts)) counted) is
    ∙ ap (λ (k : List Part). new_parts marks k counted) kept
    ∙ put (has parts 5) (has parts 7) counted
    ∙ ap (λ (k : List Part). with_first 4 (new_parts marks k counted)) (sym before)
    ∙ ap (λ (c : ℕ). with_first c (new_parts marks (kept_parts parts) counted)) (sym is)
  where
    put : (p v c : Bool) → new_parts marks (part_if true 4 (1 ∷ []) ++ (part_if p 5 (popups_part parts) ++ part_if v 7 (shape_part parts))) c
        ≡ with_first 4 (new_parts marks (part_if p 5 (popups_part parts) ++ part_if v 7 (shape_part parts)) c)
    put true true true = refl
    put true true false = refl
    put true false true = refl
    put true false false = refl
    put false true true = refl
    put false true false = refl
    put false false true = refl
    put false false false = refl
same_scheduled code (inr is) parts none marks counted =
    let kept = kept_as (with_first 7 parts) (with_other_there 7 (1 ∷ []) parts 4 refl) (with_other_found 7 (1 ∷ []) parts 4 refl) (with_other_there 7 (1 ∷ []) parts 5 refl) (with_other_found 7 (1 ∷ []) parts 5 refl) (with_there 7 (1 ∷ []) parts) (with_found 7 (1 ∷ []) parts) in
    let before = kept_as parts refl refl refl refl (rw is at none) refl in
    ap (λ (c : ℕ). new_parts marks (kept_parts (with_first c parts)) counted) is
    ∙ ap (λ (k : List Part). new_parts marks k counted) kept
    ∙ put (has parts 4) (has parts 5) counted
    ∙ ap (λ (k : List Part). with_first 7 (new_parts marks k counted)) (sym before)
    ∙ ap (λ (c : ℕ). with_first c (new_parts marks (kept_parts parts) counted)) (sym is)
  where
    put : (e p c : Bool) → new_parts marks (part_if e 4 (edition_part parts) ++ (part_if p 5 (popups_part parts) ++ part_if true 7 (1 ∷ []))) c
        ≡ with_first 7 (new_parts marks (part_if e 4 (edition_part parts) ++ (part_if p 5 (popups_part parts) ++ [])) c)
    put true true true = refl
    put true true false = refl
    put true false true = refl
    put true false false = refl
    put false true true = refl
    put false true false = refl
    put false false true = refl
    put false false false = refl

-- a sheet without part 2 or 3 gets 10, whatever is asked then
gets_ten : (s : List ℕ) → check s ≡ 0 → question10 (split s) ≡ false → (rest : List Question) → answer (indexed_questions s ++ rest) ≡ 10
unfolding indexed_questions check
gets_ten s ok none rest =
    let ten : answer (indexed_questions s) ≡ 10 = append_yes (check_questions s) _ (check_numbered s) ok ∙ asked_no 10 _ none in
    append_no (indexed_questions s) rest (indexed_numbered s) (omega (arith, ten)) ∙ ten

-- ---- over the jobs: a sheet s without part 4 or 7, and t with the same parts and one of that code that names 1

module _ (code : ℕ) (choice : IsChoiceCode code) (s t : List ℕ) (none : has (split s) code ≡ false) (are : split t ≡ with_first code (split s)) where
  found_same : (other : ℕ) → eqb 4 other ≡ false → eqb 7 other ≡ false → find (split t) other ≡ find (split s) other
  found_same other four seven = rw are (find_other code choice (split s) other four seven)

  indexed_same : question10 (split t) ≡ question10 (split s)
  unfolding question10
  indexed_same = rw (are, has_other code choice (split s) 2 refl refl, has_other code choice (split s) 3 refl refl)

  shape_same : choice_in (shape_part (split t)) ≡ choice_in (shape_part (split s))
  shape_same = rw are (named_same code choice (split s) none 7)

  -- Both are scheduled to the same parts, but for that one.
  pub scheduled_first : Bytes s → Bytes t → check s ≡ 0 → check t ≡ 0 → split (scheduled t) ≡ with_first code (split (scheduled s))
  scheduled_first s-bytes t-bytes s-ok t-ok =
      scheduled_parts t t-bytes t-ok
      ∙ rw (found_same 1 refl refl, are, has_other code choice (split s) 6 refl refl)
      (same_scheduled code choice (split s) none (marks_part (split s)) (has (split s) 6) ∙ ap (with_first code) (sym (scheduled_parts s s-bytes s-ok)))

  -- Every view of both gives the same number, count and map.
  module _ (s-ok : check s ≡ 0) (t-ok : check t ≡ 0) (e : Window) (zoom : Zoom) (room : ℕ) where
    asked_same : answer (view_questions t e zoom room) ≡ answer (view_questions s e zoom room)
    unfolding view_questions
    asked_same =
        by_cases (question10 (split s))
        (λ q.
        append_yes (indexed_questions t) _ (indexed_numbered t) ((indexed_iff t).1 (t-ok, indexed_same ∙ q))
        ∙ rw (found_same 1 refl refl, shape_same) (sym (append_yes (indexed_questions s) _ (indexed_numbered s) ((indexed_iff s).1 (s-ok, q)))))
        (λ q. gets_ten t t-ok (indexed_same ∙ q) _ ∙ sym (gets_ten s s-ok q _))

    pub view_first : view_job t e zoom room ≡ view_job s e zoom room
    unfolding view_job shown_in
    view_first =
        outcome_same (view_questions t e zoom room) (view_questions s e zoom room) _ _ asked_same
        ∙ rw (found_same 1 refl refl, found_same 2 refl refl, found_same 5 refl refl, shape_same)
