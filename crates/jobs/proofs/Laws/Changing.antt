-- Adding and taking out: what each question that ends them answers, and what the code lends. Assumes nothing.
use Rattle.std.specs.Prelude.{ℕ, ◌+◌, ◌*◌, ◌<◌, ◌≤◌, ◌≡◌, true, false, List, ◌∷◌, ◌++◌, [], ltb, take, drop}
use Rattle.std.proofs.Math.Path.{sym}
use Rattle.std.proofs.Common.{◌∙◌, arith, lt-ltb, le-ltb}
use Rattle.marks.specs.declared.Mark.{Mark}
use Rattle.rows.specs.Rows.{without}
use Rattle.contents.specs.Asking.{Question, ◌asks◌, answer}
use Rattle.contents.proofs.Laws.{append_yes, append_no, asked_yes, asked_no, none_asked, Numbered}
use Rattle.contents.specs.Contents.{has, split}
use Rattle.parts.specs.Questions.{field_questions}
use Rattle.sheet.specs.Questions.{sheet_count, indexed_questions}
use Rattle.sheet.proofs.Laws.{indexed_numbered}
use Rattle.jobs.specs.Jobs.{is_new_popup, add_checks, take_out_checks}

-- ---- adding

module _ (s : List ℕ) (mark : Mark) (k : ℕ) where
  pub add_refused : {number : ℕ} → number ≡ answer (indexed_questions s) → 0 < number → number ≡ answer (add_checks s mark k)
  unfolding add_checks
  add_refused e some = e ∙ sym (append_no (indexed_questions s) _ (indexed_numbered s) (omega arith))

  module _ (ok : answer (indexed_questions s) ≡ 0) where
    abbrev fields : List Question
    fields = field_questions mark.kind mark.radius

    abbrev popup : List Question
    popup = (21 asks is_new_popup (has (split s) 5) k) ∷ []

    more : answer (add_checks s mark k) ≡ answer ((18 asks ltb (sheet_count s) 4096) ∷ (fields ++ popup))
    unfolding add_checks
    more = append_yes (indexed_questions s) _ (indexed_numbered s) ok

    pub add_full : 4096 ≤ sheet_count s → 18 ≡ answer (add_checks s mark k)
    add_full h = sym (more ∙ asked_no 18 _ (le-ltb (sheet_count s) 4096 h))

    module _ (room : sheet_count s < 4096) where
      rest : answer (add_checks s mark k) ≡ answer (fields ++ popup)
      rest = more ∙ asked_yes 18 _ (lt-ltb (sheet_count s) 4096 room)

      numbered : Numbered fields
      numbered = (omega arith, (omega arith, tt))

      pub add_fields : {number : ℕ} → number ≡ answer fields → 0 < number → number ≡ answer (add_checks s mark k)
      add_fields e some = e ∙ sym (rest ∙ append_no fields popup numbered (omega arith))

      -- "a new mark's k: right after 6"
      pub add_popup : answer fields ≡ 0 → {number : ℕ} → number ≡ answer popup → number ≡ answer (add_checks s mark k)
      add_popup none e = e ∙ sym (rest ∙ append_yes fields popup numbered none)

-- the answers to 21
module _ (s : List ℕ) (k : ℕ) where
  pub popup_no : is_new_popup (has (split s) 5) k ≡ false → 21 ≡ answer ((21 asks is_new_popup (has (split s) 5) k) ∷ [])
  popup_no e = sym (asked_no 21 [] e)

  pub popup_yes : is_new_popup (has (split s) 5) k ≡ true → 0 ≡ answer ((21 asks is_new_popup (has (split s) 5) k) ∷ [])
  popup_yes e = sym (asked_yes 21 [] e ∙ none_asked)

-- ---- taking out

module _ (s : List ℕ) (m : ℕ) where
  pub take_out_refused : {number : ℕ} → number ≡ answer (indexed_questions s) → 0 < number → number ≡ answer (take_out_checks s m)
  unfolding take_out_checks
  take_out_refused e some = e ∙ sym (append_no (indexed_questions s) _ (indexed_numbered s) (omega arith))

  pub take_out_none : answer (indexed_questions s) ≡ 0 → sheet_count s ≤ m → 17 ≡ answer (take_out_checks s m)
  unfolding take_out_checks
  take_out_none ok h = sym (append_yes (indexed_questions s) _ (indexed_numbered s) ok ∙ asked_no 17 _ (le-ltb m (sheet_count s) h))

-- what stands before row m and what stands behind it, as the code lends them
pub lent_pieces : (w m : ℕ) {l a b s : List ℕ} → a ≡ take (w * m) l → b ≡ drop (w * m + w) l → l ≡ s → a ++ b ≡ without w s m
unfolding without
lent_pieces w m e f g = rw (e, f, g)
