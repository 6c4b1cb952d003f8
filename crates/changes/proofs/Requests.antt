-- What is asked to be scheduled of an accepted sheet's parts, with a change to part 5, is taken, and is what the jobs keep. Assumes nothing.
use Rattle.std.specs.Prelude.{ℕ, ◌*◌, ◌≡◌, Bool, true, false, List, [], Option, Some, None, is_some, MatchOption, IfSome, IsSomeAnd, length}
use Rattle.std.specs.Borrow.{Bor}
use Rattle.std.proofs.Common.{refl, sym, ◌∙◌}
use Rattle.std.proofs.lemmas.Bool.{false≢true, true≢false}
use Rattle.marks.specs.Good.{GoodMarks}
use Rattle.contents.specs.Contents.{has, split, edition_part, popups_part, shape_part}
use Rattle.sheet.specs.Questions.{check}
use Rattle.jobs.specs.Jobs.{carried}
use Rattle.jobs.specs.Steps.{kept_from, PopupsLent, PartsLent}
use Rattle.jobs.proofs.Laws.Kept.{carried_lent, edition_short, shape_short, popups_lent}
use Rattle.writing.specs.declared.Pieces.{Pieces}
use Rattle.writing.specs.Pieces.{joined, joined_if}

-- part 5 by `change`, where it is there, and else nothing
rows_there : (popups : Option (Bor (List ℕ))) (r : Option Pieces) {P : Bor (List ℕ) → Pieces → Type 0} {part changed : List ℕ}
    → MatchOption popups (r ≡ None) (λ q. IsSomeAnd r (P q)) → IfSome popups (λ q. q.now ≡ part)
    → ((q : Bor (List ℕ)) (p : Pieces) → q.now ≡ part → P q p → joined p ≡ changed) → is_some popups ≡ true → joined_if r ≡ changed
rows_there None r cases is each e = absurd (false≢true e)
rows_there (Some q) None cases is each e = absurd cases
rows_there (Some q) (Some p) cases is each e = each q p is cases

rows_none : (r : Option Pieces) → is_some r ≡ false → joined_if r ≡ []
rows_none None e = refl
rows_none (Some p) e = absurd (true≢false e)

rows_lent : (there : Bool) {q lent : List ℕ} {n : ℕ} → PopupsLent there lent n → (there ≡ true → q ≡ lent) → (there ≡ false → q ≡ []) → PopupsLent there q n
rows_lent true l same none = rw (same refl) l
rows_lent false {q} {n = n} l same none = popups_lent false q n (λ e. absurd (false≢true e)) none

module _ (s : List ℕ) (ok : check s ≡ 0) (change : List ℕ → List ℕ) {edition shape : List ℕ} (popups : Option (Bor (List ℕ))) (r : Option Pieces)
    (P : Bor (List ℕ) → Pieces → Type 0) (e : edition ≡ edition_part (split s)) (v : shape ≡ shape_part (split s)) (there : is_some popups ≡ has (split s) 5)
    (part : IfSome popups (λ q. q.now ≡ popups_part (split s))) (variant : is_some r ≡ is_some popups) (cases : MatchOption popups (r ≡ None) (λ q. IsSomeAnd r (P q)))
    (each : (q : Bor (List ℕ)) (p : Pieces) → q.now ≡ popups_part (split s) → P q p → joined p ≡ change (popups_part (split s))) where
  rows : is_some r ≡ true → joined_if r ≡ change (popups_part (split s))
  rows t = rows_there popups r cases part each (sym variant ∙ t)

  pub asked_kept : kept_from edition (is_some r) (joined_if r) shape ≡ carried (split s) change
  asked_kept = carried_lent s ok change e (variant ∙ there) rows v

  pub asked_taken : {marks lent : List ℕ} {n : ℕ} → GoodMarks marks n → length marks ≡ 11 * n → PopupsLent (has (split s) 5) lent n
      → (has (split s) 5 ≡ true → change (popups_part (split s)) ≡ lent) → PartsLent marks edition (is_some r) (joined_if r) shape n
  asked_taken good long l same =
      let t = variant ∙ there in
      record {
        good = good;
        long = long;
        edition_short = rw e (edition_short s ok);
        shape_short = rw v (shape_short s ok);
        popups_lent = rows_lent (is_some r) (rw t l) (λ h. rows h ∙ same (sym t ∙ h)) (rows_none r);
      }
