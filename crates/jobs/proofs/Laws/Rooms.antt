-- A job that asks `checks`, and then 13 of a buffer for `size` bytes, which it writes. Assumes nothing.
use Rattle.std.specs.Prelude.{ℕ, ◌<◌, ◌≤◌, ◌≡◌, List, [], ◌∷◌, ◌++◌, leb, length, take, drop}
use Rattle.std.proofs.Common.{sym, ◌∙◌, arith, le-leb}
use Rattle.std.proofs.lemmas.List.Edits.{sets}
use Rattle.std.proofs.Math.Seq.{take-append_seam}
use Rattle.std.proofs.lemmas.Bool.{lt-leb}
use Rattle.lists.proofs.StoreLaws.{over_sets}
use Rattle.contents.specs.Asking.{Question, ◌asks◌, answer}
use Rattle.contents.proofs.Laws.{append_yes, append_no, append_iff}
use Rattle.contents.proofs.Laws.{Numbered, none_asked, asked_yes, asked_no}
use Rattle.jobs.specs.declared.Answer.{Answer}
use Rattle.jobs.specs.Jobs.{outcome}
use Rattle.jobs.specs.Answers.{refusal, Gives}
use Rattle.jobs.proofs.Laws.Outcomes.{all_yes, value_is, bytes_are, refused_gives, written_gives}

module _ (checks : List Question) (numbered : Numbered checks) (size : ℕ) where
  -- what is asked where there are `room` bytes
  abbrev asked : ℕ → List Question
  asked room = checks ++ ((13 asks leb size room) ∷ [])

  pub with_room : {room : ℕ} → answer checks ≡ 0 → size ≤ room → answer (asked room) ≡ 0
  with_room {room} e h = append_yes checks _ numbered e ∙ asked_yes 13 _ (le-leb size room h) ∙ none_asked

  without_room : {room : ℕ} → answer checks ≡ 0 → room < size → answer (asked room) ≡ 13
  without_room {room} e h = append_yes checks _ numbered e ∙ asked_no 13 _ (lt-leb size room h)

  -- each way out
  module _ (w before : List ℕ) {r : Answer} where
    pub stopped : {number : ℕ} → number ≡ answer checks → 0 < number → r ≡ refusal number
        → Gives (outcome (asked (length before)) size w) before r before
    stopped {number} e some is =
        refused_gives (asked (length before)) size w before number (append_no checks _ numbered (omega arith) ∙ sym e) some is

    pub no_room : answer checks ≡ 0 → length before < size → r ≡ refusal 13 → Gives (outcome (asked (length before)) size w) before r before
    no_room e short is = refused_gives (asked (length before)) size w before 13 (without_room e short) (omega arith) is

    pub wrote : answer checks ≡ 0 → size ≤ length before → size ≡ length w → r ≡ record { number = 0; value = size }
        → {left : List ℕ} → left ≡ sets before 0 w → Gives (outcome (asked (length before)) size w) before r left
    wrote e room long is bytes =
        written_gives (asked (length before)) size w before (with_room e room) is (bytes ∙ over_sets w before (omega arith))

  -- a call that answers 0: the checks were passed, and the bytes that it counts are those written
  module _ (w before : List ℕ) {r : Answer} {left : List ℕ} (gives : Gives (outcome (asked (length before)) size w) before r left)
      (zero : r.number ≡ 0) where
    pub passed : answer checks ≡ 0
    passed = ((append_iff checks _ numbered).0 (all_yes (asked (length before)) size w before gives zero)).0

    pub counted : size ≡ length w → take r.value left ≡ w
    counted long =
        rw (value_is (asked (length before)) size w before gives zero, bytes_are (asked (length before)) size w before gives zero, long)
        (take-append_seam w (drop (length w) before))
