-- What the project cites of one part that passed its questions. The proofs are in Lemmas. Assumes nothing.
use Rattle.std.specs.Prelude.{ℕ, ◌*◌, ◌<◌, ◌≤◌, ◌≡◌, refl, eqb, length, true, List, [], ◌∷◌, ◌↔◌, ◌⊎◌}
use Rattle.fractions.specs.Order.{Small}
use Rattle.elimination.specs.Records.{fraction_at}
use Rattle.elimination.specs.Reel.{Reel, GoodReel}
use Rattle.marks.specs.Marks.{mark_size, house_of, house_number, is_kind}
use Rattle.marks.specs.Pairs.{popup_size, popup_at, GoodPopups}
use Rattle.marks.specs.Good.{GoodMarks}
use Rattle.std.specs.Prelude.{Option}
use Rattle.std.specs.Prelude.{Some, None}
use Rattle.contents.specs.Asking.{◌asks◌, answer}
use Rattle.contents.proofs.Laws.{Numbered}
use Rattle.parts.specs.Questions.{mark_count, field_questions, part1_questions, is_choice, is_popups, is_schedule}
use Rattle.parts.proofs.Lemmas.Numbered as Numbering
use Rattle.parts.proofs.Lemmas.Deciding as Deciding
use Rattle.parts.proofs.Lemmas.Records as Records
-- what `all` answers over a range that begins at 0
pub use Rattle.parts.proofs.Lemmas.Ranges.{every_from_all}

-- No question of the marks bears the number 0.
pub part1_numbered : (s : List ℕ) → Numbered (part1_questions s)
part1_numbered = Numbering.part1_numbered

-- Asking question 5 of a kind answers the number of its house radius.
pub kind_answer : (kind : ℕ) → answer ((5 asks is_kind kind) ∷ []) ≡ house_number (house_of kind)
unfolding answer is_kind
kind_answer kind = go (house_of kind)
  where
    go : (r : Option ℕ) → answer ((5 asks eqb (house_number r) 0) ∷ []) ≡ house_number r
    go (Some radius) = refl
    go None = refl

-- what the answer 0 to questions 5 and 6 says
pub field_iff : (kind radius : ℕ) → (answer (field_questions kind radius) ≡ 0) ↔ ((kind < 200) × (radius ≤ 16383))
field_iff = Deciding.field_iff

-- to 4 to 6
pub part1_iff : (s : List ℕ) → (answer (part1_questions s) ≡ 0) ↔ (GoodMarks s (mark_count s) × (length s ≡ mark_size * mark_count s))
part1_iff = Deciding.part1_iff

-- What the answer yes to 21 says.
pub popups_iff : (body : List ℕ) (n : ℕ) → (is_popups body n ≡ true) ↔ ((length body ≡ popup_size * n) × ((m : ℕ) → m < n → popup_at body m ≤ 65536))
popups_iff = Deciding.popups_iff

-- There are enough bytes to be read, or none.
pub popups_enough : {q : List ℕ} {n : ℕ} → GoodPopups q n → (length q ≡ 0) ⊎ (popup_size * n ≤ length q)
popups_enough = Deciding.popups_enough

-- Part 4 is one byte.
pub choice_long : (body : List ℕ) → is_choice body ≡ true → length body ≡ 1
choice_long = Deciding.choice_long

-- Both numbers of a schedule record that passed question 8 are small: their cross products fit 64 bits.
pub record_small : (r : Reel) (p : List ℕ) (m : ℕ) → GoodReel r → is_schedule r p ≡ true → m < r.count → Small (fraction_at p m)
record_small = Records.record_small
