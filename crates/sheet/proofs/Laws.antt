-- What the project cites of sheets that are checked, put together and opened. The proofs are in Lemmas. Assumes nothing.
use Rattle.std.specs.Prelude.{ℕ, ◌≤◌, ◌≡◌, true, List, ◌↔◌, length}
use Rattle.std.proofs.Common.{ap, ◌∙◌}
use borrow.Author.Tests.{eq-eqb}
use Rattle.numbers.specs.Little.{Bytes}
use Rattle.contents.specs.Contents.{Part, codes_of, has, find, split, join, Writable}
use Rattle.contents.specs.Asking.{answer}
use Rattle.contents.specs.Questions.{codes_right}
use Rattle.contents.specs.declared.Layout.{Layout}
use Rattle.contents.specs.Places.{layout_of, place_of, is_there, cut_of, Located}
use Rattle.contents.proofs.Laws as Contents
use Rattle.contents.proofs.Laws.{Numbered}
use Rattle.bodies.specs.Questions.{body_questions}
use Rattle.bodies.specs.Fitting.{Fitting}
use Rattle.bodies.proofs.Laws.{fitting_iff, fitting_writable}
use Rattle.sheet.specs.Opened.{Opening}
use Rattle.sheet.specs.Questions.{check_questions, check, question10, indexed_questions, parts_questions}
use Rattle.sheet.specs.Accepted.{Accepted}
use Rattle.sheet.specs.Opened.{opened, indexed, open_parts}
use Rattle.sheet.proofs.Lemmas.Accepting as Accepting
use Rattle.sheet.proofs.Lemmas.Opened as Opened

-- No question of checking bears the number 0.
pub check_numbered : (s : List ℕ) → Numbered (check_questions s)
check_numbered = Accepting.check_numbered

pub indexed_numbered : (s : List ℕ) → Numbered (indexed_questions s)
indexed_numbered = Accepting.indexed_numbered

-- ---- what the answer 0 says

-- 1 to 9
pub accepted_iff : (s : List ℕ) → (check s ≡ 0) ↔ Accepted s
accepted_iff = Accepting.accepted_iff

-- 1 to 10
pub indexed_iff : (s : List ℕ) → (answer (indexed_questions s) ≡ 0) ↔ ((check s ≡ 0) × (question10 (split s) ≡ true))
indexed_iff = Accepting.indexed_iff

-- 4 to 9 and 13, of parts that are put together
pub parts_iff : (parts : List Part) (room : ℕ) → (answer (parts_questions parts room) ≡ 0) ↔ (Fitting parts × (length (join parts) ≤ room))
parts_iff = Accepting.parts_iff

-- ---- the parts of a sheet

-- The layout of an accepted sheet gives its parts.
pub opened_accepted : (s : List ℕ) → check s ≡ 0 → (opened s).layout ≡ layout_of s
opened_accepted = Opened.opened_accepted

-- the parts by the layout of an accepted sheet
module _ {layout : Layout} (s : List ℕ) (ok : check s ≡ 0) (is : layout ≡ layout_of s) where
  pub layout_part : (code : ℕ) → cut_of s (place_of layout code) ≡ find (split s) code
  layout_part code = rw is (Contents.layout_part s ((accepted_iff s).0 ok).laid code)

  pub layout_there : (code : ℕ) → is_there layout code ≡ has (split s) code
  layout_there code = rw is (Contents.layout_there s ((accepted_iff s).0 ok).laid code)

-- what a caller of `opened` knows of what it found
module _ {found : Opening} (s : List ℕ) (is : found ≡ opened s) where
  pub found_number : found.number ≡ check s
  unfolding opened
  found_number = rw is

  pub found_layout : check s ≡ 0 → found.layout ≡ layout_of s
  found_layout ok = rw is (opened_accepted s ok)

  pub found_part : check s ≡ 0 → (code : ℕ) → cut_of s (place_of found.layout code) ≡ find (split s) code
  found_part ok = layout_part s ok (found_layout ok)

-- and a caller of `indexed`
module _ {found : Opening} (s : List ℕ) (is : found ≡ indexed s) where
  pub indexed_number : found.number ≡ answer (indexed_questions s)
  unfolding indexed
  indexed_number = rw is

  pub indexed_layout : answer (indexed_questions s) ≡ 0 → found.layout ≡ layout_of s
  unfolding indexed
  indexed_layout ok = rw (is, eq-eqb (answer (indexed_questions s)) 0 ok)

-- What an opened sheet's readers give are the sheet's parts, and none of a refused sheet.
pub opened_count : (s : List ℕ) → (opened s).layout.count ≡ length (open_parts s)
opened_count = Opened.opened_count

pub opened_part : (s : List ℕ) (code : ℕ) → cut_of s (place_of (opened s).layout code) ≡ find (open_parts s) code
opened_part = Opened.opened_part

-- Where a part lies are its bytes, and it lies above 0 exactly where it is there.
pub located : (s : List ℕ) (code : ℕ)
    → Located s (open_parts s) code (place_of (opened s).layout code).offset (place_of (opened s).layout code).length
located = Opened.located

-- ---- joining and splitting; that joining and then splitting gives the parts back is a law of the contents

-- Split then join gives an accepted sheet back, byte for byte.
pub sheet_again : (s : List ℕ) → Bytes s → check s ≡ 0 → join (split s) ≡ s
sheet_again s b e = Contents.join_split s b ((accepted_iff s).0 e).laid

module _ (parts : List Part) (right : codes_right (codes_of parts) ≡ true) where
  -- The contents of a joined sheet pass questions 1 to 3, so checking it asks what is asked of the bodies.
  pub check_join : Writable parts → check (join parts) ≡ answer (body_questions parts)
  check_join fits =
      Accepting.check_laid (join parts) (Contents.join_laid parts fits right)
      ∙ ap (λ (p : List Part). answer (body_questions p)) (Contents.split_join parts fits)

  -- Parts that pass 4 to 9 are small enough for the contents, and the sheet of them is accepted.
  pub join_accepted : Fitting parts → check (join parts) ≡ 0
  join_accepted fits = check_join (fitting_writable parts fits right) ∙ (fitting_iff parts).1 fits

-- An accepted sheet's parts are put together again where there is room for the sheet; by `sheet_again` that gives the same sheet.
pub parts_again : (s : List ℕ) (room : ℕ) → Bytes s → check s ≡ 0 → length s ≤ room → answer (parts_questions (split s) room) ≡ 0
parts_again s room b e h = (parts_iff (split s) room).1 (((accepted_iff s).0 e).fitting, rw (sheet_again s b e) h)
