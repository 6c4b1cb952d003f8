-- What the project cites of parts that fit one another. The proofs are in Lemmas. Assumes nothing.
use Rattle.std.specs.Prelude.{ℕ, ◌≡◌, true, List, ◌↔◌}
use Rattle.marks.specs.Pairs.{GoodPopups}
use Rattle.contents.specs.Asking.{answer}
use Rattle.contents.specs.Contents.{Part, codes_of, has, popups_part, Writable}
use Rattle.contents.specs.Questions.{codes_right}
use Rattle.contents.proofs.Laws.{Numbered}
use Rattle.parts.specs.Questions.{is_popups}
use Rattle.bodies.specs.Questions.{body_questions}
use Rattle.bodies.specs.Fitting.{Fitting}
use Rattle.bodies.proofs.Lemmas.Numbered as Numbering
use Rattle.bodies.proofs.Lemmas.Fitting as Fits
use Rattle.bodies.proofs.Lemmas.Small as Small

-- No question of the bodies bears the number 0.
pub bodies_numbered : (parts : List Part) → Numbered (body_questions parts)
bodies_numbered = Numbering.bodies_numbered

-- what the answer 0 to questions 4 to 9 says
pub fitting_iff : (parts : List Part) → (answer (body_questions parts) ≡ 0) ↔ Fitting parts
fitting_iff = Fits.fitting_iff

-- Without part 5 each popup is 0.
pub popups_good : (parts : List Part) (n : ℕ) → (has parts 5 ≡ true → is_popups (popups_part parts) n ≡ true) → GoodPopups (popups_part parts) n
popups_good = Fits.popups_good

-- Parts that fit one another are small enough for the contents.
pub fitting_writable : (parts : List Part) → Fitting parts → codes_right (codes_of parts) ≡ true → Writable parts
fitting_writable = Small.fitting_writable
