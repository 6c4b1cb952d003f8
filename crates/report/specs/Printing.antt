-- What printing says it writes, and what it asks of the buffers lent to it.
use Rattle.std.specs.Prelude.{ℕ, ◌*◌, ◌<◌, ◌≤◌, ◌≡◌, cond, List, [], ◌∷◌, ◌++◌, eqb, length}
use Rattle.lists.specs.Stores.{over}
use Rattle.fractions.specs.declared.Fraction.{Fraction}
use Rattle.text.specs.Text.{decimal, denoted}
use Rattle.zoom.specs.Printed.{Nearest}
use Rattle.elimination.specs.Process.{gone}
use Rattle.elimination.specs.Records.{record_size}
use Rattle.elimination.specs.Reel.{schedule_of}
use Rattle.scheduling.specs.Filling.{work_size}
use Rattle.contents.specs.Contents.{split}
use Rattle.contents.specs.Asking.{answer}
use Rattle.bodies.specs.Questions.{reel_of}
use Rattle.sheet.specs.Questions.{sheet_count}
use Rattle.listing.specs.Lines.{text, line, mark_lines}
use Rattle.listing.specs.Listed.{text_room}
use Rattle.report.specs.Text.{most_marks, print_questions, removals, printed}

-- "at most 2,000 marks": their work buffer, their records and their lines
pub record Room (work schedule out : List ℕ) : Type 0 where
  pub work_room : work_size most_marks ≤ length work
  pub schedule_room : record_size * most_marks ≤ length schedule
  pub out_room : text_room most_marks ≤ length out

-- the records that are worked out for a sheet: none where it is refused
unfoldable pub worked_out : List ℕ → List ℕ
worked_out s = cond (eqb (answer (print_questions s)) 0) (schedule_of (reel_of (split s))) []

-- In the text of `s` the line of mark m, which `h` removes at `f`, stands behind those of the marks before it, and its last field is the nearest
-- 64th, in digits that denote it.
pub record ZoomLine (s : List ℕ) (m h : ℕ) (f : Fraction) : Type 0 where
  pub k : ℕ
  pub zoom : Nearest f k
  pub denotes : denoted 0 (decimal k) ≡ k
  pub rest : List ℕ
  pub stands : printed s ≡ line (text "marks" ∷ decimal (sheet_count s) ∷ [])
      ++ (mark_lines (removals s) m ++ (line (decimal m ∷ decimal h ∷ decimal f.num ∷ decimal f.den ∷ decimal k ∷ []) ++ rest))

-- What printing the sheet `s` answers, `r`, and what it leaves in `out` and `schedule`; of `work`, its length, and that a refusal leaves it
-- alone; and of the text, that every removal zoom in it is the nearest 64th.
pub record Prints (s work schedule out : List ℕ) (r : ℕ) (work-after schedule-after out-after : List ℕ) : Type 0 where
  pub size : r ≡ length (printed s)
  pub inside : r ≤ length out-after
  pub text : out-after ≡ over (printed s) out
  pub records : schedule-after ≡ over (worked_out s) schedule
  pub long : length work-after ≡ length work
  pub refused : 0 < answer (print_questions s) → work-after ≡ work
  pub zooms : answer (print_questions s) ≡ 0 → (m h : ℕ) (f : Fraction) → m < sheet_count s → removals s m ≡ gone h f → ZoomLine s m h f
