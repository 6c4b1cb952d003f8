-- 02, request 4: "each is worked out by a shift, and any other stop gets 12. On any sheet, edges and lent map, a stop and the wheel value
-- of the same zoom give the same answer, map and count." Over the jobs, and so of what the call at a stop answers and leaves.
use Rattle.std.specs.Prelude.{ℕ, ◌^◌, ◌<◌, ◌≤◌, ◌≡◌, true, false, List, length, Float}
use Rattle.std.specs.Float.Ieee.Exact.{HasValue}
use Rattle.contents.specs.Contents.{split}
use Rattle.sheet.specs.Questions.{sheet_shape, check, question10}
use Rattle.zoom.specs.declared.Zoom.TheVariants.{Wheel}
use Rattle.reaching.specs.declared.Window.{Window}
use Rattle.reaching.specs.Questions.{question20, question11}
use Rattle.jobs.specs.declared.Answer.{Answer}
use Rattle.jobs.specs.Jobs.{view_job}
use Rattle.jobs.specs.Answers.{refusal, Gives}

-- ---- what is said

-- w is the wheel value of the zoom of a stop, which is 2 to the power s, divided by 64; zoom Laws `stop_has_wheel` has one for each
abbrev pub SameZoom : ℕ → Float → Type 0
SameZoom stop w = HasValue w false (2 ^ stop) 64

-- Of viewing the sheet s at a stop, which answered r and left `map` in a buffer that held `before`.
pub record MeetsStop (s : List ℕ) (e : Window) (stop : ℕ) (before : List ℕ) (r : Answer) (map : List ℕ) : Type 0 where
  -- what the wheel value of the same zoom gives: number, count and every byte, refusals too
  pub same : stop ≤ 16 → (w : Float) → SameZoom stop w → Gives (view_job s e (Wheel w) (length before)) before r map
  -- any other stop is refused, and by 12 where questions 1 to 11 and 20 are answered with yes
  pub other : 16 < stop → 0 < r.number
  pub twelve : 16 < stop → check s ≡ 0 → question10 (split s) ≡ true → question20 (sheet_shape s) e ≡ true → question11 e ≡ true → r ≡ refusal 12
