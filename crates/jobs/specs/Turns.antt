-- 02, request 8: "For a sheet scheduled here, scheduling the turned marks, where they fit 01's range, with the sheet's parts beyond 3 carried
-- along, and viewing without a turn gives the same map." Request 13: "Squares take no turn but 0, so the guarantee on turned marks is for disks."
-- Over the jobs and bytes; the contracts of the views cite it. Assumes nothing.
use Rattle.std.specs.Prelude.{ℕ, ◌≤◌, ◌≡◌, List, ◌∷◌, ◌≢◌, length}
use Rattle.changing.specs.Turned.{turned_marks, TurnedFit}
use Rattle.contents.specs.Contents.{◌holds◌, split, join, marks_part}
use Rattle.sheet.specs.Questions.{sheet_count, sheet_shape, check}
use Rattle.zoom.specs.declared.Zoom.{Zoom}
use Rattle.reaching.specs.declared.Window.{Window}
use Rattle.jobs.specs.declared.Answer.{Answer}
use Rattle.jobs.specs.Jobs.{kept_parts, scheduled, ScheduledHere, view_job}
use Rattle.jobs.specs.Answers.{Gives}

-- ---- what is said

-- the sheet of the turned marks, "with the sheet's parts beyond 3 carried along"; request 12: "The guarantee on turned marks doesn't carry part 6
-- along."
abbrev pub turned_sheet : ℕ → List ℕ → List ℕ
turned_sheet t s = join ((1 holds turned_marks t (marks_part (split s)) (sheet_count s)) ∷ kept_parts (split s))

-- "viewing without a turn"
abbrev pub unturned : Window → Window
unturned e = record { x0 = e.x0; x1 = e.x1; y0 = e.y0; y1 = e.y1; turn = 0 }

-- Of viewing the sheet s by a window, which answered r and left `map` in a buffer that held `before`: so many quarter turns of its marks fit.
-- Then the sheet of the turned marks is accepted, and scheduled and viewed without a turn it gives the same: number, count and every byte,
-- refusals too.
pub record MeetsTurn (s : List ℕ) (e : Window) (zoom : Zoom) (before : List ℕ) (r : Answer) (map : List ℕ) : Type 0 where
  pub accepted : ScheduledHere s → TurnedFit e.turn (marks_part (split s)) (sheet_count s) → check (turned_sheet e.turn s) ≡ 0
  pub same : ScheduledHere s → sheet_shape s ≢ 2 → TurnedFit e.turn (marks_part (split s)) (sheet_count s) → e.turn ≤ 3
      → Gives (view_job (scheduled (turned_sheet e.turn s)) (unturned e) zoom (length before)) before r map
