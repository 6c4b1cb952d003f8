-- 02, request 12, "Counts beside the reel": what is claimed of every accepted sheet with part 6, and of counting. Laws.Counting proves both, and
-- the contract of counting cites them.
use Rattle.std.specs.Prelude.{ℕ, suc, ◌+◌, ◌*◌, ◌<◌, ◌≤◌, ◌≡◌, true, false, ◌&&◌, List, eqb, pos, negsuc, length, take}
use Rattle.lists.specs.Tests.{how_many}
use Rattle.numbers.specs.Little.{le_at}
use Rattle.counting.specs.Counts.{stops, groups, in_group, living_count}
use Rattle.contents.specs.Contents.{find, has, split, marks_part, schedule_part, popups_part, counts_part}
use Rattle.contents.specs.Asking.{answer}
use Rattle.sheet.specs.Questions.{sheet_count, check}
use Rattle.bitmap.specs.Map.{is_set}
use Rattle.zoom.specs.declared.Zoom.TheVariants.{Stop}
use Rattle.reaching.specs.declared.Window.{Window}
use Rattle.reaching.specs.Questions.{view_questions}
use Rattle.jobs.specs.declared.Answer.{Answer}
use Rattle.jobs.specs.Jobs.{wrote, after, count_job, view_job}

-- the count of a stop and a kind group, as part 6 has it: "stop 0 first, the five groups of 01 in order within it"
abbrev pub count_in : List ℕ → ℕ → ℕ → ℕ
count_in s stop group = le_at 2 (counts_part (split s)) (2 * (groups * stop + group))

-- the rectangle of all places, without a turn
abbrev pub everything : Window
everything = record { x0 = negsuc 32767; x1 = pos 32767; y0 = negsuc 32767; y1 = pos 32767; turn = 0 }

-- Of an accepted sheet with part 6.
pub record CountsRight (s : List ℕ) : Type 0 where
  -- "Each count equals the number of living marks, popups heeded, over the whole reel."
  pub counts : (stop group : ℕ) → stop < stops → group < groups
      → count_in s stop group ≡ living_count (marks_part (split s)) (schedule_part (split s)) (popups_part (split s)) (sheet_count s) stop group
  -- "Without part 5 no count grows from stop to stop."
  pub falls : has (split s) 5 ≡ false → (stop group : ℕ) → suc stop < stops → group < groups → count_in s (suc stop) group ≤ count_in s stop group
  -- It is the number of the group's marks that a view of everything at that stop shows. `buffer` is what the lent map held.
  pub viewed : (stop group : ℕ) → stop < stops → group < groups → (buffer : List ℕ) → answer (view_questions s everything (Stop stop) (length buffer)) ≡ 0
      → count_in s stop group
      ≡ how_many (λ m. in_group (marks_part (split s)) group m && is_set (after (view_job s everything (Stop stop) (length buffer)) buffer) m) (sheet_count s)

-- Of counting the sheet s, which answered r and left `out`: a success has written an accepted sheet with part 6, whose counts are right and whose
-- other parts are the sheet's own. A sheet that has part 6 comes back as it is, and so does what was written: counting again gives the same bytes.
pub record MeetsCounting (s : List ℕ) (r : Answer) (out : List ℕ) : Type 0 where
  pub accepted : r.number ≡ 0 → check (take r.value out) ≡ 0
  pub there : r.number ≡ 0 → has (split (take r.value out)) 6 ≡ true
  pub others : r.number ≡ 0 → (code : ℕ) → eqb 6 code ≡ false → find (split (take r.value out)) code ≡ find (split s) code
  pub right : r.number ≡ 0 → CountsRight (take r.value out)
  pub same : r.number ≡ 0 → has (split s) 6 ≡ true → take r.value out ≡ s
  pub again : r.number ≡ 0 → (room : ℕ) → r.value ≤ room → count_job (take r.value out) room ≡ wrote (take r.value out)
