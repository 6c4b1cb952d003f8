-- What is claimed of a mark that is added, beside what is claimed of every sheet that is scheduled (Demand3 `Meets`). Coming proves it, and the
-- contract of adding cites it.
use Rattle.std.specs.Prelude.{ℕ, ◌≤◌, ◌≡◌, List, length, take}
use Rattle.marks.specs.declared.Mark.{Mark}
use Rattle.marks.specs.Fields.{HasFields}
use Rattle.marks.specs.Pairs.{popup_at}
use Rattle.scheduling.specs.Filling.{work_size}
use Rattle.contents.specs.Contents.{split, marks_part, popups_part}
use Rattle.sheet.specs.Questions.{sheet_count}
use Rattle.jobs.specs.declared.Answer.{Answer}
use Rattle.jobs.specs.Jobs.{wrote, ScheduledHere, take_out_job}

-- Of adding a mark with the popup k to the sheet s of n marks, which answered r and left `out`: it is mark n, has its fields, and k is its
-- popup, with part 5 and without; and "from a sheet scheduled here, adding a mark and taking that one out returns the old bytes", wherever there
-- is room for them.
pub record MeetsAdding (s : List ℕ) (mark : Mark) (k : ℕ) (r : Answer) (out : List ℕ) : Type 0 where
  pub last : r.number ≡ 0 → HasFields (marks_part (split (take r.value out))) (sheet_count s) mark
  pub popup : r.number ≡ 0 → popup_at (popups_part (split (take r.value out))) (sheet_count s) ≡ k
  pub back : r.number ≡ 0 → ScheduledHere s → (work room : ℕ) → work_size (sheet_count s) ≤ work → length s ≤ room
      → take_out_job (take r.value out) (sheet_count s) work room ≡ wrote s
