-- 02, request 10: "whoever made it, an accepted schedule is then ours byte for byte". Over the bytes of sheets, and so of what the judge
-- answers. Assumes nothing.
use Rattle.std.specs.Prelude.{ℕ, ◌≡◌, List, ◌↔◌}
use Rattle.jobs.specs.declared.Answer.{Answer}
use Rattle.jobs.specs.Jobs.{scheduled, ScheduledHere}
use Rattle.jobs.specs.Demand3.{Demand3}

-- ---- what is said

-- Of judging the sheet s, which answered r: 0 exactly where the sheet is scheduled here. Then its bytes are those that scheduling writes for it,
-- and demand 3 holds of it, whoever made it.
pub record MeetsJudging (s : List ℕ) (r : Answer) : Type 0 where
  pub here : (r.number ≡ 0) ↔ ScheduledHere s
  pub ours : r.number ≡ 0 → s ≡ scheduled s
  pub demand3 : r.number ≡ 0 → Demand3 s
