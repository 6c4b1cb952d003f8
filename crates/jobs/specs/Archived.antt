-- What is claimed of marks that are rearranged by columns, and of columns that are rearranged into marks. Laws.Archiving proves it of what the
-- calls write, and their contracts cite it.
use Rattle.std.specs.Prelude.{ℕ, ◌≤◌, ◌≡◌, List, length, take}
use Rattle.jobs.specs.declared.Answer.{Answer}
use Rattle.jobs.specs.Jobs.{wrote, to_columns_job, from_columns_job}

-- Of rearranging the marks s by columns, which answered r and left `out`: "The inverse returns every multiple of 11 bytes up to 45,056 exactly, also
-- where kind or radius would be refused", wherever there is room for it.
pub record MeetsColumns (s : List ℕ) (r : Answer) (out : List ℕ) : Type 0 where
  pub back : r.number ≡ 0 → (room : ℕ) → length s ≤ room → from_columns_job (take r.value out) room ≡ wrote s

-- Of rearranging the columns s into marks: "the two undo each other either way round".
pub record MeetsRows (s : List ℕ) (r : Answer) (out : List ℕ) : Type 0 where
  pub back : r.number ≡ 0 → (room : ℕ) → length s ≤ room → to_columns_job (take r.value out) room ≡ wrote s
