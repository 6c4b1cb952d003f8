-- What is claimed of filled marks. Lemmas.Filling proves it of what filling writes, and the contract of filling cites it.
use Rattle.std.specs.Prelude.{ℕ, ◌+◌, ◌<◌, ◌≤◌, ◌≡◌, List, [], ◌∷◌, length, take}
use Rattle.marks.specs.Marks.{radius_at, kind_at, used_at}
use Rattle.contents.specs.Asking.{answer}
use Rattle.parts.specs.Questions.{mark_count, part1_questions}
use Rattle.filling.specs.Filling.{filled_radius}
use Rattle.jobs.specs.declared.Answer.{Answer}
use Rattle.jobs.specs.Jobs.{assemble_job, fill_job}

-- The marks `w`, of the marks `s` that were given.
pub record Filled (s w : List ℕ) : Type 0 where
  -- They are as many, and pass 4 to 6.
  pub count : mark_count w ≡ mark_count s
  pub accepted : answer (part1_questions w) ≡ 0
  -- No radius is 0, and the one that counts is the one that counted by 01's old table.
  pub no_zero : (m : ℕ) → m < mark_count s → 0 < radius_at w m
  pub used : (m : ℕ) → m < mark_count s → used_at w m ≡ filled_radius (radius_at s m) (kind_at s m)
  -- "Filling twice equals filling once", whatever the room.
  pub again : (room : ℕ) → fill_job w room ≡ fill_job s room
  -- "puts it together afresh": where there is room, that is answered 0.
  pub afresh : (further : List (List ℕ)) (room : ℕ) → length w + 12 ≤ room → (assemble_job (1 ∷ []) (w ∷ further) room).number ≡ 0

-- Of filling the marks s, which answered r and left `out`.
pub record MeetsFilling (s : List ℕ) (r : Answer) (out : List ℕ) : Type 0 where
  pub filled : r.number ≡ 0 → Filled s (take r.value out)
