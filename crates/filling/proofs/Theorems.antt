-- What filling makes of marks that pass 4 to 6. Assumes nothing.
use Rattle.std.specs.Prelude.{ℕ, ◌*◌, ◌<◌, ◌≡◌, List, length}
use Rattle.marks.specs.Marks.{mark_size, radius_at, kind_at, used_at}
use Rattle.marks.specs.Good.{GoodMarks}
use Rattle.contents.specs.Asking.{answer}
use Rattle.parts.specs.Questions.{mark_count, part1_questions}
use Rattle.parts.proofs.Laws.{part1_iff}
use Rattle.filling.specs.Filling.{filled_radius, filled}
use Rattle.filling.proofs.Lemmas.Filled as Lemmas

module _ (s : List ℕ) (accepted : answer (part1_questions s) ≡ 0) where
  abbrev n : ℕ
  n = mark_count s

  good : GoodMarks s n
  good = ((part1_iff s).0 accepted).0

  -- As many marks, 11 bytes each.
  pub filled_length : length (filled s) ≡ mark_size * n
  unfolding filled
  filled_length = Lemmas.full_long s n good

  pub filled_count : mark_count (filled s) ≡ n
  unfolding filled
  filled_count = Lemmas.full_count s n good

  -- They pass 4 to 6.
  pub filled_good : GoodMarks (filled s) n
  unfolding filled
  filled_good = Lemmas.full_good s n good

  pub filled_accepted : answer (part1_questions (filled s)) ≡ 0
  filled_accepted = (part1_iff (filled s)).1 (rw filled_count (filled_good, filled_length))

  module _ (m : ℕ) (below : m < n) where
    -- No radius is 0.
    pub filled_some : 0 < radius_at (filled s) m
    unfolding filled
    filled_some = Lemmas.radius_some s n good m below

    -- The radius that counts is the old table's, where 0 was written.
    pub filled_used : used_at (filled s) m ≡ filled_radius (radius_at s m) (kind_at s m)
    unfolding filled
    filled_used = Lemmas.used_is s n good m below

  -- "Filling twice equals filling once."
  pub filled_again : filled (filled s) ≡ filled s
  unfolding filled
  filled_again = rw (Lemmas.full_count s n good) (Lemmas.full_again s n good)
