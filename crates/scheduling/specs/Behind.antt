-- Part 2 behind the marks that it is of, in one buffer `a`.
use Rattle.std.specs.Prelude.{ℕ, ◌+◌, ◌*◌, List, ◌++◌, take, drop}
use Rattle.marks.specs.Marks.{mark_size}
use Rattle.elimination.specs.Records.{record_size}
use Rattle.elimination.specs.Reel.{Reel, schedule_of}

-- the n marks that a buffer begins with, ranked by this edition, of this shape and with these popups
abbrev pub reel_in : ℕ → ℕ → List ℕ → List ℕ → ℕ → Reel
reel_in edition shape popups a n = record { marks = take (mark_size * n) a; count = n; edition = edition; shape = shape; popups = popups }

-- where their schedule ends
abbrev pub schedule_end : ℕ → ℕ
schedule_end n = (mark_size + record_size) * n

-- the buffer with their schedule behind them; what follows stays
abbrev pub with_schedule : ℕ → ℕ → List ℕ → List ℕ → ℕ → List ℕ
with_schedule edition shape popups a n = take (mark_size * n) a ++ (schedule_of (reel_in edition shape popups a n) ++ drop (schedule_end n) a)
