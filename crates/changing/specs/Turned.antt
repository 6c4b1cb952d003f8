-- 02, request 8: "the turned marks, where they fit 01's range". `s` is the marks' bytes.
use Rattle.std.specs.Prelude.{ℕ, ◌<◌, List}
use Rattle.std.specs.Int.Signed.{mag}
use Rattle.marks.specs.declared.Mark.{Mark}
use Rattle.marks.specs.Marks.{x_at, y_at, radius_at, priority_at, kind_at, tag_at, mark_bytes}
use Rattle.turns.specs.declared.Place.{Place}
use Rattle.turns.specs.Turns.{turned_place}
use Rattle.rows.specs.Rows.{rows}

-- where mark m is after t quarter turns
abbrev pub turned_at : ℕ → List ℕ → ℕ → Place
turned_at t s m = turned_place t (record { x = x_at s m; y = y_at s m })

-- mark m with its place turned: its other fields are its own
abbrev pub turned_mark : ℕ → List ℕ → ℕ → Mark
turned_mark t s m =
    record {
      x = (turned_at t s m).x;
      y = (turned_at t s m).y;
      radius = radius_at s m;
      priority = priority_at s m;
      kind = kind_at s m;
      tag = tag_at s m;
    }

-- the first n marks, turned
unfoldable pub turned_marks : ℕ → List ℕ → ℕ → List ℕ
turned_marks t s n = rows (λ m. mark_bytes (turned_mark t s m)) n

-- "where they fit 01's range": both coordinates of each are numbers of 16 bits with a sign. -y is none where y is -32,768.
pub record TurnedFit (t : ℕ) (s : List ℕ) (n : ℕ) : Type 0 where
  pub x_fits : (m : ℕ) → m < n → mag (turned_at t s m).x < 32768
  pub y_fits : (m : ℕ) → m < n → mag (turned_at t s m).y < 32768
