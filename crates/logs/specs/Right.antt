-- What is known of a log that passed: 4, 15, 16, 5 and 6 as statements.
use Rattle.std.specs.Prelude.{ℕ, ◌+◌, ◌*◌, ◌<◌, ◌≤◌, ◌≡◌, true, List, length}
use Rattle.packed.specs.Packed.{coordinate_at, packed_at, is_place}
use Rattle.logs.specs.Log.{log_record_size, log_y_offset, radius_of, kind_of}

-- 15 and 16, of the coordinate at `at`
pub record PlaceRight (s : List ℕ) (at : ℕ) : Type 0 where
  pub packed : packed_at s at ≡ true
  pub place : is_place (coordinate_at s at) ≡ true

-- all questions of record r
pub record RecordRight (s : List ℕ) (r : ℕ) : Type 0 where
  pub x : PlaceRight s (log_record_size * r)
  pub y : PlaceRight s (log_record_size * r + log_y_offset)
  pub kind : kind_of s r < 200
  pub radius : radius_of s r ≤ 16383

-- a log of n records, each of them right
pub record LogRight (s : List ℕ) (n : ℕ) : Type 0 where
  pub few : n ≤ 4096
  pub long : length s ≡ log_record_size * n
  pub each : (r : ℕ) → r < n → RecordRight s r
