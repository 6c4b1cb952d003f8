-- What the functions of src read of a schedule, and the room that they ask for.
use Rattle.std.specs.Prelude.{ℕ, ◌+◌, ◌*◌, ◌<◌, ◌≤◌, ◌≡◌, false, cond, List, length}
use Rattle.fractions.specs.Order.{Small}
use Rattle.text.specs.Text.{number_room}
use Rattle.elimination.specs.Process.{Removal, stays, gone}
use Rattle.elimination.specs.Records.{record_size, is_never, mark_record, eliminator_at, den_at, fraction_at}

-- ---- a schedule's records

-- What becomes of mark m, by its record in the schedule `p`.
unfoldable pub removal_at : List ℕ → ℕ → Removal
removal_at p m = cond (is_never (mark_record p m)) stays (gone (eliminator_at p m) (fraction_at p m))

-- the removal zoom of such a value can be worked out in 64 bits
pub record Zoomable (p : List ℕ) (m : ℕ) : Type 0 where
  pub small : Small (fraction_at p m)
  pub positive : 0 < den_at p m

-- n records, each of them 'never' or with a removal zoom
pub record Printable (p : List ℕ) (n : ℕ) : Type 0 where
  pub long : record_size * n ≤ length p
  pub zooms : (m : ℕ) → m < n → is_never (mark_record p m) ≡ false → Zoomable p m

-- ---- room

-- The longest line has five numbers, each with one byte behind it.
abbrev pub line_room : ℕ
line_room = 5 * number_room

-- The first line has a word of at most 7 letters, a space, and one such number.
abbrev pub first_room : ℕ
first_room = 7 + 1 + number_room

abbrev pub text_room : ℕ → ℕ
text_room n = line_room * n + first_room
