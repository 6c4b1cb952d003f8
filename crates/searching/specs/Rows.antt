-- The rows that scheduling works on, one a mark, in the order of rank: number (2), x (2), y (2), used radius (2), popup (3), and what was
-- found for the mark, as its record in part 2 (14). `w` begins with the rows and `q` is a row.
use Rattle.std.specs.Prelude.{ℕ, ◌+◌, ◌*◌, ◌<◌, ◌≤◌, ◌≡◌, List}
use Rattle.numbers.specs.Little.{le_at, signed}
use Rattle.fractions.specs.declared.Fraction.{Fraction}
use Rattle.fractions.specs.Order.{Small}
use Rattle.marks.specs.declared.Label.{Label}
use Rattle.marks.specs.Marks.{larger, touching_of}
use Rattle.marks.specs.Pairs.{pair_of}
use Rattle.elimination.specs.declared.Record.{Record}
use Rattle.elimination.specs.Process.{Removal, stays, gone}
use Rattle.elimination.specs.Records.{record_at, fraction_of}

-- ---- the fields

abbrev pub row_size : ℕ
row_size = 25

-- where the fields behind the number begin
abbrev pub row_x_offset : ℕ
row_x_offset = 2

abbrev pub row_y_offset : ℕ
row_y_offset = 4

abbrev pub row_radius_offset : ℕ
row_radius_offset = 6

abbrev pub row_popup_offset : ℕ
row_popup_offset = 8

abbrev pub row_record_offset : ℕ
row_record_offset = 11

abbrev pub row_number : List ℕ → ℕ → ℕ
row_number w q = le_at 2 w (row_size * q)

abbrev pub row_label : List ℕ → ℕ → Label
row_label w q =
    record {
      x = signed 2 (le_at 2 w (row_size * q + row_x_offset));
      y = signed 2 (le_at 2 w (row_size * q + row_y_offset));
      radius = le_at 2 w (row_size * q + row_radius_offset);
    }

abbrev pub row_popup : List ℕ → ℕ → ℕ
row_popup w q = le_at 3 w (row_size * q + row_popup_offset)

abbrev pub row_record : List ℕ → ℕ → Record
row_record w q = record_at w (row_size * q + row_record_offset)

abbrev pub row_value : List ℕ → ℕ → Fraction
row_value w q = fraction_of (row_record w q)

-- the touching value of two rows, and their pair value
abbrev pub rows_touch : ℕ → List ℕ → ℕ → ℕ → Fraction
rows_touch shape w q p = touching_of shape (row_label w q) (row_label w p)

abbrev pub rows_pair : ℕ → List ℕ → ℕ → ℕ → Fraction
rows_pair shape w q p = pair_of (rows_touch shape w q p) (larger (row_popup w q) (row_popup w p))

-- ---- what was found

-- A mark that nobody removes has 1/0, which is above every fraction: the tests of the inner loop need no other case.
abbrev pub never : Fraction
never = record { num = 1; den = 0 }

-- the record of such a mark among the rows
abbrev pub row_never : Record
row_never = record { num = 1; den = 0; eliminator = 65535 }

-- the record that stands for a removal
abbrev pub Stored : Removal → Record → Type 0
Stored stays t = t ≡ row_never
Stored (gone h g) t = (h ≡ t.eliminator) × (g ≡ fraction_of t) × (0 < t.den)

abbrev pub StoredAt : List ℕ → ℕ → Removal → Type 0
StoredAt w q r = Stored r (row_record w q)

-- row q is complete, and no product of a comparison with it is too large
pub record Complete (w : List ℕ) (q : ℕ) : Type 0 where
  pub radius : (row_label w q).radius ≤ 16383
  pub popup : row_popup w q ≤ 65536
  pub value : Small (row_value w q)
