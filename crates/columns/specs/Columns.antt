-- 02, request 11, "Archive by columns". `s` is part 1 of a sheet, `c` the same marks by columns, n their number and m a mark's.
use Rattle.std.specs.Prelude.{ℕ, zero, suc, ◌+◌, ◌-◌, ◌*◌, ◌%◌, List, ◌++◌}
use Rattle.numbers.specs.Little.{le_at, le_bytes}
use Rattle.rows.specs.Rows.{rows}
use Rattle.marks.specs.Marks.{mark_size, y_offset, radius_offset, priority_offset, kind_offset, tag_offset}

-- the six values that each mark has
pub record Values : Type 0 where
  pub x : ℕ → ℕ
  pub y : ℕ → ℕ
  pub radius : ℕ → ℕ
  pub priority : ℕ → ℕ
  pub kind : ℕ → ℕ
  pub tag : ℕ → ℕ

-- ---- marks: 11 bytes each, "place x and y (2 bytes each), radius (2), priority (2), kind (1), tag (2)"

abbrev pub mark : ℕ → ℕ → ℕ → ℕ → ℕ → ℕ → List ℕ
mark x y radius priority kind tag =
    le_bytes 2 x ++ (le_bytes 2 y ++ (le_bytes 2 radius ++ (le_bytes 2 priority ++ (le_bytes 1 kind ++ le_bytes 2 tag))))

abbrev pub mark_of : Values → ℕ → List ℕ
mark_of v m = mark (v.x m) (v.y m) (v.radius m) (v.priority m) (v.kind m) (v.tag m)

unfoldable pub as_marks : Values → ℕ → List ℕ
as_marks v n = rows (mark_of v) n

-- the value of `width` bytes that stands at byte `at` of a mark
abbrev pub field : ℕ → ℕ → List ℕ → ℕ → ℕ
field width at s m = le_at width s (mark_size * m + at)

abbrev pub in_marks : List ℕ → Values
in_marks s =
    record {
      x = field 2 0 s;
      y = field 2 y_offset s;
      radius = field 2 radius_offset s;
      priority = field 2 priority_offset s;
      kind = field 1 kind_offset s;
      tag = field 2 tag_offset s;
    }

-- ---- columns: "all x, then all y, radii, priorities, kinds, tags"

-- one value of every mark, in `width` bytes each
abbrev pub column : ℕ → (ℕ → ℕ) → ℕ → List ℕ
column width value n = rows (λ m. le_bytes width (value m)) n

unfoldable pub as_columns : Values → ℕ → List ℕ
as_columns v n =
    column 2 v.x n
    ++ (column 2 v.y n
    ++ (column 2 v.radius n
    ++ (column 2 v.priority n
    ++ (column 1 v.kind n
    ++ column 2 v.tag n))))

-- the value that mark m has in the column of `width` bytes each that begins at `start`; that of n marks begins at n times the offset of its field
abbrev pub entry : ℕ → ℕ → List ℕ → ℕ → ℕ
entry width start c m = le_at width c (start + width * m)

abbrev pub in_columns : List ℕ → ℕ → Values
in_columns c n =
    record {
      x = entry 2 0 c;
      y = entry 2 (y_offset * n) c;
      radius = entry 2 (radius_offset * n) c;
      priority = entry 2 (priority_offset * n) c;
      kind = entry 1 (kind_offset * n) c;
      tag = entry 2 (tag_offset * n) c;
    }

-- ---- differences

-- "Each x after the first is replaced by its difference from the x before, modulo 65,536"
unfoldable pub differences : (ℕ → ℕ) → ℕ → ℕ
differences value zero = value zero
differences value (suc m) = (value (suc m) + 65536 - value m) % 65536

-- the other way: each after the first is added to what was found before
unfoldable pub sums : (ℕ → ℕ) → ℕ → ℕ
sums value zero = value zero
sums value (suc m) = (sums value m + value (suc m)) % 65536

-- "Each x .., and each y likewise"; the others stay
abbrev pub places_by : ((ℕ → ℕ) → ℕ → ℕ) → Values → Values
places_by change v =
    record { x = change v.x; y = change v.y; radius = v.radius; priority = v.priority; kind = v.kind; tag = v.tag }

-- ---- both ways

-- "Rearrange part 1"
unfoldable pub to_columns : List ℕ → ℕ → List ℕ
to_columns s n = as_columns (places_by differences (in_marks s)) n

-- "The inverse"
unfoldable pub from_columns : List ℕ → ℕ → List ℕ
from_columns c n = as_marks (places_by sums (in_columns c n)) n
