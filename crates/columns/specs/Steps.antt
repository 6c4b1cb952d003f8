-- What the code's own steps keep.
use Rattle.std.specs.Prelude.{ℕ, zero, suc, ◌+◌, ◌*◌, ◌≤◌, ◌<◌, ◌≡◌, List, [], ◌∷◌, length}
use Rattle.std.proofs.lemmas.List.Edits.{sets}
use Rattle.numbers.specs.Little.{le_bytes}
use Rattle.rows.specs.Rows.{rows}
use Rattle.marks.specs.Marks.{y_offset, radius_offset, priority_offset, kind_offset, tag_offset}
use Rattle.columns.specs.declared.Fields.{Fields}
use Rattle.columns.specs.Columns.{Values, mark, field, column, entry}

-- the value of the mark before, and 0 for the first
abbrev pub before : (ℕ → ℕ) → ℕ → ℕ
before value zero = 0
before value (suc m) = value m

-- ---- the values of one mark

-- those of mark m, and those that it has in the columns of n marks
abbrev pub fields_at : List ℕ → ℕ → Fields
fields_at s m =
    record {
      x = field 2 0 s m;
      y = field 2 y_offset s m;
      radius = field 2 radius_offset s m;
      priority = field 2 priority_offset s m;
      kind = field 1 kind_offset s m;
      tag = field 2 tag_offset s m;
    }

abbrev pub entries_at : List ℕ → ℕ → ℕ → Fields
entries_at c n m =
    record {
      x = entry 2 0 c m;
      y = entry 2 (y_offset * n) c m;
      radius = entry 2 (radius_offset * n) c m;
      priority = entry 2 (priority_offset * n) c m;
      kind = entry 1 (kind_offset * n) c m;
      tag = entry 2 (tag_offset * n) c m;
    }

-- the bytes of a mark of these values
abbrev pub mark_with : Fields → List ℕ
mark_with f = mark f.x f.y f.radius f.priority f.kind f.tag

-- these values, but another place
abbrev pub placed : Fields → ℕ → ℕ → Fields
placed f x y = record f { x = x; y = y }

-- ---- columns that are filled side by side

-- where one begins, the bytes of a value, and the values
pub record Column : Type 0 where
  pub start : ℕ
  pub width : ℕ
  pub value : ℕ → ℕ

abbrev pub columns_of : Values → ℕ → List Column
columns_of v n =
    record { start = 0; width = 2; value = v.x }
    ∷ record { start = y_offset * n; width = 2; value = v.y }
    ∷ record { start = radius_offset * n; width = 2; value = v.radius }
    ∷ record { start = priority_offset * n; width = 2; value = v.priority }
    ∷ record { start = kind_offset * n; width = 1; value = v.kind }
    ∷ record { start = tag_offset * n; width = 2; value = v.tag }
    ∷ []

-- the first m values of each stand in what was l
unfoldable pub filled_to : List Column → ℕ → List ℕ → List ℕ
filled_to [] m l = l
filled_to (c ∷ cs) m l = filled_to cs m (sets l c.start (column c.width c.value m))

-- value m of each is written
unfoldable pub entered : List Column → ℕ → List ℕ → List ℕ
entered [] m l = l
entered (c ∷ cs) m l = entered cs m (sets l (c.start + c.width * m) (le_bytes c.width (c.value m)))

-- these values for every mark
abbrev pub alike : Fields → Values
alike f =
    record { x = λ m. f.x; y = λ m. f.y; radius = λ m. f.radius; priority = λ m. f.priority; kind = λ m. f.kind; tag = λ m. f.tag }

-- ---- marks that are written one by one

-- the first m of n pieces stand at `start` of what was l₀
pub record Laid (l₀ : List ℕ) (start : ℕ) (piece : ℕ → List ℕ) (n : ℕ) (l : List ℕ) (m : ℕ) : Type 0 where
  pub within : m ≤ n
  pub long : length l ≡ length l₀
  pub laid : l ≡ sets l₀ start (rows piece m)

-- what is kept of a value is that of the mark before
pub record Kept (value : ℕ → ℕ) (last m : ℕ) : Type 0 where
  pub small : last < 65536
  pub last_is : last ≡ before value m
