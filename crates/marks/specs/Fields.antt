-- A mark by its six fields.
use Rattle.std.specs.Prelude.{ℕ, ◌<◌, ◌≡◌, List}
use Rattle.std.specs.Int.Signed.{mag}
use Rattle.marks.specs.declared.Mark.{Mark}
use Rattle.marks.specs.Marks.{x_at, y_at, radius_at, priority_at, kind_at, tag_at}

-- fields that fit the bytes that hold them, as all fields of the code do
pub record FieldsFit (a : Mark) : Type 0 where
  pub x_fits : mag a.x < 32768
  pub y_fits : mag a.y < 32768
  pub radius_fits : a.radius < 65536
  pub priority_fits : a.priority < 65536
  pub kind_fits : a.kind < 256
  pub tag_fits : a.tag < 65536

-- Mark m of the marks s has these fields.
pub record HasFields (s : List ℕ) (m : ℕ) (a : Mark) : Type 0 where
  pub x : x_at s m ≡ a.x
  pub y : y_at s m ≡ a.y
  pub radius : radius_at s m ≡ a.radius
  pub priority : priority_at s m ≡ a.priority
  pub kind : kind_at s m ≡ a.kind
  pub tag : tag_at s m ≡ a.tag
