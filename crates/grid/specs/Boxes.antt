-- What a region tells of the rows in it, and what a label can expect of them.
use Rattle.std.specs.Prelude.{ℕ, ◌+◌, ◌-◌, ◌*◌, ◌≤◌, max, cond}
use Rattle.fractions.specs.declared.Fraction.{Fraction}
use Rattle.fractions.specs.Order.{less, AtMost}
use Rattle.marks.specs.declared.Label.{Label}
use Rattle.marks.specs.Marks.{shifted, distance}
use Rattle.grid.specs.declared.Region.{Region}

-- a label's shifted place lies in the box, and its radius is at most the largest
pub record Inside (r : Region) (a : Label) : Type 0 where
  pub west : 65535 ≤ r.west + shifted a.x
  pub east : shifted a.x ≤ r.east
  pub south : 65535 ≤ r.south + shifted a.y
  pub north : shifted a.y ≤ r.north
  pub radius : a.radius ≤ r.radius

-- and a removal value is at most the latest: a row of this label and value may be in the region
pub record Holds (r : Region) (a : Label) (f : Fraction) : Type 0 where
  pub inside : Inside r a
  pub latest : AtMost f r.latest

-- ---- one row more

abbrev pub later_of : Fraction → Fraction → Fraction
later_of f g = cond (less f g) g f

-- the region with a row of this label and removal value in it, and with this last row
abbrev pub widened : Region → Label → Fraction → ℕ → Region
widened r a f last =
    record {
      west = max r.west (65535 - shifted a.x);
      east = max r.east (shifted a.x);
      south = max r.south (65535 - shifted a.y);
      north = max r.north (shifted a.y);
      radius = max r.radius a.radius;
      last = last;
      latest = later_of r.latest f;
    }

-- ---- the distance from a box

-- how far a lies from the numbers from 65,535 - low to high: 0 among them
abbrev pub outside : ℕ → ℕ → ℕ → ℕ
outside low high a = 65535 - low - a + (a - high)

-- The touching value of a label and one of the largest radius at the nearest place of the box: no label that the region holds touches it sooner.
abbrev pub bound_of : ℕ → Region → Label → Fraction
bound_of shape r a =
    record {
      num = distance shape (outside r.west r.east (shifted a.x)) (outside r.south r.north (shifted a.y));
      den = (r.radius + a.radius) * (r.radius + a.radius);
    }
