-- The grids and places whose products 32 bits hold.
use Rattle.std.specs.Prelude.{ℕ, ◌≤◌, List, [], get_or, ℤ, pos, nat_abs}
use Rattle.turns.specs.declared.Place.{Place}
use Rattle.turns.specs.Turns.{Grid}

-- from -n to n
pub record UpTo (n : ℕ) (z : ℤ) : Type 0 where
  pub most : nat_abs z ≤ n

pub record SmallRow (row : List ℤ) : Type 0 where
  pub each : (j : ℕ) → UpTo 16383 (get_or row j (pos 0))

-- `turn_small` of Laws: the grid of any number of quarter turns is
pub record Small (g : Grid) : Type 0 where
  pub rows : (i : ℕ) → SmallRow (get_or g i [])

-- from -n to n on both axes
pub record Within (n : ℕ) (p : Place) : Type 0 where
  pub x_within : UpTo n p.x
  pub y_within : UpTo n p.y
