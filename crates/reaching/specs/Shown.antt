-- 02, requests 1, 8, 9 and 13: whose label reaches the rectangle, and who is shown. `shape` is that of the labels, `s` is part 1 of a sheet, `p` part 2 and `q` part 5,
-- empty where it is not there.
use Rattle.std.specs.Prelude.{ℕ, ◌+◌, ◌*◌, ◌≤◌, ◌≡◌, Bool, true, ◌&&◌, List, leb, ℤ, pos, negsuc, ◌-ℤ◌}
use Rattle.std.specs.Int.Signed.{le_z}
use Rattle.marks.specs.Marks.{x_at, y_at, used_at, apart, distance}
use Rattle.elimination.specs.Records.{value_at}
use Rattle.counting.specs.Lives.{lives}
use Rattle.turns.specs.declared.Place.{Place}
use Rattle.turns.specs.Turns.{turned_place}
use Rattle.reaching.specs.declared.Window.{Window}

-- how far one place lies above another, from their difference: 0 where it does not
abbrev pub above : ℤ → ℕ
above (pos d) = d
above (negsuc d) = 0

-- how far, on an axis, the place z lies from the interval from `low` to `high`: 0 in it
unfoldable pub gap : ℤ → ℤ → ℤ → ℕ
gap low high z = above (low -ℤ z) + above (z -ℤ high)

-- "the edges x0, x1, y0, y1", all of them inside
pub record Rectangle : Type 0 where
  pub x0 : ℤ
  pub x1 : ℤ
  pub y0 : ℤ
  pub y1 : ℤ

-- "the squared distance from point to rectangle"
unfoldable pub distance_squared : ℕ → Rectangle → Place → ℕ
distance_squared shape e q = distance shape (gap e.x0 e.x1 q.x) (gap e.y0 e.y1 q.y)

-- The label about the place q whose radius is r pixels, "at z reaches the rectangle, touching included: the squared distance from point to
-- rectangle, times 4096, is at most k² times the squared radius". Request 13: for squares the distance is their own "in touching and in
-- reaching a rectangle".
unfoldable pub label_reaches : ℕ → ℕ → Rectangle → Place → ℕ → Bool
label_reaches shape k e q r = leb (4096 * distance_squared shape e q) (k * k * (r * r))

abbrev pub place_at : List ℕ → ℕ → Place
place_at s m = record { x = x_at s m; y = y_at s m }

-- the edges of a window
abbrev pub edges_of : Window → Rectangle
edges_of w = record { x0 = w.x0; x1 = w.x1; y0 = w.y0; y1 = w.y1 }

-- "its edges .. refer to turned places"
unfoldable pub reaches : ℕ → List ℕ → ℕ → Window → ℕ → Bool
reaches shape s k w m = label_reaches shape k (edges_of w) (turned_place w.turn (place_at s m)) (used_at s m)

-- The same without that distance: the place (x, y) lies in the window, edges included, and in the label at z = k/64 about mark m's turned
-- place. Laws has that the label reaches the window exactly where there is such a place.
pub record CommonPlace (shape : ℕ) (s : List ℕ) (k : ℕ) (w : Window) (m : ℕ) : Type 0 where
  pub x : ℤ
  pub y : ℤ
  pub from_x0 : le_z w.x0 x ≡ true
  pub to_x1 : le_z x w.x1 ≡ true
  pub from_y0 : le_z w.y0 y ≡ true
  pub to_y1 : le_z y w.y1 ≡ true
  pub near : (let q = turned_place w.turn (place_at s m) in 4096 * distance shape (apart q.x x) (apart q.y y) ≤ k * k * (used_at s m * used_at s m))

-- "a mark is shown if it lives and its disk at z reaches the rectangle"; 01: "The view uses the schedule as the sheet has it."
unfoldable pub shown : ℕ → List ℕ → List ℕ → List ℕ → ℕ → Window → ℕ → Bool
shown shape s p q k w m = lives (value_at p m) q k m && reaches shape s k w m
