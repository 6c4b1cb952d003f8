-- What the contracts of the search say of turns: the window is turned back once, and the marks' places stay as they are. Edges and places are
-- shifted, as the index orders them. Lemmas has that who is shown in the window is who is shown here.
use Rattle.std.specs.Prelude.{ℕ, ◌+◌, ◌-◌, ◌*◌, ◌≤◌, Bool, true, false, cond, ◌&&◌, List, leb, ℤ}
use Rattle.marks.specs.Marks.{shifted, used_at, distance}
use Rattle.elimination.specs.Records.{value_at}
use Rattle.zoom.specs.Living.{lives_at}
use Rattle.index.specs.Index.{coordinate}
use Rattle.turns.specs.Turns.{turned_place}
use Rattle.reaching.specs.declared.Bounds.{Bounds}
use Rattle.reaching.specs.declared.Corner.{Corner}
use Rattle.reaching.specs.declared.Window.{Window}
use Rattle.counting.specs.Lives.{popped_up}

-- ---- the window turned back

-- a corner, turned
unfoldable pub corner_of : ℕ → ℤ → ℤ → Corner
corner_of t x y =
    let q = turned_place t (record { x = x; y = y }) in
    record { x = shifted q.x; y = shifted q.y }

abbrev pub lower : ℕ → ℕ → ℕ
lower a b = cond (leb a b) a b

abbrev pub higher : ℕ → ℕ → ℕ
higher a b = cond (leb a b) b a

-- what a window's turn lacks of four quarter turns
abbrev pub lacking : Window → ℕ
lacking w = 4 - w.turn

-- "Four quarter turns change no place": two corners are turned on by that.
unfoldable pub turned_back : Window → Bounds
turned_back w =
    let a = corner_of (lacking w) w.x0 w.y0 in
    let b = corner_of (lacking w) w.x1 w.y1 in
    record { x0 = lower a.x b.x; x1 = higher a.x b.x; y0 = lower a.y b.y; y1 = higher a.y b.y }

-- shifted edges of a window
pub record Edged (b : Bounds) : Type 0 where
  pub x0_most : b.x0 ≤ 65536
  pub x1_most : b.x1 ≤ 65536
  pub y0_most : b.y0 ≤ 65536
  pub y1_most : b.y1 ≤ 65536

-- ---- who is shown there

-- how far, on an axis, the coordinate c lies from the interval from `low` to `high`: 0 in it
abbrev pub gap_here : ℕ → ℕ → ℕ → ℕ
gap_here low high c = (low - c) + (c - high)

unfoldable pub distance_here : ℕ → List ℕ → Bounds → ℕ → ℕ
distance_here shape s b m = distance shape (gap_here b.x0 b.x1 (coordinate s true m)) (gap_here b.y0 b.y1 (coordinate s false m))

unfoldable pub reaches_here : ℕ → List ℕ → ℕ → Bounds → ℕ → Bool
reaches_here shape s k b m = leb (4096 * distance_here shape s b m) (k * k * (used_at s m * used_at s m))

-- who is shown, if it is not removed yet
unfoldable pub visible_here : ℕ → List ℕ → List ℕ → ℕ → Bounds → ℕ → Bool
visible_here shape s q k b m = popped_up q k m && reaches_here shape s k b m

unfoldable pub shown_here : ℕ → List ℕ → List ℕ → List ℕ → ℕ → Bounds → ℕ → Bool
shown_here shape s p q k b m = lives_at k (value_at p m) && visible_here shape s q k b m
