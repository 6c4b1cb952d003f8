-- A label reaches the window exactly when it holds a place of it, so that the distance of Shown is one; and what asking a zoom answers.
-- Assumes nothing.
use Rattle.std.specs.Prelude.{ℕ, ◌*◌, ◌≡◌, refl, Bool, true, false, ◌&&◌, List, [], ◌∷◌, ◌↔◌, ◌≢◌, leb}
use Rattle.std.proofs.Common.{arith}
use Rattle.std.specs.Int.Signed.{le_z}
use borrow.Author.Tests.{leb-true, le-leb, ne_eqb}
use Rattle.zoom.specs.declared.Zoom.{Zoom}
use Rattle.zoom.specs.Zoom.{scale_of}
use Rattle.std.specs.Prelude.{Option}
use Rattle.std.specs.Prelude.{Some, None}
use Rattle.marks.specs.Marks.{used_at}
use Rattle.marks.proofs.Laws.{distance_grows}
use Rattle.lists.proofs.TestLaws.{and_left, and_right}
use Rattle.numbers.specs.Little.{Bytes}
use Rattle.contents.specs.Asking.{◌asks◌, answer}
use Rattle.contents.proofs.Laws.{append_yes}
use Rattle.sheet.specs.Questions.{indexed_questions, sheet_count, sheet_shape}
use Rattle.sheet.proofs.Laws.{indexed_numbered}
use Rattle.bitmap.specs.Map.{map_size}
use Rattle.turns.specs.declared.Place.{Place}
use Rattle.turns.specs.Turns.{turned_place}
use Rattle.reaching.specs.declared.Window.{Window}
use Rattle.reaching.specs.Shown.{distance_squared, label_reaches, place_at, edges_of, reaches, CommonPlace, shown}
use Rattle.reaching.specs.Questions.{is_window, question20, question11, scale_number, is_taken, view_questions}
use Rattle.reaching.specs.Turning.{turned_back, Edged, shown_here}
use Rattle.reaching.proofs.Lemmas.Gaps.{gap_least, nearest}
use Rattle.reaching.proofs.Lemmas.Turned as Turned

-- ---- reaching

module _ (shape : ℕ) (s : List ℕ) (k : ℕ) (w : Window) (m : ℕ) where
  abbrev place : Place
  place = turned_place w.turn (place_at s m)

  common_reaches : CommonPlace shape s k w m → reaches shape s k w m ≡ true
  unfolding reaches label_reaches distance_squared
  common_reaches h =
      let x = gap_least w.x0 w.x1 place.x h.x h.from_x0 h.to_x1 in
      let y = gap_least w.y0 w.y1 place.y h.y h.from_y0 h.to_y1 in
      le-leb (4096 * distance_squared shape (edges_of w) place) (k * k * (used_at s m * used_at s m)) (omega (arith, distance_grows shape x y, h.near))

  reaches_common : question11 w ≡ true → reaches shape s k w m ≡ true → CommonPlace shape s k w m
  unfolding reaches label_reaches distance_squared question11
  reaches_common order h =
      let x = nearest w.x0 w.x1 place.x (and_left (le_z w.x0 w.x1) (le_z w.y0 w.y1) order) in
      let y = nearest w.y0 w.y1 place.y (and_right (le_z w.x0 w.x1) (le_z w.y0 w.y1) order) in
      record {
        x = x.place;
        y = y.place;
        from_x0 = x.from_low;
        to_x1 = x.to_high;
        from_y0 = y.from_low;
        to_y1 = y.to_high;
        near = rw (← x.is, ← y.is) (leb-true (4096 * distance_squared shape (edges_of w) place) (k * k * (used_at s m * used_at s m)) h);
      }

  -- "its disk at z reaches the rectangle, touching included"
  pub reaches_iff : question11 w ≡ true → (reaches shape s k w m ≡ true) ↔ CommonPlace shape s k w m
  reaches_iff order = (reaches_common order, common_reaches)

-- ---- windows

-- what 20 takes is a window
pub taken_window : (shape : ℕ) (w : Window) → question20 shape w ≡ true → is_window w ≡ true
unfolding question20
taken_window shape w e = and_left (is_window w) _ e

-- and of disks every window is taken
pub disks_taken : (shape : ℕ) (w : Window) → shape ≢ 2 → question20 shape w ≡ is_window w
unfolding question20
disks_taken shape w d = rw (ne_eqb shape 2 d) (and_true (is_window w))
  where
    and_true : (a : Bool) → a && true ≡ a
    and_true true = refl
    and_true false = refl

-- ---- the window turned back

pub back_edged : (w : Window) → is_window w ≡ true → Edged (turned_back w)
back_edged = Turned.back_edged

-- Who is shown in a window is who is shown in the window turned back.
pub shown_back : (w : Window) → is_window w ≡ true → question11 w ≡ true → (shape : ℕ) (s : List ℕ) → Bytes s
    → (k m : ℕ) (p q : List ℕ) → shown shape s p q k w m ≡ shown_here shape s p q k (turned_back w) m
shown_back = Turned.shown_back

-- ---- the order of the questions

-- Where 1 to 10 are answered with yes: what follows, and that 20 is asked before 11.
module _ (s : List ℕ) (w : Window) (zoom : Zoom) (room : ℕ) (ok : answer (indexed_questions s) ≡ 0) where
  pub view_asked : answer (view_questions s w zoom room)
      ≡ answer ((20 asks question20 (sheet_shape s) w) ∷ (11 asks question11 w) ∷ (12 asks is_taken (scale_of zoom)) ∷ (13 asks leb (map_size (sheet_count s)) room) ∷ [])
  unfolding view_questions
  view_asked = append_yes (indexed_questions s) _ (indexed_numbered s) ok

-- ---- the zoom

-- Asking question 12 of a zoom answers its number.
pub zoom_answer : (r : Option ℕ) → answer ((12 asks is_taken r) ∷ []) ≡ scale_number r
unfolding answer
zoom_answer (Some k) = refl
zoom_answer None = refl
