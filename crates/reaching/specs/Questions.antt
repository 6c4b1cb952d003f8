-- Questions 20 and 11 to 13, and the jobs that ask them: viewing and walking.
use Rattle.std.specs.Prelude.{ℕ, ◌≡◌, Bool, true, ◌&&◌, List, [], ◌∷◌, ◌++◌, length, leb, eqb, ℤ, pos, negsuc, Option, Some, None}
use Rattle.std.specs.Int.Signed.{le_z}
use Rattle.zoom.specs.declared.Zoom.{Zoom}
use Rattle.zoom.specs.Zoom.{scale_of}
use Rattle.contents.specs.Asking.{Question, ◌asks◌, if_there}
use Rattle.sheet.specs.Questions.{indexed_questions, sheet_count, sheet_shape}
use Rattle.reaching.specs.declared.Window.{Window}
use Rattle.bitmap.specs.Map.{map_size}

-- "turned places, from -32,768 to 32,768"
unfoldable pub is_edge : ℤ → Bool
is_edge z = le_z (negsuc 32767) z && le_z z (pos 32768)

pub record IsEdge (z : ℤ) : Type 0 where
  pub is : is_edge z ≡ true

-- not "another turn or an edge beyond that range"
unfoldable pub is_window : Window → Bool
is_window w = leb w.turn 3 && (is_edge w.x0 && is_edge w.x1) && (is_edge w.y0 && is_edge w.y1)

-- 20. "20 for another turn or an edge beyond that range, between 10 and 11"; request 13: "20 also for a turned view of squares"
unfoldable pub question20 : ℕ → Window → Bool
question20 shape w = is_window w && if_there (eqb shape 2) (eqb w.turn 0)

-- 11. "Is x0 ≤ x1 and y0 ≤ y1?"
unfoldable pub question11 : Window → Bool
question11 w = le_z w.x0 w.x1 && le_z w.y0 w.y1

-- 12. "Is the zoom taken?"
abbrev pub scale_number : Option ℕ → ℕ
scale_number (Some k) = 0
scale_number None = 12

abbrev pub is_taken : Option ℕ → Bool
is_taken r = eqb (scale_number r) 0

-- "viewing 1 to 13", with 20 "between 10 and 11". `room` is the length of the lent map.
unfoldable pub view_questions : List ℕ → Window → Zoom → ℕ → List Question
view_questions s w zoom room =
    indexed_questions s
    ++ ((20 asks question20 (sheet_shape s) w)
    ∷ (11 asks question11 w)
    ∷ (12 asks is_taken (scale_of zoom))
    ∷ (13 asks leb (map_size (sheet_count s)) room)
    ∷ [])

-- 13, of a walked map: "long enough? A walk has n at most 4,096."
unfoldable pub is_map : List ℕ → ℕ → Bool
is_map bytes n = leb n 4096 && leb (map_size n) (length bytes)

-- "Walking asks 13." So does asking whether one mark is shown.
unfoldable pub walk_questions : List ℕ → ℕ → List Question
walk_questions bytes n = (13 asks is_map bytes n) ∷ []
