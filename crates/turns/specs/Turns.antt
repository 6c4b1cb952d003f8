-- 02, request 8: turns of places.
use Rattle.std.specs.Prelude.{ℕ, zero, suc, List, [], ◌∷◌, get_or, ℤ, pos, negsuc, ◌+ℤ◌, ◌*ℤ◌}
use Rattle.turns.specs.declared.Place.{Place}

-- "a turn is a two by two grid of whole numbers": its rows
abbrev pub Grid : Type 0
Grid = List (List ℤ)

-- what stands in row i and column j, counted from 0: 0 where there is none
abbrev pub entry : Grid → ℕ → ℕ → ℤ
entry g i j = get_or (get_or g i []) j (pos 0)

-- no turn
unfoldable pub unit : Grid
unit = (pos 1 ∷ pos 0 ∷ []) ∷ (pos 0 ∷ pos 1 ∷ []) ∷ []

-- "One quarter turn takes x, y to -y, x", as `turned_suc` of Laws says; `negsuc 0` is -1
unfoldable pub quarter : Grid
quarter = (pos 0 ∷ negsuc 0 ∷ []) ∷ (pos 1 ∷ pos 0 ∷ []) ∷ []

-- a row by the column u, v
abbrev pub row_by_column : List ℤ → ℤ → ℤ → ℤ
row_by_column row u v = get_or row 0 (pos 0) *ℤ u +ℤ get_or row 1 (pos 0) *ℤ v

-- row i of a by column j of b
unfoldable pub product_at : Grid → Grid → ℕ → ℕ → ℤ
product_at a b i j = row_by_column (get_or a i []) (entry b 0 j) (entry b 1 j)

-- "turning in succession multiplies the grids": b, and after it a, as `applied_times` of Laws says
unfoldable pub times : Grid → Grid → Grid
times a b = (product_at a b 0 0 ∷ product_at a b 0 1 ∷ []) ∷ (product_at a b 1 0 ∷ product_at a b 1 1 ∷ []) ∷ []

-- so many quarter turns in succession
unfoldable pub turn : ℕ → Grid
turn zero = unit
turn (suc t) = times quarter (turn t)

-- what a turn makes of a place: the grid by the column x, y
unfoldable pub applied : Grid → Place → Place
applied g p =
    record {
      x = row_by_column (get_or g 0 []) p.x p.y;
      y = row_by_column (get_or g 1 []) p.x p.y;
    }

-- A place after so many quarter turns. "Four quarter turns change no place": `turned_four` of Laws.
unfoldable pub turned_place : ℕ → Place → Place
turned_place t p = applied (turn t) p
