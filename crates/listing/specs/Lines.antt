-- 01, "The printed schedule": its lines.
use Rattle.std.specs.Prelude.{ℕ, zero, suc, List, [], ◌∷◌, ◌++◌}
use Prim.Native.String.{String, [] as empty, ◌∷◌ as ◌then◌}
use Prim.Native.Char.{code}
use Rattle.text.specs.Text.{decimal}
use Rattle.zoom.specs.Printed.{nearest}
use Rattle.elimination.specs.Process.{Removal, stays, gone}

-- ---- texts as bytes

abbrev pub text : String → List ℕ
text empty = []
text (◌then◌ c s) = code c ∷ text s

-- "Fields stand one space apart; every line ends with a line feed."
unfoldable pub line : List (List ℕ) → List ℕ
line [] = 10 ∷ []
line (f ∷ []) = f ++ (10 ∷ [])
line (f ∷ g ∷ rest) = f ++ (32 ∷ line (g ∷ rest))

-- ---- the lines

-- "a line a mark: number, eliminator, numerator, denominator, and the removal zoom; or number and `-`"; 02, request 7: the zoom to the nearest
-- 64th
unfoldable pub mark_line : ℕ → Removal → List ℕ
mark_line m stays = line (decimal m ∷ text "-" ∷ [])
mark_line m (gone h f) = line (decimal m ∷ decimal h ∷ decimal f.num ∷ decimal f.den ∷ decimal (nearest f) ∷ [])

unfoldable pub mark_lines : (ℕ → Removal) → ℕ → List ℕ
mark_lines s zero = []
mark_lines s (suc n) = mark_lines s n ++ mark_line n (s n)

-- "`marks` and n, then a line a mark"
unfoldable pub listing : (ℕ → Removal) → ℕ → List ℕ
listing s n = line (text "marks" ∷ decimal n ∷ []) ++ mark_lines s n

-- "A refusal prints one line, `refused` and the number."
unfoldable pub refusal_line : ℕ → List ℕ
refusal_line number = line (text "refused" ∷ decimal number ∷ [])
