-- 02, request 2: "a filling job: marks in, the same marks out with each radius 0 written as the number in 01's old table". `s` is the
-- marks' bytes and `m` a mark's number.
use Rattle.std.specs.Prelude.{ℕ, ◌+◌, ◌*◌, cond, List, [], ◌∷◌, ◌++◌, leb, eqb, take, drop}
use Rattle.numbers.specs.Little.{le_bytes}
use Rattle.marks.specs.Marks.{mark_size, radius_offset, priority_offset, radius_at, kind_at, old_radius}
use Rattle.contents.specs.Asking.{Question, ◌asks◌}
use Rattle.rows.specs.Rows.{rows}
use Rattle.parts.specs.Questions.{mark_count, part1_questions}

-- "each radius 0 written as the number in 01's old table": the radius that counted by 01
unfoldable pub filled_radius : ℕ → ℕ → ℕ
filled_radius radius kind = cond (eqb radius 0) (old_radius kind) radius

-- the 11 bytes of mark m: all but the radius are its own
abbrev pub filled_mark : List ℕ → ℕ → List ℕ
filled_mark s m =
    take radius_offset (drop (mark_size * m) s) ++ (le_bytes 2 (filled_radius (radius_at s m) (kind_at s m)) ++ take 5 (drop (mark_size * m + priority_offset) s))

-- "the same marks out"
unfoldable pub filled : List ℕ → List ℕ
filled s = rows (filled_mark s) (mark_count s)

-- "It asks 4, 5, 6 and 13." `room` is the length of the written buffer.
unfoldable pub fill_questions : List ℕ → ℕ → List Question
fill_questions s room = part1_questions s ++ ((13 asks leb (mark_size * mark_count s) room) ∷ [])
