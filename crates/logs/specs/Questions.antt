-- What turning asks, each question by its number, in the order of the request. `room` is the length of the written buffer.
use Rattle.std.specs.Prelude.{ℕ, ◌+◌, ◌*◌, ◌%◌, Bool, ◌&&◌, List, [], ◌∷◌, ◌++◌, leb, eqb, length}
use Rattle.marks.specs.Marks.{mark_size}
use Rattle.contents.specs.Asking.{Question, ◌asks◌, in_turn}
use Rattle.parts.specs.Questions.{mark_count, field_questions, part1_questions}
use Rattle.packed.specs.Packed.{coordinate_at, packed_at, is_place}
use Rattle.logs.specs.Log.{log_record_size, log_y_offset, record_count, radius_of, kind_of}

-- ---- of a log, `s`

-- 4. "a log that isn't a multiple of 13, or has over 4,096 records, gets 4"
unfoldable pub log_size : List ℕ → Bool
log_size s = eqb (length s % log_record_size) 0 && leb (record_count s) 4096

-- 15 and 16, of the coordinate at `at`
abbrev pub place_questions : List ℕ → ℕ → List Question
place_questions s at = (15 asks packed_at s at) ∷ (16 asks is_place (coordinate_at s at)) ∷ []

-- "then record by record, x by 15 and 16 and after it y by both, .. then 5, 6 for that record, before the next one"
unfoldable pub record_questions : List ℕ → ℕ → List Question
record_questions s r =
    place_questions s (log_record_size * r) ++ (place_questions s (log_record_size * r + log_y_offset) ++ field_questions (kind_of s r) (radius_of s r))

unfoldable pub log_checks : List ℕ → List Question
log_checks s = (4 asks log_size s) ∷ in_turn (record_questions s) (record_count s)

-- "Buffers last, 13."
unfoldable pub log_questions : List ℕ → ℕ → List Question
log_questions s room = log_checks s ++ ((13 asks leb (mark_size * record_count s) room) ∷ [])

-- ---- of marks, `s`

-- "Marks to logs ask 4, 5, 6 and 13."
unfoldable pub marks_questions : List ℕ → ℕ → List Question
marks_questions s room = part1_questions s ++ ((13 asks leb (log_record_size * mark_count s) room) ∷ [])
