-- The questions of a whole sheet, and the jobs that ask them: checking a sheet and putting parts together.
use Rattle.std.specs.Prelude.{ℕ, Bool, ◌&&◌, List, [], ◌∷◌, ◌++◌, length, leb}
use Rattle.contents.specs.Contents.{Part, has, split, join}
use Rattle.contents.specs.Asking.{Question, ◌asks◌, answer}
use Rattle.contents.specs.Questions.{contents_questions}
use Rattle.bodies.specs.Questions.{count_of, shape_of, body_questions}

-- "Checking asks 1 to 9."
unfoldable pub check_questions : List ℕ → List Question
check_questions s = contents_questions s ++ body_questions (split s)

-- The number that checking a sheet answers; a sheet is accepted where that is 0.
unfoldable pub check : List ℕ → ℕ
check s = answer (check_questions s)

-- 10. "Are parts 2 and 3 there?"
unfoldable pub question10 : List Part → Bool
question10 parts = has parts 2 && has parts 3

-- 1 to 10, of a sheet that is viewed or changed
unfoldable pub indexed_questions : List ℕ → List Question
indexed_questions s = check_questions s ++ ((10 asks question10 (split s)) ∷ [])

-- n: how many marks a sheet has
abbrev pub sheet_count : List ℕ → ℕ
sheet_count s = count_of (split s)

-- the shape of their labels
abbrev pub sheet_shape : List ℕ → ℕ
sheet_shape s = shape_of (split s)

-- Of parts whose codes are right putting together asks "4 to 9 and 13". `room` is the length of the written buffer.
unfoldable pub parts_questions : List Part → ℕ → List Question
parts_questions parts room = body_questions parts ++ ((13 asks leb (length (join parts)) room) ∷ [])
