-- 01, "The printed schedule": what the program asks and prints.
use Rattle.std.specs.Prelude.{ℕ, cond, List, [], ◌∷◌, ◌++◌, length, leb, eqb}
use Rattle.elimination.specs.Process.{Removal, process}
use Rattle.elimination.specs.Reel.{marks_of}
use Rattle.contents.specs.Contents.{split}
use Rattle.contents.specs.Asking.{Question, ◌asks◌, answer}
use Rattle.bodies.specs.Questions.{reel_of}
use Rattle.sheet.specs.Questions.{sheet_count, check_questions}
use Rattle.listing.specs.Lines.{listing, refusal_line}

-- "at most 2,000 marks and 65,536 input bytes"
abbrev pub most_marks : ℕ
most_marks = 2000

abbrev pub longest_input : ℕ
longest_input = 65536

-- "asks 1 to 9 and 14": "are there at most 2,000 marks and 65,536 input bytes? A longer input gets 14 before all else."
unfoldable pub print_questions : List ℕ → List Question
print_questions s = (14 asks leb (length s) longest_input) ∷ check_questions s ++ ((14 asks leb (sheet_count s) most_marks) ∷ [])

-- what becomes of each mark of a sheet
abbrev pub removals : List ℕ → ℕ → Removal
removals s = process (marks_of (reel_of (split s)))

-- what the program writes on an input
unfoldable pub printed : List ℕ → List ℕ
printed s =
    let number = answer (print_questions s) in
    cond (eqb number 0) (listing (removals s) (sheet_count s)) (refusal_line number)
