-- Questions 1 to 3, each by its number: those of the contents.
use Rattle.std.specs.Prelude.{ℕ, Bool, true, ◌&&◌, List, [], ◌∷◌, length, ltb, leb, eqb}
use Rattle.contents.specs.Contents.{names, codes_of, count_at, offset_at, start_at, contents_size, split}
use Rattle.lists.specs.Tests.{every}
use Rattle.contents.specs.Asking.{Question, ◌asks◌, if_there}

-- the greatest code, and so the most parts that a sheet has: "one part and code more with each code added later"
abbrev pub top_code : ℕ
top_code = 7

-- 1 to 7 parts: 01 has "1 to 3 parts", and by 02 "questions 1 and 2 allow four parts .. (one part and code more with each code added later)"
abbrev pub is_count : ℕ → Bool
is_count k = leb 1 k && leb k top_code

-- 1. "Are there 2 bytes, 1 to 3 parts, and the whole contents?", by 02 with 1 to 7 parts
unfoldable pub question1 : List ℕ → Bool
question1 s = leb 2 (length s) && (is_count (count_at s) && leb (contents_size (count_at s)) (length s))

-- each code is above the one before it, the first above `low`, and none above the top code
abbrev pub rising : ℕ → List ℕ → Bool
rising low [] = true
rising low (code ∷ codes) = (ltb low code && leb code top_code) && rising code codes

-- 2. 02, request 6: "codes rising within 1 to 4 (one part and code more with each code added later), part 1 present and part 3 only with part 2";
-- request 12: "contents may hold code 6, only with part 2". `codes_iff` of Laws names every list that is right.
unfoldable pub codes_right : List ℕ → Bool
codes_right codes = rising 0 codes && (names codes 1 && (if_there (names codes 3) (names codes 2) && if_there (names codes 6) (names codes 2)))

abbrev pub question2 : List ℕ → Bool
question2 s = codes_right (codes_of (split s))

-- 3. "Do the bodies join as above?" Each starts where it has to, "and the last ends with the sheet".
unfoldable pub question3 : List ℕ → Bool
question3 s = every (λ i. eqb (offset_at s i) (start_at s i)) (count_at s) && eqb (start_at s (count_at s)) (length s)

-- 1 to 3, of a sheet
unfoldable pub contents_questions : List ℕ → List Question
contents_questions s = (1 asks question1 s) ∷ (2 asks question2 s) ∷ (3 asks question3 s) ∷ []
