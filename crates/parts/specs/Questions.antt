-- Questions 4 to 6, and what 8, 19, 21 and 24 ask of a body: the questions of one part by itself.
use Rattle.std.specs.Prelude.{ℕ, ◌*◌, ◌/◌, ◌%◌, Bool, ◌&&◌, ◌||◌, List, [], ◌∷◌, length, get_or, ltb, leb, eqb}
use Rattle.lists.specs.Tests.{every}
use Rattle.fractions.specs.declared.Fraction.{Fraction}
use Rattle.fractions.specs.Order.{later}
use Rattle.marks.specs.Marks.{mark_size, kind_at, radius_at, is_kind, is_radius, outranks}
use Rattle.marks.specs.Pairs.{popup_size, popup_at, pair_value}
use Rattle.elimination.specs.declared.Record.{Record}
use Rattle.elimination.specs.Records.{fraction_of, is_never, mark_record, value_at}
use Rattle.elimination.specs.Reel.{Reel}
use Rattle.contents.specs.Asking.{Question, ◌asks◌, in_turn}

-- ---- of part 1, `s`

-- 4. "Is part 1 a multiple of 11 and at most 45,056 bytes?"
unfoldable pub question4 : List ℕ → Bool
question4 s = eqb (length s % mark_size) 0 && leb (length s) 45056

-- n: how many marks part 1 has
abbrev pub mark_count : List ℕ → ℕ
mark_count s = length s / mark_size

-- the reel of marks as they stand, ranked by this edition, of this shape and with these popups
abbrev pub reel_from : ℕ → ℕ → List ℕ → List ℕ → Reel
reel_from edition shape popups s = record { marks = s; count = mark_count s; edition = edition; shape = shape; popups = popups }

-- 5 and 6. "before its radius: is the kind below 200? Is the radius at most 16,383?"
abbrev pub field_questions : ℕ → ℕ → List Question
field_questions kind radius = (5 asks is_kind kind) ∷ (6 asks is_radius radius) ∷ []

abbrev pub one_mark : List ℕ → ℕ → List Question
one_mark s m = field_questions (kind_at s m) (radius_at s m)

-- "Mark by mark": of the first n marks
unfoldable pub mark_questions : List ℕ → ℕ → List Question
mark_questions s n = in_turn (one_mark s) n

-- 4 to 6, of marks as they stand
unfoldable pub part1_questions : List ℕ → List Question
part1_questions s = (4 asks question4 s) ∷ mark_questions s (mark_count s)

-- ---- of part 2; `r` is the reel and `p` part 2

-- the two numbers as they stand: "its two unreduced numbers"
abbrev pub exactly : Fraction → Fraction → Bool
exactly f g = eqb f.num g.num && eqb f.den g.den

-- "does it name a higher-ranked mark below n, with their touching value as its two unreduced numbers"; 02, request 9: question 8 takes
-- "pair values in place of touching values"
unfoldable pub names_right : Reel → Record → ℕ → Bool
names_right r d m =
    let by = d.eliminator in
    (ltb by r.count && outranks r.edition r.marks by m) && exactly (fraction_of d) (pair_value r.shape r.marks r.popups by m)

-- a record of the schedule is right: it is "the 'never' record", or it names a mark rightly, "and is that mark removed later?"
unfoldable pub record_right : Reel → List ℕ → ℕ → Bool
record_right r p m =
    let d = mark_record p m in
    is_never d || (names_right r d m && later (value_at p d.eliminator) (value_at p m))

-- each record of the schedule is right
unfoldable pub is_schedule : Reel → List ℕ → Bool
is_schedule r p = every (record_right r p) r.count

-- ---- of parts 4 and 7, `body`

-- 02, request 6: "Part 4, one byte, names edition 1 or 2; without it edition 1 holds." Request 13: "Part 7, one byte, names 1 disk or 2 square;
-- without it disks are meant." A part that is not there counts as empty.
abbrev pub choice_in : List ℕ → ℕ
choice_in body = get_or body 0 1

-- is it "one byte of 1 or 2"?
unfoldable pub is_choice : List ℕ → Bool
is_choice body = eqb (length body) 1 && (eqb (choice_in body) 1 || eqb (choice_in body) 2)

-- ---- of part 5, `body`

-- 02, request 9: "a k exceeds 65,536"
unfoldable pub is_popup : ℕ → Bool
is_popup k = leb k 65536

-- does it have a popup for each of n marks, and is each right?
unfoldable pub is_popups : List ℕ → ℕ → Bool
is_popups body n = eqb (length body) (popup_size * n) && every (λ m. is_popup (popup_at body m)) n
