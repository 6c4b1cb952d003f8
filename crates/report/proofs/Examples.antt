-- 01, "Proved examples": P1 to P12, what 01 computes in its text, and the examples of 02's requests: one table of inputs and answers, shown by
-- one computation. P4 is as request 1 of 02 has it.
use Rattle.std.specs.Prelude.{ℕ, ◌+◌, ◌*◌, ◌≡◌, refl, List, [], ◌∷◌, ◌++◌, map, length, take, drop, ℤ, pos, negsuc}
use Rattle.std.specs.Float.{binary32}
use Rattle.std.specs.Float.Ieee.{of_bits}
use Rattle.lists.specs.Tests.{every, bit, how_many}
use Rattle.numbers.specs.Little.{le_at, le_bytes}
use Rattle.fractions.specs.Order.{less, same, later, level}
use Rattle.marks.specs.declared.Mark.{Mark}
use Rattle.marks.specs.Marks.{place_bits, mark_bytes, kind_group, house_radius, old_radius, house_of, is_kind, is_radius, used_radius, distance, touching_of, touching, rank_radius, outranks, rank_key}
use Rattle.marks.specs.Pairs.{pair_of, pair_value}
use Rattle.elimination.specs.Process.{least, put, before, pair, next, run, process}
use Rattle.elimination.specs.Records.{eliminator_at, num_at, den_at, is_never, value_at, records}
use Rattle.elimination.specs.Reel.{schedule_of}
use Rattle.index.specs.Tree.{tree_of}
use Rattle.index.specs.Index.{beats, coordinate, axis_key, index_of, index_bytes, same_bytes, is_index}
use Rattle.contents.specs.Contents.{◌holds◌, codes_of, start_at, split, entries, contents_of, chain, join, marks_part, schedule_part, index_part, counts_part}
use Rattle.contents.specs.Asking.{answer, in_turn}
use Rattle.contents.specs.Questions.{question1, codes_right, question3, contents_questions}
use Rattle.rows.specs.Rows as Rows
use Rattle.columns.specs.Columns.{as_columns, as_marks, differences, sums, to_columns, from_columns}
use Rattle.changing.specs.Changing.{added, taken_out, added_popup, taken_out_popup}
use Rattle.parts.specs.Questions.{question4, mark_questions, part1_questions, is_choice, is_popup, is_popups, names_right, record_right, is_schedule}
use Rattle.bodies.specs.Questions.{question7, is_chosen, question19, question21, question24, is_sized, question8, question9, question23, last_questions, body_questions}
use Rattle.judging.specs.Judge.{some, both_later, first_rule, causes, second_rule, names_highest, judge, judge_schedule}
use Rattle.filling.specs.Filling.{filled_radius, filled, fill_questions}
use Rattle.packed.specs.Packed.{magnitude, is_minus, with_sign, are_digits, is_last, is_packed, is_place, packed_of}
use Rattle.logs.specs.Log.{marks_of_log, log_of_marks}
use Rattle.logs.specs.Questions.{log_size, record_questions, log_checks, log_questions, marks_questions}
use Rattle.sheet.specs.Questions.{check_questions, check, question10, indexed_questions, parts_questions}
use Rattle.zoom.specs.declared.Zoom.{Zoom}
use Rattle.zoom.specs.declared.Zoom.TheVariants.{Stop, Wheel}
use Rattle.zoom.specs.Zoom.{stop_scale, wheel_scale, scale_of}
use Rattle.zoom.specs.Living.{lives_at}
use Rattle.zoom.specs.Printed.{root_step, root, nearest_from, nearest}
use Rattle.reaching.specs.declared.Window.{Window}
use Rattle.turns.specs.Turns.{unit, quarter, product_at, times, turn, applied, turned_place}
use Rattle.reaching.specs.Shown.{gap, distance_squared, label_reaches, reaches, shown}
use Rattle.counting.specs.Lives.{popped_up, lives}
use Rattle.counting.specs.Counts.{lives_at_stop, in_group, living_count, counts_of, is_counts}
use Rattle.bitmap.specs.Map.{map_byte, map_part, map_bytes, count_shown}
use Rattle.reaching.specs.Questions as Viewing
use Rattle.jobs.specs.Jobs.{outcome, check_job, scheduled, scheduling_questions, scheduling_job, add_checks, add_job, take_out_checks, take_out_job, question22, judge_questions, judge_job, with_own_counts, count_checks, count_job, column_questions, to_columns_job, from_columns_job, assemble_questions, assemble_job, fill_job, log_to_marks_job, marks_to_log_job, shown_in, view_job}
use Rattle.text.specs.Text.{digits}
use Rattle.listing.specs.Lines.{text, line, mark_line, mark_lines, listing, refusal_line}
use Rattle.report.specs.Text.{print_questions, printed}

-- ---- inputs by their fields

-- "as x, y, radius, priority", then the kind; the tag is 0
abbrev mark_of : ℤ → ℤ → ℕ → ℕ → ℕ → Mark
mark_of x y radius priority kind = record { x = x; y = y; radius = radius; priority = priority; kind = kind; tag = 0 }

-- "all kind 0"
abbrev mark : ℤ → ℤ → ℕ → ℕ → Mark
mark x y radius priority = mark_of x y radius priority 0

marks : List Mark → List ℕ
marks [] = []
marks (m ∷ rest) = mark_bytes m ++ marks rest

-- a sheet of one part
sheet : List Mark → List ℕ
sheet l = join ((1 holds marks l) ∷ [])

-- the same with part 4, and with part 5, which has these popups
sheet_in : ℕ → List Mark → List ℕ
sheet_in edition l = join ((1 holds marks l) ∷ (4 holds (edition ∷ [])) ∷ [])

popups : List ℕ → List ℕ
popups [] = []
popups (k ∷ ks) = le_bytes 4 k ++ popups ks

sheet_with : List ℕ → List Mark → List ℕ
sheet_with ks l = join ((1 holds marks l) ∷ (5 holds popups ks) ∷ [])

-- and with part 7, which names this shape
shaped : ℕ → List Mark → List ℕ
shaped shape l = join ((1 holds marks l) ∷ (7 holds (shape ∷ [])) ∷ [])

-- ---- what is asked, and its answer as a list of numbers

pub data Asked : Type 0 where
  -- the program's output on a sheet
  prints : List ℕ → Asked
  -- of the sheet that scheduling writes for a sheet: the numbers of part 3,
  indexes : List ℕ → Asked
  -- eliminator, numerator and denominator of a mark in part 2,
  removes : List ℕ → ℕ → Asked
  -- its codes,
  keeps : List ℕ → Asked
  -- and a view of it with a map of one byte: number, count, and the bytes written
  views : List ℕ → Window → Zoom → Asked
  -- bodies put together under codes, in a buffer of so many bytes: number and length
  assembles : List ℕ → List (List ℕ) → ℕ → Asked
  -- the number that checking answers
  checks : List ℕ → Asked
  -- the used radius of a written radius and a kind
  uses : ℕ → ℕ → Asked
  -- the printed zoom of a removal value, by numerator and denominator
  zooms : ℕ → ℕ → Asked
  -- two fractions, by numerator and denominator: 1 where they are equal, else 0
  equals : ℕ → ℕ → ℕ → ℕ → Asked
  -- filling these marks in a buffer of so many bytes: number, length, and the bytes written
  fills : List Mark → ℕ → Asked
  -- a sheet's part 1, cut out by the contents, filled and put together afresh: number and length, what checking it answers, and, scheduled,
  -- eliminator, numerator and denominator of a mark
  rescues : List ℕ → ℕ → Asked
  -- a log turned into marks, and marks into a log, in a buffer of so many bytes: number, length, and the bytes written
  turns_log : List ℕ → ℕ → Asked
  turns_marks : List Mark → ℕ → Asked
  -- a mark with a popup added to a sheet, with work and written buffers of so many bytes, and a mark taken out: number and length, and of the
  -- new sheet eliminator, numerator and denominator of a mark
  adds : List ℕ → Mark → ℕ → ℕ → ℕ → ℕ → Asked
  takes_out : List ℕ → ℕ → ℕ → ℕ → ℕ → Asked
  -- the number that the judge answers
  judges : List ℕ → Asked
  -- marks rearranged by columns, and columns into marks, in a buffer of so many bytes: number, length, and the bytes written
  arranges : List ℕ → ℕ → Asked
  restores : List ℕ → ℕ → Asked
  -- counting a sheet in a buffer of so many bytes: number, length, and the counts of part 6
  counts : List ℕ → ℕ → Asked
  -- the counts of part 6 of a sheet at a stop
  counts_at : List ℕ → ℕ → Asked

-- the numbers of two bytes each
pairs : List ℕ → List ℕ
pairs [] = []
pairs (a ∷ []) = []
pairs (a ∷ b ∷ l) = (a + 256 * b) ∷ pairs l

-- the record of mark m in part 2 of a sheet
record_of : List ℕ → ℕ → List ℕ
record_of s m = let p = schedule_part (split s) in eliminator_at p m ∷ num_at p m ∷ den_at p m ∷ []

pub answers : Asked → List ℕ
answers (prints s) = printed s
answers (indexes s) = pairs (index_part (split (scheduled s)))
answers (removes s m) = record_of (scheduled s) m
answers (keeps s) = codes_of (split (scheduled s))
answers (views s e zoom) = let o = view_job (scheduled s) e zoom 1 in o.number ∷ o.value ∷ o.written
answers (assembles codes bodies room) = let o = assemble_job codes bodies room in o.number ∷ o.value ∷ []
answers (checks s) = (check_job s).number ∷ []
answers (uses radius kind) = used_radius radius kind ∷ []
answers (zooms num den) = nearest (record { num = num; den = den }) ∷ []
answers (equals a b c d) = bit (same (record { num = a; den = b }) (record { num = c; den = d })) ∷ []
answers (fills l room) = let o = fill_job (marks l) room in o.number ∷ o.value ∷ o.written
answers (rescues s m) =
    let w = (fill_job (marks_part (split s)) (length s)).written in
    let o = assemble_job (1 ∷ []) (w ∷ []) (length s) in
    o.number ∷ o.value ∷ (check_job o.written).number ∷ record_of (scheduled o.written) m
answers (turns_log s room) = let o = log_to_marks_job s room in o.number ∷ o.value ∷ o.written
answers (turns_marks l room) = let o = marks_to_log_job (marks l) room in o.number ∷ o.value ∷ o.written
answers (adds s new k work room m) = let o = add_job s new k work room in o.number ∷ o.value ∷ record_of o.written m
answers (takes_out s out work room m) = let o = take_out_job s out work room in o.number ∷ o.value ∷ record_of o.written m
answers (judges s) = (judge_job s).number ∷ []
answers (arranges s room) = let o = to_columns_job s room in o.number ∷ o.value ∷ o.written
answers (restores c room) = let o = from_columns_job c room in o.number ∷ o.value ∷ o.written
answers (counts s room) = let o = count_job s room in o.number ∷ o.value ∷ pairs (counts_part (split o.written))
answers (counts_at s stop) = take 5 (drop (5 * stop) (pairs (counts_part (split s))))

-- ---- the table

pub record Row : Type 0 where
  pub asked : Asked
  pub expected : List ℕ

infix 10 ◌gives◌
abbrev ◌gives◌ : Asked → List ℕ → Row
a gives b = record { asked = a; expected = b }

-- the marks of P1, of P5, of P6 and of P11
abbrev p1 : List Mark
p1 = mark (pos 0) (pos 0) 10 9 ∷ mark (pos 100) (pos 0) 10 5 ∷ mark (pos 200) (pos 0) 10 5 ∷ mark (pos 0) (pos 3) 5 1 ∷ []

abbrev p5 : List Mark
p5 = mark (pos 7) (pos 7) 1 0 ∷ mark (pos 7) (pos 7) 1 0 ∷ []

abbrev p6 : List Mark
p6 = mark (negsuc 32767) (negsuc 32767) 1 0 ∷ mark (pos 32767) (pos 32767) 1 0 ∷ []

-- as far apart and as large as marks can be
abbrev largest : List Mark
largest = mark (negsuc 32767) (negsuc 32767) 16383 0 ∷ mark (pos 32767) (pos 32767) 16383 0 ∷ []

abbrev p11 : List Mark
p11 = mark (pos 60) (pos 0) 2 5 ∷ mark (negsuc 99) (pos 0) 10 9 ∷ mark (pos 0) (pos 0) 10 1 ∷ []

-- two marks of equal priority, of which the larger has the higher number; and two of which one has the house radius 200 of its kind
abbrev two : List Mark
two = mark (pos 0) (pos 0) 10 5 ∷ mark (pos 100) (pos 0) 20 5 ∷ []

abbrev house : List Mark
house = mark (pos 0) (pos 0) 100 5 ∷ mark_of (pos 300) (pos 0) 0 5 150 ∷ []

-- the first two marks of P1, and the line that both lie on
abbrev ends : List Mark
ends = take 2 p1

-- two marks that lie askew
abbrev askew : List Mark
askew = mark (pos 0) (pos 0) 10 9 ∷ mark (pos 30) (pos 40) 10 5 ∷ []

-- a mark of this radius and this kind
abbrev of : ℕ → ℕ → List Mark
of radius kind = mark_of (pos 0) (pos 0) radius 0 kind ∷ []

-- two moisture patches with the house radius, and their sheet as it was scheduled when that was 120: mark 1 goes at 10,000 over 240²
abbrev patches : List Mark
patches = mark_of (pos 0) (pos 0) 0 9 100 ∷ mark_of (pos 100) (pos 0) 0 5 149 ∷ []

-- a record of part 2: a mark that removes at this value, and nobody
by : ℕ → ℕ → ℕ → List ℕ
by m num den = le_bytes 2 m ++ (le_bytes 8 num ++ le_bytes 4 den)

never : List ℕ
never = by 65535 0 0

old_sheet : List ℕ
old_sheet = join ((1 holds marks patches) ∷ (2 holds (never ++ by 0 10000 57600)) ∷ (3 holds (le_bytes 2 0 ++ le_bytes 2 1)) ∷ [])

-- the patches with a schedule in which neither goes; of equal values the lower number is the root
never_sheet : List ℕ
never_sheet = join ((1 holds marks patches) ∷ (2 holds (never ++ never)) ∷ (3 holds (le_bytes 2 0 ++ le_bytes 2 1)) ∷ [])

-- schedules that someone proposes: two marks that go together, though they touch each other before; and of two marks with one pair value, 16/4 and
-- 64/16, the lower-ranked named
together : List ℕ
together =
    join
    ((1 holds marks (mark (pos 0) (pos 0) 1 9 ∷ mark (pos 50) (pos 0) 1 5 ∷ mark (pos 48) (pos 14) 1 4 ∷ []))
    ∷ (2 holds (never ++ (by 0 2500 4 ++ by 0 2500 4))) ∷ (3 holds (le_bytes 2 0 ++ (le_bytes 2 2 ++ le_bytes 2 1))) ∷ [])

lower_named : List ℕ
lower_named =
    join
    ((1 holds marks (mark (pos 0) (pos 0) 1 0 ∷ mark (negsuc 3) (pos 0) 1 5 ∷ mark (pos 8) (pos 0) 3 7 ∷ []))
    ∷ (2 holds (by 1 16 4 ++ (by 2 144 16 ++ never))) ∷ (3 holds (le_bytes 2 2 ++ (le_bytes 2 1 ++ le_bytes 2 0))) ∷ [])

-- a log of one record, its x and y by their bytes; radius 300, priority 5, kind 0, tag 0
abbrev log : ℕ → ℕ → ℕ → ℕ → ℕ → ℕ → List ℕ
log a b c d e f = a ∷ b ∷ c ∷ d ∷ e ∷ f ∷ 44 ∷ 1 ∷ 5 ∷ 0 ∷ 0 ∷ 0 ∷ 0 ∷ []

-- two marks, of which the first has a kind and a radius that no sheet takes, and the second a lower x; and their columns
abbrev archived : List ℕ
archived = 5 ∷ 0 ∷ 2 ∷ 0 ∷ 255 ∷ 255 ∷ 7 ∷ 0 ∷ 250 ∷ 1 ∷ 2 ∷ 3 ∷ 0 ∷ 2 ∷ 1 ∷ 10 ∷ 0 ∷ 8 ∷ 0 ∷ 4 ∷ 3 ∷ 4 ∷ []

abbrev in_columns : List ℕ
in_columns = 5 ∷ 0 ∷ 254 ∷ 255 ∷ 2 ∷ 0 ∷ 0 ∷ 1 ∷ 255 ∷ 255 ∷ 10 ∷ 0 ∷ 7 ∷ 0 ∷ 8 ∷ 0 ∷ 250 ∷ 4 ∷ 1 ∷ 2 ∷ 3 ∷ 4 ∷ []

-- P1 scheduled, with its counts; all its marks are notes. The counts of notes alone, stop by stop, as part 6 has them.
abbrev counted : List ℕ
counted = with_own_counts (scheduled (sheet p1))

notes : List ℕ → List ℕ
notes [] = []
notes (n ∷ l) = n ∷ 0 ∷ 0 ∷ 0 ∷ 0 ∷ notes l

-- the counts of P1: mark 3 goes at 64z = 12.8, mark 1 at 320 and mark 2 at 640
abbrev counts_of_p1 : List ℕ
counts_of_p1 = notes (4 ∷ 4 ∷ 4 ∷ 4 ∷ 3 ∷ 3 ∷ 3 ∷ 3 ∷ 3 ∷ 2 ∷ 1 ∷ 1 ∷ 1 ∷ 1 ∷ 1 ∷ 1 ∷ 1 ∷ [])

-- a mark of these places and kind, with radius 1
abbrev of_kind : ℕ → ℕ → Mark
of_kind x kind = mark_of (pos x) (pos 0) 1 0 kind

-- one mark of each group, and a second break, which pops up at 64z = 2
abbrev of_each : List ℕ
of_each =
    scheduled
    (sheet_with (0 ∷ 0 ∷ 0 ∷ 0 ∷ 0 ∷ 2 ∷ [])
    (of_kind 0 9 ∷ of_kind 1000 10 ∷ of_kind 2000 99 ∷ of_kind 3000 100 ∷ of_kind 4000 199 ∷ of_kind 5000 150 ∷ []))

-- the window of these edges and this turn
abbrev window : ℤ → ℤ → ℤ → ℤ → ℕ → Window
window x0 x1 y0 y1 turn = record { x0 = x0; x1 = x1; y0 = y0; y1 = y1; turn = turn }

abbrev p3 : Window
p3 = window (pos 50) (pos 250) (negsuc 9) (pos 10) 0

abbrev along : Window
along = window (pos 0) (pos 100) (pos 0) (pos 0) 0

-- the wheel value whose bits these are
abbrev wheel : ℕ → Zoom
wheel bits = Wheel (of_bits binary32 bits)

pub table : List Row
table =
    -- P1, its last mark as request 7 of 02 has it
    (prints (sheet p1) gives text "marks 4\n0 -\n1 0 10000 400 320\n2 0 40000 400 640\n3 0 9 225 13\n")
    -- P2
    ∷ (indexes (sheet p1) gives (0 ∷ 1 ∷ 3 ∷ 2 ∷ []))
    -- P3: wheel 1
    ∷ (views (sheet p1) p3 (wheel 0x3f80_0000) gives (0 ∷ 2 ∷ 0x06 ∷ []))
    -- P4: wheel 5
    ∷ (views (sheet p1) p3 (wheel 0x40a0_0000) gives (0 ∷ 2 ∷ 0x05 ∷ []))
    -- P5
    ∷ (removes (sheet p5) 1 gives (0 ∷ 0 ∷ 4 ∷ []))
    -- P6
    ∷ (removes (sheet p6) 1 gives (0 ∷ 8589672450 ∷ 4 ∷ []))
    -- P7
    ∷ (checks (sheet (of 16383 0)) gives (0 ∷ []))
    ∷ (checks (sheet (of 16384 0)) gives (6 ∷ []))
    -- P8
    ∷ (checks (sheet (of 0 199)) gives (0 ∷ []))
    ∷ (uses 0 199 gives (200 ∷ []))
    ∷ (checks (sheet (of 0 200)) gives (5 ∷ []))
    -- P9: wheels 1/64, 1024, 1/128, 1024 + 1/64
    ∷ (views (sheet p1) p3 (wheel 0x3c80_0000) gives (0 ∷ 2 ∷ 0x06 ∷ []))
    ∷ (views (sheet p1) p3 (wheel 0x4480_0000) gives (0 ∷ 1 ∷ 0x01 ∷ []))
    ∷ (views (sheet p1) p3 (wheel 0x3c00_0000) gives (12 ∷ 0 ∷ []))
    ∷ (views (sheet p1) p3 (wheel 0x4480_0080) gives (12 ∷ 0 ∷ []))
    -- P10
    ∷ (checks (0x01 ∷ 0x00 ∷ 0x01 ∷ 0x00 ∷ 0x0c ∷ 0x00 ∷ 0x00 ∷ 0x00 ∷ 0x00 ∷ 0x00 ∷ 0x00 ∷ 0x00 ∷ []) gives (0 ∷ []))
    -- P11
    ∷ (removes (sheet p11) 2 gives (1 ∷ 10000 ∷ 400 ∷ []))
    -- P12
    ∷ (views (sheet p1) p3 (Stop 16) gives (0 ∷ 1 ∷ 0x01 ∷ []))
    ∷ (views (sheet p1) p3 (Stop 17) gives (12 ∷ 0 ∷ []))
    -- "The largest numerator is 8,589,672,450; the largest denominator 1,073,610,756."
    ∷ (removes (sheet largest) 1 gives (0 ∷ 8589672450 ∷ 1073610756 ∷ []))
    -- "25/1 and 100/4 are equal"
    ∷ (equals 25 1 100 4 gives (1 ∷ []))
    -- 02, request 2: patches have 150, and 120 once they are filled; 13 where a byte is lacking
    ∷ (uses 0 100 gives (150 ∷ []))
    ∷ (uses 0 149 gives (150 ∷ []))
    ∷ (removes (sheet patches) 1 gives (0 ∷ 10000 ∷ 90000 ∷ []))
    ∷ (fills (of 0 149) 11 gives (0 ∷ 11 ∷ 0 ∷ 0 ∷ 0 ∷ 0 ∷ 120 ∷ 0 ∷ 0 ∷ 0 ∷ 149 ∷ 0 ∷ 0 ∷ []))
    ∷ (fills (of 7 149) 11 gives (0 ∷ 11 ∷ 0 ∷ 0 ∷ 0 ∷ 0 ∷ 7 ∷ 0 ∷ 0 ∷ 0 ∷ 149 ∷ 0 ∷ 0 ∷ []))
    ∷ (fills (of 0 149) 10 gives (13 ∷ 0 ∷ []))
    -- "Old scheduled sheets with such marks may now meet 8": this one does, and is rescued
    ∷ (checks old_sheet gives (8 ∷ []))
    ∷ (rescues old_sheet 1 gives (0 ∷ 34 ∷ 0 ∷ 0 ∷ 10000 ∷ 57600 ∷ []))
    -- 02, request 3: the places 32,767 and -32,768, both ways
    ∷ (turns_log (log 0x32 0x76 0x7c 0x32 0x76 0x8d) 11 gives (0 ∷ 11 ∷ 0xff ∷ 0x7f ∷ 0x00 ∷ 0x80 ∷ 44 ∷ 1 ∷ 5 ∷ 0 ∷ 0 ∷ 0 ∷ 0 ∷ []))
    ∷ (turns_marks (mark (pos 32767) (negsuc 32767) 300 5 ∷ []) 13 gives (0 ∷ 13 ∷ log 0x32 0x76 0x7c 0x32 0x76 0x8d))
    ∷ (turns_log (log 0x32 0x76 0x8c 0x00 0x00 0x0c) 11 gives (16 ∷ 0 ∷ []))
    ∷ (turns_log (log 0x00 0x00 0x0c 0x32 0x76 0x9d) 11 gives (16 ∷ 0 ∷ []))
    -- zero, and minus zero
    ∷ (turns_log (log 0x00 0x00 0x0c 0x00 0x00 0x1d) 11 gives (0 ∷ 11 ∷ 0 ∷ 0 ∷ 0xff ∷ 0xff ∷ 44 ∷ 1 ∷ 5 ∷ 0 ∷ 0 ∷ 0 ∷ 0 ∷ []))
    ∷ (turns_log (log 0x00 0x00 0x0d 0x00 0x00 0x0c) 11 gives (15 ∷ 0 ∷ []))
    -- 99,999; a digit above 9; another sign
    ∷ (turns_log (log 0x99 0x99 0x9c 0x00 0x00 0x0c) 11 gives (16 ∷ 0 ∷ []))
    ∷ (turns_log (log 0xa0 0x00 0x0c 0x00 0x00 0x0c) 11 gives (15 ∷ 0 ∷ []))
    ∷ (turns_log (log 0x00 0x00 0x0a 0x00 0x00 0x0c) 11 gives (15 ∷ 0 ∷ []))
    -- x by both before y: 16 of x where y gets 15; and 13 last
    ∷ (turns_log (log 0x99 0x99 0x9c 0x00 0x00 0x0a) 11 gives (16 ∷ 0 ∷ []))
    ∷ (turns_log (log 0x00 0x00 0x0c 0x00 0x00 0x0c) 10 gives (13 ∷ 0 ∷ []))
    -- 02, request 5: the last mark of P1 added to the others
    ∷ (adds (scheduled (sheet (take 3 p1))) (mark (pos 0) (pos 3) 5 1) 0 1152 140 3 gives (0 ∷ 140 ∷ 0 ∷ 9 ∷ 225 ∷ []))
    -- the first mark of P1 taken out: the last is then mark 2, and goes by the one that was mark 1
    ∷ (takes_out (scheduled (sheet p1)) 0 1120 113 2 gives (0 ∷ 113 ∷ 0 ∷ 10009 ∷ 225 ∷ []))
    -- a schedule that is not ours, in which no patch goes, is not carried over
    ∷ (adds never_sheet (mark (pos 0) (pos 3) 5 1) 0 1120 113 1 gives (0 ∷ 113 ∷ 0 ∷ 10000 ∷ 90000 ∷ []))
    -- 10; 17 where m is n; 5 of the new mark before 6; 13 last
    ∷ (adds (sheet p5) (mark (pos 0) (pos 3) 5 1) 0 1120 113 0 gives (10 ∷ 0 ∷ 0 ∷ 0 ∷ 0 ∷ []))
    ∷ (takes_out (scheduled (sheet p5)) 2 0 0 0 gives (17 ∷ 0 ∷ 0 ∷ 0 ∷ 0 ∷ []))
    ∷ (adds (scheduled (sheet p5)) (mark_of (pos 0) (pos 0) 16384 0 200) 0 0 0 0 gives (5 ∷ 0 ∷ 0 ∷ 0 ∷ 0 ∷ []))
    ∷ (adds (scheduled (sheet p5)) (mark_of (pos 0) (pos 0) 16384 0 199) 1 0 0 0 gives (6 ∷ 0 ∷ 0 ∷ 0 ∷ 0 ∷ []))
    ∷ (takes_out (scheduled (sheet p5)) 1 1055 59 0 gives (13 ∷ 0 ∷ 0 ∷ 0 ∷ 0 ∷ []))
    -- 02, request 6: "between equal priorities the larger used radius ranks higher, then the lower number", in edition 2 alone
    ∷ (removes (sheet two) 1 gives (0 ∷ 10000 ∷ 900 ∷ []))
    ∷ (removes (sheet_in 1 two) 1 gives (0 ∷ 10000 ∷ 900 ∷ []))
    ∷ (removes (sheet_in 2 two) 0 gives (1 ∷ 10000 ∷ 900 ∷ []))
    -- the used radius counts, and of equal ones the lower number
    ∷ (removes (sheet_in 2 house) 0 gives (1 ∷ 90000 ∷ 90000 ∷ []))
    ∷ (removes (sheet_in 2 p5) 1 gives (0 ∷ 0 ∷ 4 ∷ []))
    -- part 4 is kept
    ∷ (keeps (sheet_in 2 two) gives (1 ∷ 2 ∷ 3 ∷ 4 ∷ []))
    -- 19: no byte, another byte, two bytes
    ∷ (checks (sheet_in 2 two) gives (0 ∷ []))
    ∷ (checks (sheet_in 3 two) gives (19 ∷ []))
    ∷ (checks (join ((1 holds marks two) ∷ (4 holds []) ∷ [])) gives (19 ∷ []))
    ∷ (checks (join ((1 holds marks two) ∷ (4 holds (1 ∷ 1 ∷ [])) ∷ [])) gives (19 ∷ []))
    -- putting together: 1 of the number of codes and of the bodies, 2 of the codes, further bodies ignored
    ∷ (assembles (1 ∷ 4 ∷ []) (marks two ∷ (2 ∷ []) ∷ (7 ∷ []) ∷ []) 45 gives (0 ∷ 45 ∷ []))
    ∷ (assembles [] [] 45 gives (1 ∷ 0 ∷ []))
    ∷ (assembles (1 ∷ 4 ∷ []) (marks two ∷ []) 45 gives (1 ∷ 0 ∷ []))
    ∷ (assembles (4 ∷ 1 ∷ []) ((2 ∷ []) ∷ marks two ∷ []) 45 gives (2 ∷ 0 ∷ []))
    ∷ (assembles (1 ∷ 3 ∷ []) (marks two ∷ [] ∷ []) 45 gives (2 ∷ 0 ∷ []))
    ∷ (assembles (1 ∷ 4 ∷ []) (marks two ∷ (2 ∷ []) ∷ []) 44 gives (13 ∷ 0 ∷ []))
    -- 02, request 7: "Removal value 625/16384 prints 12", an exact half above 12; those above 0, 1 and 13; and no zoom at all
    ∷ (zooms 625 16384 gives (12 ∷ []))
    ∷ (zooms 1 16384 gives (0 ∷ []))
    ∷ (zooms 9 16384 gives (2 ∷ []))
    ∷ (zooms 729 16384 gives (14 ∷ []))
    ∷ (zooms 0 4 gives (0 ∷ []))
    -- the largest removal value
    ∷ (zooms 8589672450 4 gives (2965776 ∷ []))
    -- 02, request 8: P3 after one, two and three quarter turns
    ∷ (views (sheet p1) (window (negsuc 9) (pos 10) (pos 50) (pos 250) 1) (wheel 0x3f80_0000) gives (0 ∷ 2 ∷ 0x06 ∷ []))
    ∷ (views (sheet p1) (window (negsuc 249) (negsuc 49) (negsuc 9) (pos 10) 2) (wheel 0x3f80_0000) gives (0 ∷ 2 ∷ 0x06 ∷ []))
    ∷ (views (sheet p1) (window (negsuc 9) (pos 10) (negsuc 249) (negsuc 49) 3) (wheel 0x3f80_0000) gives (0 ∷ 2 ∷ 0x06 ∷ []))
    -- -32,768 is turned to 32,768
    ∷ (views (sheet p6) (window (pos 32768) (pos 32768) (negsuc 32767) (negsuc 32767) 1) (Stop 0) gives (0 ∷ 1 ∷ 0x01 ∷ []))
    -- 20, before 11: "another turn or an edge beyond that range"
    ∷ (views (sheet p1) (window (pos 250) (pos 50) (pos 0) (pos 0) 4) (Stop 0) gives (20 ∷ 0 ∷ []))
    ∷ (views (sheet p1) (window (pos 0) (pos 0) (negsuc 32768) (pos 0) 0) (Stop 0) gives (20 ∷ 0 ∷ []))
    ∷ (views (sheet p1) (window (pos 0) (pos 32769) (pos 0) (pos 0) 3) (Stop 0) gives (20 ∷ 0 ∷ []))
    ∷ (views (sheet p1) (window (pos 250) (pos 50) (pos 0) (pos 0) 3) (Stop 17) gives (11 ∷ 0 ∷ []))
    -- 02, request 9: the touching value of the first two marks of P1 is 25, that of z = 5, or k = 320. A popup fraction is kept only where it
    -- exceeds it, and it is that of the larger k, whosesoever it is
    ∷ (removes (sheet_with (0 ∷ 0 ∷ []) ends) 1 gives (0 ∷ 10000 ∷ 400 ∷ []))
    ∷ (removes (sheet_with (320 ∷ 320 ∷ []) ends) 1 gives (0 ∷ 10000 ∷ 400 ∷ []))
    ∷ (removes (sheet_with (0 ∷ 321 ∷ []) ends) 1 gives (0 ∷ 103041 ∷ 4096 ∷ []))
    ∷ (removes (sheet_with (640 ∷ 1 ∷ []) ends) 1 gives (0 ∷ 409600 ∷ 4096 ∷ []))
    ∷ (removes (sheet_with (65536 ∷ 0 ∷ []) ends) 1 gives (0 ∷ 4294967296 ∷ 4096 ∷ []))
    -- at z = 1 mark 0, the root, has not popped up, and mark 1 lives; at z = 10 mark 0 is there, and mark 1 is gone
    ∷ (views (sheet_with (640 ∷ 0 ∷ []) ends) along (wheel 0x3f80_0000) gives (0 ∷ 1 ∷ 0x02 ∷ []))
    ∷ (views (sheet_with (640 ∷ 0 ∷ []) ends) along (wheel 0x4120_0000) gives (0 ∷ 1 ∷ 0x01 ∷ []))
    -- mark 1 goes where it would pop up: it never lives
    ∷ (views (sheet_with (0 ∷ 640 ∷ []) ends) along (wheel 0x411f_c000) gives (0 ∷ 1 ∷ 0x01 ∷ []))
    ∷ (views (sheet_with (0 ∷ 640 ∷ []) ends) along (wheel 0x4120_0000) gives (0 ∷ 1 ∷ 0x01 ∷ []))
    ∷ (prints (sheet_with (0 ∷ 640 ∷ []) ends) gives text "marks 2\n0 -\n1 0 409600 4096 640\n")
    -- part 5 is kept, of no marks too
    ∷ (keeps (sheet_with (0 ∷ 0 ∷ []) ends) gives (1 ∷ 2 ∷ 3 ∷ 5 ∷ []))
    ∷ (keeps (sheet_with [] []) gives (1 ∷ 2 ∷ 3 ∷ 5 ∷ []))
    -- 21: a popup too few, one too many, 65,537; after 19, and before 8
    ∷ (checks (sheet_with (65536 ∷ 0 ∷ []) ends) gives (0 ∷ []))
    ∷ (checks (sheet_with (0 ∷ []) ends) gives (21 ∷ []))
    ∷ (checks (sheet_with (0 ∷ 0 ∷ 0 ∷ []) ends) gives (21 ∷ []))
    ∷ (checks (sheet_with (0 ∷ 65537 ∷ []) ends) gives (21 ∷ []))
    ∷ (checks (join ((1 holds marks two) ∷ (4 holds (3 ∷ [])) ∷ (5 holds []) ∷ [])) gives (19 ∷ []))
    ∷ (checks (join ((1 holds marks two) ∷ (2 holds le_bytes 28 0) ∷ (5 holds []) ∷ [])) gives (21 ∷ []))
    -- a mark that pops up behind the others: its k is named, and 0 on a sheet without part 5; 21 right after 6, and before 13
    ∷ (adds (scheduled (sheet_with (0 ∷ 0 ∷ []) ends)) (mark (pos 200) (pos 0) 10 5) 641 1120 135 2 gives (0 ∷ 135 ∷ 0 ∷ 410881 ∷ 4096 ∷ []))
    ∷ (adds (scheduled (sheet_with (0 ∷ 0 ∷ []) ends)) (mark (pos 200) (pos 0) 10 5) 65537 0 0 0 gives (21 ∷ 0 ∷ 0 ∷ 0 ∷ 0 ∷ []))
    ∷ (adds (scheduled (sheet ends)) (mark (pos 200) (pos 0) 10 5) 1 0 0 0 gives (21 ∷ 0 ∷ 0 ∷ 0 ∷ 0 ∷ []))
    ∷ (adds (scheduled (sheet ends)) (mark (pos 200) (pos 0) 10 5) 0 0 0 0 gives (13 ∷ 0 ∷ 0 ∷ 0 ∷ 0 ∷ []))
    -- the first of three taken out: its popup goes, and the second's stays
    ∷ (takes_out (scheduled (sheet_with (0 ∷ 640 ∷ 0 ∷ []) (take 3 p1))) 0 1088 104 1 gives (0 ∷ 104 ∷ 0 ∷ 409600 ∷ 4096 ∷ []))
    -- 02, request 10: ours is accepted, by either edition, with popups, and of no marks
    ∷ (judges (scheduled (sheet p1)) gives (0 ∷ []))
    ∷ (judges (scheduled (sheet_in 2 two)) gives (0 ∷ []))
    ∷ (judges (scheduled (sheet_with (640 ∷ 0 ∷ []) ends)) gives (0 ∷ []))
    ∷ (judges (scheduled (sheet [])) gives (0 ∷ []))
    -- others pass 8 and 9, and get 22
    ∷ (judges never_sheet gives (22 ∷ []))
    ∷ (checks together gives (0 ∷ []))
    ∷ (judges together gives (22 ∷ []))
    ∷ (checks lower_named gives (0 ∷ []))
    ∷ (judges lower_named gives (22 ∷ []))
    -- before it, a sheet's own number
    ∷ (judges (sheet p1) gives (10 ∷ []))
    ∷ (judges old_sheet gives (8 ∷ []))
    -- 02, request 11: x 5 and then -2, y 2 and then 256; and back
    ∷ (arranges archived 22 gives (0 ∷ 22 ∷ in_columns))
    ∷ (restores in_columns 22 gives (0 ∷ 22 ∷ archived))
    ∷ (arranges [] 0 gives (0 ∷ 0 ∷ []))
    -- 4 before 13
    ∷ (arranges (take 21 archived) 0 gives (4 ∷ 0 ∷ []))
    ∷ (arranges archived 21 gives (13 ∷ 0 ∷ []))
    ∷ (restores (take 21 in_columns) 0 gives (4 ∷ 0 ∷ []))
    ∷ (restores in_columns 21 gives (13 ∷ 0 ∷ []))
    -- 02, request 12: how many live at each stop; counting again gives the same
    ∷ (counts (scheduled (sheet p1)) 320 gives (0 ∷ 320 ∷ counts_of_p1))
    ∷ (counts counted 320 gives (0 ∷ 320 ∷ counts_of_p1))
    -- group by group, popups heeded
    ∷ (counts_at (with_own_counts of_each) 0 gives (1 ∷ 1 ∷ 1 ∷ 1 ∷ 1 ∷ []))
    ∷ (counts_at (with_own_counts of_each) 1 gives (1 ∷ 1 ∷ 1 ∷ 1 ∷ 2 ∷ []))
    -- scheduling renews part 6, and so do adding and taking out
    ∷ (keeps counted gives (1 ∷ 2 ∷ 3 ∷ 6 ∷ []))
    ∷ (counts_at (add_job counted (mark (pos 5000) (pos 0) 1 0) 0 1184 347).written 0 gives (5 ∷ 0 ∷ 0 ∷ 0 ∷ 0 ∷ []))
    ∷ (counts_at (take_out_job counted 0 1120 293).written 10 gives (1 ∷ 0 ∷ 0 ∷ 0 ∷ 0 ∷ []))
    -- what is asked: another part 6 gets 23, one without part 2 gets 2, and counting asks 10 and then 13
    ∷ (checks counted gives (0 ∷ []))
    ∷ (checks (join ((1 holds marks p1) ∷ (2 holds schedule_part (split counted)) ∷ (6 holds counts_of (marks p1) (schedule_part (split counted)) [] 3) ∷ [])) gives (23 ∷ []))
    ∷ (checks (join ((1 holds marks p1) ∷ (2 holds schedule_part (split counted)) ∷ (6 holds []) ∷ [])) gives (23 ∷ []))
    ∷ (checks (join ((1 holds marks p1) ∷ (6 holds []) ∷ [])) gives (2 ∷ []))
    ∷ (counts (sheet p1) 0 gives (10 ∷ 0 ∷ []))
    ∷ (counts (scheduled (sheet p1)) 319 gives (13 ∷ 0 ∷ []))
    -- 02, request 13: 30 and 40 apart, disks touch by 50 and squares by 40, "the larger of the x and y differences"
    ∷ (removes (sheet askew) 1 gives (0 ∷ 2500 ∷ 400 ∷ []))
    ∷ (removes (shaped 1 askew) 1 gives (0 ∷ 2500 ∷ 400 ∷ []))
    ∷ (removes (shaped 2 askew) 1 gives (0 ∷ 1600 ∷ 400 ∷ []))
    ∷ (prints (shaped 2 askew) gives text "marks 2\n0 -\n1 0 1600 400 128\n")
    -- "in touching and in reaching a rectangle": a square of 10 reaches the corner 10 and 10 away, a disk does not
    ∷ (views (shaped 2 askew) (window (negsuc 19) (negsuc 9) (negsuc 19) (negsuc 9) 0) (wheel 0x3f80_0000) gives (0 ∷ 1 ∷ 0x01 ∷ []))
    ∷ (views (shaped 1 askew) (window (negsuc 19) (negsuc 9) (negsuc 19) (negsuc 9) 0) (wheel 0x3f80_0000) gives (0 ∷ 0 ∷ 0x00 ∷ []))
    -- "Squares take no turn but 0": 20, before 11, and not where part 7 names disks
    ∷ (views (shaped 2 p1) (window (pos 250) (pos 50) (pos 0) (pos 0) 1) (Stop 0) gives (20 ∷ 0 ∷ []))
    ∷ (views (shaped 1 p1) (window (negsuc 9) (pos 10) (pos 50) (pos 250) 1) (wheel 0x3f80_0000) gives (0 ∷ 2 ∷ 0x06 ∷ []))
    -- part 7 is kept, behind part 6, and the judge goes by it
    ∷ (keeps (shaped 2 askew) gives (1 ∷ 2 ∷ 3 ∷ 7 ∷ []))
    ∷ (keeps (with_own_counts (scheduled (shaped 2 askew))) gives (1 ∷ 2 ∷ 3 ∷ 6 ∷ 7 ∷ []))
    ∷ (judges (scheduled (shaped 2 askew)) gives (0 ∷ []))
    -- 24: part 7 "isn't one byte of 1 or 2"; after 21, and before 8
    ∷ (checks (shaped 0 askew) gives (24 ∷ []))
    ∷ (checks (shaped 3 askew) gives (24 ∷ []))
    ∷ (checks (join ((1 holds marks askew) ∷ (7 holds []) ∷ [])) gives (24 ∷ []))
    ∷ (checks (join ((1 holds marks askew) ∷ (7 holds (2 ∷ 2 ∷ [])) ∷ [])) gives (24 ∷ []))
    ∷ (checks (join ((1 holds marks askew) ∷ (5 holds []) ∷ (7 holds []) ∷ [])) gives (21 ∷ []))
    ∷ (checks (join ((1 holds marks askew) ∷ (2 holds le_bytes 28 0) ∷ (7 holds []) ∷ [])) gives (24 ∷ []))
    ∷ []

-- No row is lost.
pub table_length : length table ≡ 149
unfolding table
table_length = refl

-- Every answer is the expected one.
pub examples : map (λ (r : Row). answers r.asked) table ≡ map (λ (r : Row). r.expected) table
unfolding table answers record_of pairs sheet sheet_in popups sheet_with shaped marks by never old_sheet never_sheet together lower_named of_bits
    le_at le_bytes less same later level kind_group house_radius old_radius house_of is_kind is_radius used_radius distance touching_of touching pair_of pair_value rank_radius outranks rank_key
    least put before pair next run process is_never value_at records schedule_of tree_of beats coordinate axis_key index_of index_bytes same_bytes is_index
    start_at split entries contents_of chain join answer in_turn every question1 codes_right question3 contents_questions question4
    magnitude is_minus with_sign are_digits is_last is_packed is_place packed_of place_bits marks_of_log log_of_marks
    log_size record_questions log_checks log_questions marks_questions log_to_marks_job marks_to_log_job
    Rows.rows filled_radius filled fill_questions mark_questions part1_questions is_sized is_choice is_popup is_popups question7 is_chosen question19 question21 question24 names_right record_right is_schedule question8
    question9 question23 last_questions body_questions check_questions check parts_questions assemble_questions stop_scale wheel_scale scale_of lives_at gap distance_squared label_reaches unit quarter product_at times turn applied turned_place reaches
    popped_up lives lives_at_stop in_group living_count counts_of is_counts notes shown map_byte map_part map_bytes how_many count_shown question10 indexed_questions Viewing.is_edge Viewing.is_window Viewing.question20 Viewing.question11 Viewing.view_questions outcome check_job scheduled
    added Rows.without taken_out added_popup taken_out_popup add_checks take_out_checks some both_later first_rule causes second_rule names_highest judge judge_schedule question22 judge_questions judge_job count_checks count_job column_questions to_columns_job from_columns_job to_columns from_columns as_columns as_marks differences sums scheduling_questions scheduling_job assemble_job fill_job shown_in view_job digits line root_step root nearest_from nearest mark_line mark_lines listing refusal_line print_questions printed
examples = refl
