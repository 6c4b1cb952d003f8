-- What each of the library's jobs gives, for all inputs.
use Rattle.std.specs.Prelude.{ℕ, zero, suc, ◌+◌, ◌*◌, ◌≡◌, Bool, cond, ◌&&◌, ◌||◌, List, [], ◌∷◌, ◌++◌, length, take, ltb, leb, eqb}
use Rattle.lists.specs.Stores.{over}
use Rattle.numbers.specs.Little.{Bytes}
use Rattle.marks.specs.declared.Mark.{Mark}
use Rattle.marks.specs.Marks.{mark_size}
use Rattle.elimination.specs.Reel.{schedule_of}
use Rattle.scheduling.specs.Filling.{work_size}
use Rattle.index.specs.Index.{index_of, index_bytes}
use Rattle.counting.specs.Counts.{counts_of}
use Rattle.contents.specs.Contents.{Part, ◌holds◌, bodies_of, find, has, split, chain, join, with_part, together, marks_part, schedule_part, popups_part}
use Rattle.contents.specs.Questions.{is_count, codes_right}
use Rattle.contents.specs.Asking.{Question, ◌asks◌, answer}
use Rattle.columns.specs.Columns.{to_columns, from_columns}
use Rattle.parts.specs.Questions.{question4, mark_count, reel_from, field_questions, is_popup}
use Rattle.bodies.specs.Questions.{count_of, edition_of, shape_of, reel_of}
use Rattle.judging.specs.Judge.{judge_schedule}
use Rattle.changing.specs.Changing.{added, taken_out, added_popup, taken_out_popup}
use Rattle.filling.specs.Filling.{filled, fill_questions}
use Rattle.logs.specs.Log.{log_record_size, record_count, marks_of_log, log_of_marks}
use Rattle.logs.specs.Questions.{log_questions, marks_questions}
use Rattle.sheet.specs.Questions.{sheet_count, sheet_shape, check_questions, check, indexed_questions, parts_questions}
use Rattle.zoom.specs.declared.Zoom.{Zoom}
use Rattle.zoom.specs.Zoom.{scale_of, scale}
use Rattle.reaching.specs.declared.Window.{Window}
use Rattle.reaching.specs.Shown.{shown}
use Rattle.bitmap.specs.Map.{map_bytes, count_shown, bit_at, walk}
use Rattle.reaching.specs.Questions.{view_questions, walk_questions}

-- ---- outcomes

-- the number, the length or count, and the bytes written at the start of the lent buffer
pub record Outcome : Type 0 where
  pub number : ℕ
  pub value : ℕ
  pub written : List ℕ

-- "The first 'no' gives its number, with 0 for every length and count, and no buffer is written."
unfoldable pub outcome : List Question → ℕ → List ℕ → Outcome
outcome questions value written =
    let number = answer questions in
    cond (eqb number 0) (record { number = 0; value = value; written = written }) (record { number = number; value = 0; written = [] })

-- a job that answers 0 and writes these bytes
abbrev pub wrote : List ℕ → Outcome
wrote w = record { number = 0; value = length w; written = w }

-- "Bytes past a written result stay untouched": what the buffer holds after the call.
unfoldable pub after : Outcome → List ℕ → List ℕ
after o buffer = over o.written buffer

-- ---- checking

unfoldable pub check_job : List ℕ → Outcome
check_job s = outcome (check_questions s) 0 []

-- ---- scheduling

-- a part of this code, where it is there
abbrev pub part_if : Bool → ℕ → List ℕ → List Part
part_if there code body = cond there ((code holds body) ∷ []) []

-- the part of this code, where there is one
abbrev pub keep : ℕ → List Part → List Part
keep code parts = part_if (has parts code) code (find parts code)

-- 02, request 6: "Scheduling, adding and taking out keep part 4"; request 9: they "carry part 5 along"; request 13: part 7 "travels with the
-- sheet as part 4 does". The parts that are kept, beside the marks, with this change to part 5, where it is there.
abbrev pub carried : List Part → (List ℕ → List ℕ) → List Part
carried parts change = keep 4 parts ++ (part_if (has parts 5) 5 (change (popups_part parts)) ++ keep 7 parts)

abbrev pub kept_parts : List Part → List Part
kept_parts parts = carried parts (λ q. q)

-- the parts that scheduling writes for these marks, with parts that are kept: "the marks copied unchanged", their schedule by the edition,
-- the shape and the popups that are kept, their index, and what is kept
abbrev pub new_schedule : List ℕ → List Part → List ℕ
new_schedule marks kept = schedule_of (reel_from (edition_of kept) (shape_of kept) (popups_part kept) marks)

abbrev pub new_index : List ℕ → List Part → List ℕ
new_index marks kept = index_bytes (index_of marks (new_schedule marks kept) (mark_count marks))

-- 02, request 12: "Scheduling, adding and taking out renew one that is there": part 6, the counts of the new schedule, where it is `counted`.
abbrev pub new_counts : List ℕ → List Part → List ℕ
new_counts marks kept = counts_of marks (new_schedule marks kept) (popups_part kept) (mark_count marks)

abbrev pub with_counts : Bool → List ℕ → List Part → List Part
with_counts counted counts parts = cond counted (with_part 6 counts parts) parts

abbrev pub new_parts : List ℕ → List Part → Bool → List Part
new_parts marks kept counted =
    (1 holds marks) ∷ (2 holds new_schedule marks kept) ∷ (3 holds new_index marks kept) ∷ with_counts counted (new_counts marks kept) kept

-- What scheduling writes for them.
abbrev pub scheduled_from : List ℕ → List Part → Bool → List ℕ
scheduled_from marks kept counted = join (new_parts marks kept counted)

-- What it writes for a sheet.
unfoldable pub scheduled : List ℕ → List ℕ
scheduled s = scheduled_from (marks_part (split s)) (kept_parts (split s)) (has (split s) 6)

-- "32 + 27n bytes for n marks", and of parts that are kept "add its bytes to the length": of each 10 in the contents, and its own; of part 6
-- these are 180
abbrev pub kept_size : List Part → ℕ
kept_size kept = 10 * length kept + length (chain (bodies_of kept))

abbrev pub scheduled_size : ℕ → List Part → Bool → ℕ
scheduled_size n kept counted = 27 * n + 32 + kept_size kept + cond counted 180 0

-- 13 of scheduling: the sheet, and "a work buffer of at least 32n + 1,024 bytes"
abbrev pub has_room : ℕ → List Part → Bool → ℕ → ℕ → Bool
has_room n kept counted work room = leb (work_size n) work && leb (scheduled_size n kept counted) room

-- a job that asks `checks`, and then 13 for these marks and kept parts, and writes what scheduling writes for them
unfoldable pub scheduling_questions : List Question → List ℕ → List Part → Bool → ℕ → ℕ → List Question
scheduling_questions checks marks kept counted work room = checks ++ ((13 asks has_room (mark_count marks) kept counted work room) ∷ [])

unfoldable pub scheduling_job : List Question → List ℕ → List Part → Bool → ℕ → ℕ → Outcome
scheduling_job checks marks kept counted work room =
    let sheet = scheduled_from marks kept counted in
    outcome (scheduling_questions checks marks kept counted work room) (length sheet) sheet

-- "scheduling 1 to 9 and 13"
abbrev pub schedule_job : List ℕ → ℕ → ℕ → Outcome
schedule_job s work room = scheduling_job (check_questions s) (marks_part (split s)) (kept_parts (split s)) (has (split s) 6) work room

-- "A sheet is scheduled here if its bytes are those that scheduling, answering 0, writes for some sheet."
pub record ScheduledHere (s : List ℕ) : Type 0 where
  pub given_sheet : List ℕ
  pub bytes : Bytes given_sheet
  pub accepted : check given_sheet ≡ 0
  pub written : s ≡ scheduled given_sheet

-- The same over the job: some sheet and buffers for which scheduling answers 0 and leaves these bytes. `work` is the length of the work
-- buffer, and `held` what the written one held. `here_iff` of Theorems.
pub record LeftByScheduling (s : List ℕ) : Type 0 where
  pub given_sheet : List ℕ
  pub bytes : Bytes given_sheet
  pub work : ℕ
  pub held : List ℕ
  pub answered : (schedule_job given_sheet work (length held)).number ≡ 0
  pub left : s ≡ take (schedule_job given_sheet work (length held)).value (after (schedule_job given_sheet work (length held)) held)

-- ---- adding and taking out: 02, request 5

-- 02, request 9: "a new mark's k: right after 6, and there also a k other than 0 on a sheet without part 5"
abbrev pub is_new_popup : Bool → ℕ → Bool
is_new_popup there k = is_popup k && (there || eqb k 0)

-- "Checks: after 1 to 10, .. 18 where 4,096 marks are held already; then 5, 6 for the new mark, then 13 .. for the new number of marks."
unfoldable pub add_checks : List ℕ → Mark → ℕ → List Question
add_checks s mark k =
    indexed_questions s
    ++ ((18 asks ltb (sheet_count s) 4096) ∷ (field_questions mark.kind mark.radius ++ ((21 asks is_new_popup (has (split s) 5) k) ∷ [])))

-- "Add a mark .. The new sheet equals one scheduled from the new marks"; "adding names the new mark's k"
abbrev pub add_job : List ℕ → Mark → ℕ → ℕ → ℕ → Outcome
add_job s mark k work room =
    scheduling_job (add_checks s mark k) (added (marks_part (split s)) mark) (carried (split s) (λ q. added_popup q k)) (has (split s) 6) work room

-- "after 1 to 10, 17 where m isn't below n .. then 13"
unfoldable pub take_out_checks : List ℕ → ℕ → List Question
take_out_checks s m = indexed_questions s ++ ((17 asks ltb m (sheet_count s)) ∷ [])

-- ".. or take out mark m"
abbrev pub take_out_job : List ℕ → ℕ → ℕ → ℕ → Outcome
take_out_job s m work room =
    scheduling_job (take_out_checks s m) (taken_out (marks_part (split s)) m) (carried (split s) (λ q. taken_out_popup q m)) (has (split s) 6) work room

-- ---- judging: 02, request 10

-- 22: "where the judge says no", of the schedule that part 2 proposes
unfoldable pub question22 : List Part → Bool
question22 parts = judge_schedule (reel_of parts) (schedule_part parts)

-- "Checks: 1 to 9, then 10 where part 2 or 3 is lacking, then 22 where the judge says no."
unfoldable pub judge_questions : List ℕ → List Question
judge_questions s = indexed_questions s ++ ((22 asks question22 (split s)) ∷ [])

unfoldable pub judge_job : List ℕ → Outcome
judge_job s = outcome (judge_questions s) 0 []

-- ---- counting: 02, request 12

-- part 6 of a sheet, by its own schedule
abbrev pub counts_in : List Part → List ℕ
counts_in parts = counts_of (marks_part parts) (schedule_part parts) (popups_part parts) (count_of parts)

-- "A counting job writes the sheet with part 6"
abbrev pub with_own_counts : List ℕ → List ℕ
with_own_counts s = join (with_part 6 (counts_in (split s)) (split s))

-- "it makes checking's checks, then 10 without part 2, then 13"
unfoldable pub count_checks : List ℕ → List Question
count_checks s = check_questions s ++ ((10 asks has (split s) 2) ∷ [])

unfoldable pub count_job : List ℕ → ℕ → Outcome
count_job s room = outcome (count_checks s ++ ((13 asks leb (length (with_own_counts s)) room) ∷ [])) (length (with_own_counts s)) (with_own_counts s)

-- ---- putting together

-- 1, of the parts that are put together: their number is that of the codes, and there is a body for each
abbrev pub are_counted : List ℕ → List (List ℕ) → Bool
are_counted codes bodies = is_count (length codes) && leb (length codes) (length bodies)

-- 01: "Putting together asks 1 (of the number of parts only), 4 to 9 and 13." 02, request 6: it "names its codes, asks 2 of them after 1, and takes
-- the same combinations". "Further bodies are ignored": `together` ends with the codes.
unfoldable pub assemble_questions : List ℕ → List (List ℕ) → ℕ → List Question
assemble_questions codes bodies room =
    (1 asks are_counted codes bodies) ∷ (2 asks codes_right codes) ∷ parts_questions (together codes bodies) room

unfoldable pub assemble_job : List ℕ → List (List ℕ) → ℕ → Outcome
assemble_job codes bodies room =
    let sheet = join (together codes bodies) in
    outcome (assemble_questions codes bodies room) (length sheet) sheet

-- ---- filling

-- 11 bytes a mark
unfoldable pub fill_job : List ℕ → ℕ → Outcome
fill_job s room = outcome (fill_questions s room) (mark_size * mark_count s) (filled s)

-- ---- turning: 02, request 3, "logs turned into marks and marks into logs"

-- 11 bytes a record
unfoldable pub log_to_marks_job : List ℕ → ℕ → Outcome
log_to_marks_job s room = outcome (log_questions s room) (mark_size * record_count s) (marks_of_log s)

-- 13 bytes a mark
unfoldable pub marks_to_log_job : List ℕ → ℕ → Outcome
marks_to_log_job s room = outcome (marks_questions s room) (log_record_size * mark_count s) (log_of_marks s)

-- ---- columns: 02, request 11, "Archive by columns"

-- "Checks: only 4, then 13." As many bytes are written as are given.
abbrev pub column_checks : List ℕ → List Question
column_checks s = (4 asks question4 s) ∷ []

unfoldable pub column_questions : List ℕ → ℕ → List Question
column_questions s room = column_checks s ++ ((13 asks leb (mark_size * mark_count s) room) ∷ [])

-- "Rearrange part 1"
unfoldable pub to_columns_job : List ℕ → ℕ → Outcome
to_columns_job s room = outcome (column_questions s room) (mark_size * mark_count s) (to_columns s (mark_count s))

-- "The inverse"
unfoldable pub from_columns_job : List ℕ → ℕ → Outcome
from_columns_job c room = outcome (column_questions c room) (mark_size * mark_count c) (from_columns c (mark_count c))

-- ---- viewing

-- the marks that a view of an accepted sheet shows
unfoldable pub shown_in : List ℕ → Window → Zoom → ℕ → Bool
shown_in s e zoom = shown (sheet_shape s) (marks_part (split s)) (schedule_part (split s)) (popups_part (split s)) (scale (scale_of zoom)) e

unfoldable pub view_job : List ℕ → Window → Zoom → ℕ → Outcome
view_job s e zoom room =
    let show = shown_in s e zoom in
    outcome (view_questions s e zoom room) (count_shown show (sheet_count s)) (map_bytes show (sheet_count s))

-- ---- reading a map

-- "(65,535 from the walk)"
unfoldable pub walk_job : List ℕ → ℕ → ℕ → Outcome
walk_job bytes n start =
    let number = answer (walk_questions bytes n) in
    record { number = number; value = cond (eqb number 0) (walk bytes n start) 65535; written = [] }

-- Walking on from `start`, each next from one past the last, until 65,535: what the walks answer, `turns` of them at most.
unfoldable pub walks_from : List ℕ → ℕ → ℕ → ℕ → List ℕ
walks_from bytes n zero start = []
walks_from bytes n (suc turns) start =
    let r = (walk_job bytes n start).value in
    r ∷ cond (eqb r 65535) [] (walks_from bytes n turns (suc r))

-- "mark m is bit m mod 8 of byte m / 8": 1 where the map shows mark m, else 0, and 0 where m is not below n.
unfoldable pub is_shown_job : List ℕ → ℕ → ℕ → Outcome
is_shown_job bytes n m = outcome (walk_questions bytes n) (cond (ltb m n) (bit_at bytes m) 0) []
