-- What the steps of scheduling and viewing give.
use Rattle.std.specs.Prelude.{ℕ, ◌*◌, ◌<◌, ◌≤◌, ◌≡◌, Bool, cond, List, [], ◌∷◌, ◌++◌, ltb, leb, length, drop}
use Rattle.marks.specs.Marks.{mark_size}
use Rattle.marks.specs.Good.{GoodMarks}
use Rattle.marks.specs.Pairs.{popup_size, popup_at}
use Rattle.elimination.specs.Records.{record_size}
use Rattle.elimination.specs.Reel.{Reel, schedule_of}
use Rattle.index.specs.Index.{index_entry_size, index_of, index_bytes}
use Rattle.indexing.specs.Buffer.{index_end}
use Rattle.contents.specs.Contents.{Part, codes_of, bodies_of, sizes_of, contents_of, split, marks_part, schedule_part, popups_part}
use Rattle.contents.specs.Asking.{◌asks◌}
use Rattle.sheet.specs.Questions.{sheet_count, sheet_shape}
use Rattle.reaching.specs.declared.Window.{Window}
use Rattle.reaching.specs.Shown.{shown}
use Rattle.bitmap.specs.Map.{map_size, map_bytes, count_shown}
use Rattle.jobs.specs.Jobs.{Outcome, outcome, part_if, new_schedule, new_index, new_parts}

-- The parts that are kept, from the bytes of parts 4 and 7, none where they are not there, and part 5's. Part 5 is told by `there`: of no marks it
-- is empty.
abbrev pub choice_from : ℕ → List ℕ → List Part
choice_from code body = part_if (ltb 0 (length body)) code body

abbrev pub kept_from : List ℕ → Bool → List ℕ → List ℕ → List Part
kept_from edition there popups shape = choice_from 4 edition ++ (part_if there 5 popups ++ choice_from 7 shape)

-- What is lent of the popups of n marks: one for each where part 5 is there, and else none.
pub record PopupsLent (there : Bool) (q : List ℕ) (n : ℕ) : Type 0 where
  pub sized : length q ≡ cond there (popup_size * n) 0
  pub each : (m : ℕ) → m < n → popup_at q m ≤ 65536

-- What is lent to be scheduled: n marks that are taken, and parts 4, 5 and 7 where they are kept.
pub record PartsLent (marks edition : List ℕ) (there : Bool) (popups shape : List ℕ) (n : ℕ) : Type 0 where
  pub good : GoodMarks marks n
  pub long : length marks ≡ mark_size * n
  pub edition_short : length edition ≤ 1
  pub shape_short : length shape ≤ 1
  pub popups_lent : PopupsLent there popups n

-- one element, or none
abbrev pub if_any : Bool → ℕ → List ℕ
if_any there x = cond there (x ∷ []) []

-- The codes and sizes of the parts of a sheet of n marks with part 2, by which of parts 3 to 7 are there.
abbrev pub codes_from : Bool → Bool → Bool → Bool → Bool → List ℕ
codes_from index edition popups counts shape =
    (((((1 ∷ 2 ∷ []) ++ if_any index 3) ++ if_any edition 4) ++ if_any popups 5) ++ if_any counts 6) ++ if_any shape 7

abbrev pub sizes_from : ℕ → Bool → Bool → Bool → Bool → Bool → List ℕ
sizes_from n index edition popups counts shape =
    (((((mark_size * n ∷ record_size * n ∷ []) ++ if_any index (index_entry_size * n)) ++ if_any edition 1) ++ if_any popups (popup_size * n)) ++ if_any counts 170)
    ++ if_any shape 1

-- What stands of the sheet that scheduling writes before its parts 6 and 7: the contents, which name all parts, and parts 1 to 5.
abbrev pub bare_from : List ℕ → List ℕ → Bool → List ℕ → List ℕ → Bool → List ℕ
bare_from marks edition there popups shape counted =
    let kept = kept_from edition there popups shape in
    let parts = new_parts marks kept counted in
    contents_of (codes_of parts) (sizes_of (bodies_of parts)) ++ (marks ++ (new_schedule marks kept ++ (new_index marks kept ++ (edition ++ popups))))

-- the three parts of a reel at the start of a buffer
unfoldable pub results_over : Reel → List ℕ → List ℕ
results_over r buffer =
    r.marks ++ (schedule_of r ++ (index_bytes (index_of r.marks (schedule_of r) r.count) ++ drop (index_end r.count) buffer))

-- viewing an accepted sheet at a zoom that is taken: 13 is all that is left to ask
unfoldable pub view_at : List ℕ → Window → ℕ → ℕ → Outcome
view_at s e k room =
    let show = shown (sheet_shape s) (marks_part (split s)) (schedule_part (split s)) (popups_part (split s)) k e in
    outcome ((13 asks leb (map_size (sheet_count s)) room) ∷ []) (count_shown show (sheet_count s)) (map_bytes show (sheet_count s))
