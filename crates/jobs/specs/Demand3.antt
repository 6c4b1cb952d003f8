-- Demand 3 over the bytes of sheets, and what 02's requests 9 and 14 add of popups and of marks of lower priority: what is claimed. Theorems
-- proves it of every sheet scheduled here, and the contracts of scheduling and of viewing cite it.
use Rattle.std.specs.Prelude.{ℕ, ◌<◌, ◌≡◌, Bool, ◌&&◌, List, [], ◌↔◌, length, take}
use Rattle.fractions.specs.declared.Fraction.{Fraction}
use Rattle.fractions.specs.declared.Value.{Value}
use Rattle.fractions.specs.declared.Value.TheVariants.{At}
use Rattle.fractions.specs.Order.{Equal, AtMost}
use Rattle.marks.specs.Pairs.{popup_at, popup_value}
use Rattle.elimination.specs.Marks.{Marks}
use Rattle.elimination.specs.Records.{value_at}
use Rattle.elimination.specs.Reel.{marks_of, schedule_of}
use Rattle.elimination.specs.Rules.{FirstRule, SecondRule, AllSound}
use Rattle.elimination.specs.Important.{SameImportant, Unmoved}
use Rattle.contents.specs.Contents.{Part, has, split, marks_part, schedule_part, popups_part}
use Rattle.contents.specs.Asking.{answer}
use Rattle.parts.specs.Questions.{mark_count, reel_from}
use Rattle.bodies.specs.Questions.{edition_of, shape_of, reel_of}
use Rattle.sheet.specs.Questions.{sheet_count, sheet_shape, check}
use Rattle.bitmap.specs.Map.{count_shown}
use Rattle.bitmap.specs.Facts.{Shows}
use Rattle.zoom.specs.declared.Zoom.{Zoom}
use Rattle.zoom.specs.Zoom.{scale_of, scale}
use Rattle.reaching.specs.declared.Window.{Window}
use Rattle.counting.specs.Lives.{lives}
use Rattle.reaching.specs.Shown.{reaches}
use Rattle.reaching.specs.Questions.{view_questions}
use Rattle.jobs.specs.declared.Answer.{Answer}
use Rattle.jobs.specs.Jobs.{after, kept_parts, scheduled, ScheduledHere, view_job}

-- ---- a list against a sheet, `s`

-- the marks of a sheet, as the process and the rules see them
abbrev pub sheet_marks : List ℕ → Marks
sheet_marks s = marks_of (reel_of (split s))

-- "ours are those in the scheduled sheet's part 2": the removal value that it names for mark m
abbrev pub sheet_value : List ℕ → ℕ → Value
sheet_value s = value_at (schedule_part (split s))

-- "Each that a list names is 'never' or a fraction of any size with a denominator above 0"
abbrev pub IsList : List ℕ → (ℕ → Value) → Type 0
IsList s list = AllSound (sheet_marks s) list

-- The list keeps both rules.
abbrev pub KeepsRules : List ℕ → (ℕ → Value) → Type 0
KeepsRules s list = FirstRule (sheet_marks s) list × SecondRule (sheet_marks s) list

-- who is shown, "its living taken from any list that keeps both rules"
abbrev pub shown_by : List ℕ → Window → Zoom → (ℕ → Value) → ℕ → Bool
shown_by s e zoom list m =
    let k = scale (scale_of zoom) in
    lives (list m) (popups_part (split s)) k m && reaches (sheet_shape s) (marks_part (split s)) k e m

-- The map shows exactly the marks that the list has living and whose label reaches the rectangle, its unused bits are 0, and the count is
-- their number.
pub record ShowsLiving (s : List ℕ) (e : Window) (zoom : Zoom) (list : ℕ → Value) (map : List ℕ) (count : ℕ) : Type 0 where
  pub bits : Shows (shown_by s e zoom list) (sheet_count s) map
  pub counted : count ≡ count_shown (shown_by s e zoom list) (sheet_count s)

-- ---- the demand

-- "Whatever list someone holds against a sheet scheduled here": it equals ours, mark by mark, exactly when it keeps both rules; and such
-- a list has living, for each accepted view, what the map shows. `buffer` is what the lent map held.
pub record Demand3 (s : List ℕ) : Type 0 where
  pub same : (list : ℕ → Value) → IsList s list → ((m : ℕ) → m < sheet_count s → Equal (sheet_value s m) (list m)) ↔ KeepsRules s list
  pub view : (list : ℕ → Value) → IsList s list → KeepsRules s list
      → (e : Window) (zoom : Zoom) (buffer : List ℕ) → answer (view_questions s e zoom (length buffer)) ≡ 0
      → ShowsLiving s e zoom list (after (view_job s e zoom (length buffer)) buffer) (view_job s e zoom (length buffer)).value

-- ---- "Notes don't move breaks": two sheets, `s` and `t`

-- They are "of the same edition and shape" and "hold the same marks of priority p and above, in the same order and with the same popups". Where part
-- 4, 5 or 7 is not there, that counts as edition 1, popups of 0 and disks.
abbrev pub HoldSame : ℕ → List ℕ → List ℕ → Type 0
HoldSame p s t = SameImportant p (reel_of (split s)) (reel_of (split t))

-- "these marks have the same removal values and, counted among themselves, the same eliminators"
abbrev pub FareSame : ℕ → List ℕ → List ℕ → Type 0
FareSame p s t = Unmoved p (reel_of (split s)) (schedule_part (split s)) (reel_of (split t)) (schedule_part (split t))

-- ---- what the contracts cite

-- Of scheduling these marks with parts that are kept, and with counts or without, which answered r and left `out`: a success has written a sheet
-- that is accepted and scheduled here, with these marks as its part 1, "so no mark handed in is missing", and with the kept parts, of which the
-- demand holds. It is the sheet that scheduling writes for any sheet of these. Viewing asks for no more: see `MeetsView`. That its counts are
-- right is said of every accepted sheet: see Counted.
pub record Meets (marks : List ℕ) (kept : List Part) (counted : Bool) (r : Answer) (out : List ℕ) : Type 0 where
  pub accepted : r.number ≡ 0 → check (take r.value out) ≡ 0
  pub here : r.number ≡ 0 → ScheduledHere (take r.value out)
  pub part1 : r.number ≡ 0 → marks_part (split (take r.value out)) ≡ marks
  pub keeps : r.number ≡ 0 → kept_parts (split (take r.value out)) ≡ kept
  pub renews : r.number ≡ 0 → has (split (take r.value out)) 6 ≡ counted
  pub fresh : r.number ≡ 0 → (g : List ℕ) → marks_part (split g) ≡ marks → kept_parts (split g) ≡ kept → has (split g) 6 ≡ counted
      → take r.value out ≡ scheduled g
  pub demand3 : r.number ≡ 0 → Demand3 (take r.value out)
  -- 02, request 9: "a popup fraction is kept only where it exceeds the touching value". So all k = 0 gives the part 2 of no part 5: that of the
  -- same marks, edition and shape without popups.
  pub unpopped : r.number ≡ 0 → ((m : ℕ) → m < mark_count marks → popup_at (popups_part kept) m ≡ 0)
      → schedule_part (split (take r.value out)) ≡ schedule_of (reel_from (edition_of kept) (shape_of kept) [] marks)
  -- "it isn't there while 64z is below k": nobody is removed before it pops up. Each removal value is at least the mark's own k²/4096.
  pub popped : r.number ≡ 0 → (m : ℕ) → m < mark_count marks → (f : Fraction) → sheet_value (take r.value out) m ≡ At f
      → AtMost (popup_value (popup_at (popups_part kept) m)) f
  -- 02, request 14: whatever stands below priority p moves nothing above it.
  pub unmoved : r.number ≡ 0 → (t : List ℕ) → ScheduledHere t → (p : ℕ) → HoldSame p (take r.value out) t → FareSame p (take r.value out) t

-- Of viewing the sheet s, which answered r and left `map`.
pub record MeetsView (s : List ℕ) (e : Window) (zoom : Zoom) (r : Answer) (map : List ℕ) : Type 0 where
  pub living : ScheduledHere s → r.number ≡ 0
      → (list : ℕ → Value) → IsList s list → KeepsRules s list → ShowsLiving s e zoom list map r.value
