-- How the code counts. A mark begins to live at one stop and is gone from another on, so it is entered twice: in the cell of the stop where it
-- begins, and in the cell of the stop where it is gone. What lives at a stop is what began until then less what is gone.
use Rattle.std.specs.Prelude.{ℕ, ◌+◌, ◌*◌, ◌<◌, ◌^◌, min, ◌≡◌, Bool, cond, List, ltb, leb, eqb, length, get_or}
use Rattle.lists.specs.Tests.{how_many}
use Rattle.fractions.specs.declared.Value.{Value}
use Rattle.fractions.specs.declared.Value.TheVariants.{At}
use Rattle.zoom.specs.Living.{lives_at}
use Rattle.marks.specs.Marks.{kind_at, kind_group, group_number}
use Rattle.marks.specs.Pairs.{popup_at, popup_value}
use Rattle.elimination.specs.Records.{value_at}
use Rattle.counting.specs.Counts.{stops, groups}

-- At how many stops a mark with this removal value lives. They are the first ones: `lives_first` of Lemmas.
unfoldable pub stops_lived : Value → ℕ
stops_lived v = how_many (λ t. lives_at (2 ^ t) v) stops

-- a test that tells of each stop whether it is one of the first n
abbrev pub TellsFirst : (ℕ → Bool → Type 0) → ℕ → Type 0
TellsFirst tells n = (stop : ℕ) (b : Bool) → stop < stops → tells stop b → b ≡ ltb stop n

-- one step of a search for it: as far as the step goes, if that is not too far
abbrev pub step_to : ℕ → ℕ → ℕ → ℕ
step_to lived known step = cond (leb (known + step) lived) (known + step) known

-- the stop from which on mark m is gone
abbrev pub end_stop : List ℕ → ℕ → ℕ
end_stop p m = stops_lived (value_at p m)

-- The stop from which on it is there by its popup: as many stops are below k as a mark with the removal value k²/4096 lives at.
abbrev pub popup_stop : List ℕ → ℕ → ℕ
popup_stop q m = stops_lived (At (popup_value (popup_at q m)))

-- The stop where it begins to live. One that is gone before its popup begins where it ends, and so lives at no stop.
abbrev pub first_stop : List ℕ → List ℕ → ℕ → ℕ
first_stop p q m = min (popup_stop q m) (end_stop p m)

abbrev pub mark_group : List ℕ → ℕ → ℕ
mark_group s m = group_number (kind_group (kind_at s m))

-- The cells of mark m. Where marks begin, a row of cells for no stop stands in front: each row is then added to the one before it.
unfoldable pub begin_cell : List ℕ → List ℕ → List ℕ → ℕ → ℕ
begin_cell s p q m = groups * (first_stop p q m + 1) + mark_group s m

unfoldable pub end_cell : List ℕ → List ℕ → ℕ → ℕ
end_cell s p m = groups * end_stop p m + mark_group s m

-- the sizes of the two tables: 19 rows and 18
abbrev pub begin_size : ℕ
begin_size = 95

abbrev pub end_size : ℕ
end_size = 90

-- Each cell of the table holds how many of the first n marks are in it.
pub record Tallied (cell : ℕ → ℕ) (n size : ℕ) (table : List ℕ) : Type 0 where
  pub long : length table ≡ size
  pub each : (j : ℕ) → j < size → get_or table j 0 ≡ how_many (λ m. eqb (cell m) j) n

-- The first n marks stand in both tables.
pub record Entered (s p q : List ℕ) (n : ℕ) (begins ends : List ℕ) : Type 0 where
  pub begun : Tallied (begin_cell s p q) n begin_size begins
  pub gone : Tallied (end_cell s p) n end_size ends
