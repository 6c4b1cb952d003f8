-- The search for what removes the mark in row p, which takes the rows above it in any order.
use Rattle.std.specs.Prelude.{ℕ, ◌+◌, ◌*◌, ◌<◌, ◌≤◌, ◌≡◌, Bool, true, false, cond, List, ◌⊎◌, length}
use Rattle.fractions.specs.declared.Fraction.{Fraction}
use Rattle.fractions.specs.Order.{less, Less, AtMost, Small}
use Rattle.marks.specs.declared.Label.{Label}
use Rattle.marks.specs.Pairs.{popup_value}
use Rattle.elimination.specs.declared.Record.{Record}
use Rattle.searching.specs.declared.Leader.{Leader}
use Rattle.searching.specs.Rows.{row_size, row_label, row_popup, row_value, rows_pair, never, Complete}
use Rattle.searching.specs.Scan.{Scanned}

-- ---- what is searched

-- `a` is the label of row p, and the rows above it are complete; where `popped` is false none of them has a popup
pub record SearchFor (popped : Bool) (w : List ℕ) (p : ℕ) (a : Label) : Type 0 where
  pub few : p < 4096
  pub room : row_size * p + row_size ≤ length w
  pub label_is : a ≡ row_label w p
  pub radius_small : a.radius ≤ 16383
  pub popup_small : row_popup w p ≤ 65536
  pub above : (q : ℕ) → q < p → Complete w q
  pub plain : popped ≡ false → (q : ℕ) → q ≤ p → row_popup w q ≡ 0

-- Of two rows above p that touch at 0, the lower-ranked one is removed at 0, unless the higher-ranked one is itself: so of the rows at one place only
-- one can remove another.
pub record Zeroed (shape : ℕ) (w : List ℕ) (p : ℕ) : Type 0 where
  pub removed : (q b : ℕ) → q < b → b < p → (rows_pair shape w q b).num ≡ 0 → 0 < (row_value w q).num → (row_value w b).num ≡ 0

-- ---- the best row so far

abbrev pub leader_value : Leader → Fraction
leader_value c = record { num = c.num; den = c.den }

abbrev pub none : Leader
none = record { num = 1; den = 0; row = 0 }

-- no product of a comparison with it is too large, and it names a row
pub record Admitted (p : ℕ) (c : Leader) : Type 0 where
  pub small : Small (leader_value c)
  pub inside : c.row ≤ p

-- the value f goes before the value g: it is less, or equal, where a tie goes to f
unfoldable pub precedes : Fraction → Fraction → Bool → Bool
precedes f g tie = cond (less f g) true (cond (less g f) false tie)

-- ---- what a step of the search adds

-- row q is removed later than its value with row p
abbrev pub StandsAt : ℕ → List ℕ → ℕ → ℕ → Type 0
StandsAt shape w p q = Less (rows_pair shape w q p) (row_value w q)

abbrev pub Positive : ℕ → List ℕ → ℕ → Type 0
Positive shape w p = (q : ℕ) → q < p → 0 < (rows_pair shape w q p).den

-- the leader goes before row q, if that one stands
pub record Before (shape : ℕ) (w : List ℕ) (p : ℕ) (c : Leader) (q : ℕ) : Type 0 where
  pub at_most : StandsAt shape w p q → AtMost (leader_value c) (rows_pair shape w q p)
  pub less : StandsAt shape w p q → q < c.row → Less (leader_value c) (rows_pair shape w q p)

-- it is a row that stands, with its value
pub record Leads (shape : ℕ) (w : List ℕ) (p : ℕ) (c : Leader) : Type 0 where
  pub below : c.row < p
  pub exact : leader_value c ≡ rows_pair shape w c.row p
  pub stands : StandsAt shape w p c.row

abbrev pub Real : ℕ → List ℕ → ℕ → Leader → Type 0
Real shape w p c = (leader_value c ≡ never) ⊎ Leads shape w p c

-- from c to d: d goes before all rows that c does, and before the rows of T
pub record Adds (shape : ℕ) (w : List ℕ) (p : ℕ) (T : ℕ → Type 0) (c d : Leader) : Type 0 where
  pub step : Positive shape w p → Real shape w p c
      → Real shape w p d × ((q : ℕ) → q < p → Before shape w p c q → Before shape w p d q) × ((q : ℕ) → q < p → T q → Before shape w p d q)

abbrev pub Only : ℕ → ℕ → Type 0
Only j q = q ≡ j

abbrev pub Higher : ℕ → ℕ → Type 0
Higher k q = q < k

-- c is the best of the first k rows
pub record BestOfFirst (shape : ℕ) (w : List ℕ) (p k : ℕ) (c : Leader) : Type 0 where
  pub admitted : Admitted p c
  pub adds : Adds shape w p (Higher k) none c
  pub low : c.row ≤ k

-- its value is at most row p's popup value, which no pair value of row p is below
unfoldable pub is_least : List ℕ → ℕ → Leader → Bool
is_least w p c = cond (less (popup_value (row_popup w p)) (leader_value c)) false true

-- d names row q, or the row that c names
abbrev pub OneOf : ℕ → Leader → Leader → Type 0
OneOf q c d = (d.row ≡ q) ⊎ (d.row ≡ c.row)

-- t is what is found for row p, by any shape by which c goes before all rows above it
pub record FoundBy (w : List ℕ) (p : ℕ) (c : Leader) (t : Record) : Type 0 where
  pub found : (shape : ℕ) → Adds shape w p (Higher p) none c → Scanned shape w p t
