-- A tree in its places: place `lo` holds the root of a block, and the places after it the two halves of the others, one behind the
-- other. `e i` is what stands at place i.
use Rattle.std.specs.Prelude.{ℕ, ◌+◌, ◌-◌, ◌*◌, ◌/◌, ◌≡◌, Bool, true, not, List, ◌∷◌, ◌++◌}
use Rattle.lists.specs.Counting.{count, non}
use Rattle.lists.specs.Blocks.{block}
use Rattle.numbers.specs.Little.{le_at}
use Rattle.index.specs.Index.{index_entry_size}
use Rattle.index.specs.Valid.{is_tree, Split}

-- number i of the index `t`
abbrev pub entry_at : List ℕ → ℕ → ℕ
entry_at t i = le_at index_entry_size t (index_entry_size * i)

-- all but the root
abbrev pub others_of : (ℕ → ℕ) → ℕ → ℕ → List ℕ
others_of e lo size = block e (lo + 1) (size - 1)

-- their halves, the larger first
abbrev pub left_of : (ℕ → ℕ) → ℕ → ℕ → List ℕ
left_of e lo size = block e (lo + 1) (size / 2)

abbrev pub right_of : (ℕ → ℕ) → ℕ → ℕ → List ℕ
right_of e lo size = block e (lo + 1 + size / 2) (size - 1 - size / 2)

-- A block that is a tree: its root beats all others, and its halves are separated on the axis and trees on the other axis.
pub record Halves (beats : ℕ → ℕ → Bool) (key : Bool → ℕ → ℕ) (axis : Bool) (e : ℕ → ℕ) (lo size : ℕ) : Type 0 where
  pub whole : block e lo size ≡ e lo ∷ (left_of e lo size ++ right_of e lo size)
  pub beaten : count (non (beats (e lo))) (left_of e lo size ++ right_of e lo size) ≡ 0
  pub split : Split (key axis) (left_of e lo size) (right_of e lo size)
  pub left : is_tree beats key (not axis) (left_of e lo size) ≡ true
  pub right : is_tree beats key (not axis) (right_of e lo size) ≡ true
