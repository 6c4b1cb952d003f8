-- Part 3 of a sheet, the index: the tree that parts 1 and 2 give. `s` is part 1, `p` part 2, `n` the number of marks.
use Rattle.std.specs.Prelude.{ℕ, ◌+◌, ◌*◌, Bool, true, false, cond, ◌&&◌, ◌||◌, List, [], ◌∷◌, ◌++◌, ltb, eqb}
use Rattle.lists.specs.Blocks.{up_to}
use Rattle.numbers.specs.Little.{le_bytes}
use Rattle.fractions.specs.declared.Value.{Value}
use Rattle.fractions.specs.Order.{later, level}
use Rattle.marks.specs.Marks.{x_at, y_at, shifted}
use Rattle.elimination.specs.Records.{value_at}
use Rattle.index.specs.Tree.{tree_of}

-- "The root is the mark removed last ('never' beats all; equal values, lower number)."
abbrev pub outlasts : Value → ℕ → Value → ℕ → Bool
outlasts v a w b = later v w || (level v w && ltb a b)

unfoldable pub beats : List ℕ → ℕ → ℕ → Bool
beats p a b = outlasts (value_at p a) a (value_at p b) b

-- a mark's x or y, shifted to be at least 0
unfoldable pub coordinate : List ℕ → Bool → ℕ → ℕ
coordinate s axis m = cond axis (shifted (x_at s m)) (shifted (y_at s m))

-- "ordered by x at the top level, by y one level down, and so on in turn, equal coordinates by number": as one number
unfoldable pub axis_key : List ℕ → Bool → ℕ → ℕ
axis_key s axis m = coordinate s axis m * 65536 + m

-- the marks' numbers in the order of the tree
unfoldable pub index_of : List ℕ → List ℕ → ℕ → List ℕ
index_of s p n = tree_of (beats p) (axis_key s) n true (up_to n)

-- "2 bytes a mark"
abbrev pub index_entry_size : ℕ
index_entry_size = 2

unfoldable pub index_bytes : List ℕ → List ℕ
index_bytes [] = []
index_bytes (m ∷ l) = le_bytes index_entry_size m ++ index_bytes l

-- the same list
unfoldable pub same_bytes : List ℕ → List ℕ → Bool
same_bytes [] [] = true
same_bytes [] (b ∷ t) = false
same_bytes (a ∷ s) [] = false
same_bytes (a ∷ s) (b ∷ t) = eqb a b && same_bytes s t

-- "Is part 3 the tree that parts 1 and 2 give?" `t` is part 3.
unfoldable pub is_index : List ℕ → List ℕ → List ℕ → ℕ → Bool
is_index s p t n = same_bytes t (index_bytes (index_of s p n))
