-- The tree of part 3, over any order of the roots and any key for each axis.
-- `beats a b`: mark a is removed later than mark b, or at an equal value with the lower number.
-- `key true m` orders the marks by x and, for equal x, by number; `key false m` by y.
use Rattle.std.specs.Prelude.{ℕ, zero, suc, ◌/◌, Bool, not, cond, List, [], ◌∷◌, ◌++◌, length, take, drop}
use Rattle.lists.specs.Counting.{without}
use Rattle.lists.specs.Sorting.{sort}

-- ---- "The first half, the larger when uneven, is the left subtree."

abbrev pub half : ℕ → ℕ
half m = suc m / 2

abbrev pub first : List ℕ → List ℕ
first l = take (half (length l)) l

abbrev pub second : List ℕ → List ℕ
second l = drop (half (length l)) l

-- ---- "The root is the mark removed last. The others are ordered .."

module _ (beats : ℕ → ℕ → Bool) where
  -- who of x and all of l is beaten by none
  abbrev pub best : ℕ → List ℕ → ℕ
  best x [] = x
  best x (y ∷ l) = cond (beats x (best y l)) x (best y l)

module _ (beats : ℕ → ℕ → Bool) (key : Bool → ℕ → ℕ) where
  -- The tree over the marks of l, "written root, left, right", the axis changing from level to level.
  -- The first argument bounds the depth: the length of l is enough.
  unfoldable pub tree_of : ℕ → Bool → List ℕ → List ℕ
  tree_of zero axis l = []
  tree_of (suc f) axis [] = []
  tree_of (suc f) axis (x ∷ l) =
      let root = best beats x l in
      let rest = sort (key axis) (without root (x ∷ l)) in
      root ∷ tree_of f (not axis) (first rest) ++ tree_of f (not axis) (second rest)
