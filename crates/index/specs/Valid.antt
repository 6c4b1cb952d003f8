-- How a list is told to be a tree without sorting it: each root beats the roots of its two halves, and every key of the first
-- half is below every key of the second. `beats` and `key` are those of Tree.
use Rattle.std.specs.Prelude.{ℕ, zero, suc, max, min, ◌≡◌, Bool, true, false, not, ◌&&◌, List, [], ◌∷◌, length, leb}
use Rattle.lists.specs.Counting.{count, non, under}
use Rattle.index.specs.Tree.{first, second}

-- A strict order in which one of any two different numbers beats the other.
pub record Order (beats : ℕ → ℕ → Bool) : Type 0 where
  pub asym : (a b : ℕ) → beats a b ≡ true → beats b a ≡ false
  pub trans : (a b c : ℕ) → beats a b ≡ true → beats b c ≡ true → beats a c ≡ true
  pub total : (a b : ℕ) → beats a b ≡ false → beats b a ≡ false → a ≡ b

-- ---- the test

-- one past the greatest key, 0 where there is none
abbrev pub top : (ℕ → ℕ) → List ℕ → ℕ
top k [] = 0
top k (x ∷ l) = max (suc (k x)) (top k l)

-- the least key, c where none is less
abbrev pub low : (ℕ → ℕ) → ℕ → List ℕ → ℕ
low k c [] = c
low k c (x ∷ l) = min (k x) (low k c l)

-- every key of l is below every key of m
abbrev pub separated : (ℕ → ℕ) → List ℕ → List ℕ → Bool
separated k l [] = true
separated k l (y ∷ m) = leb (top k l) (low k (k y) m)

-- r beats the first of l, where there is one
abbrev pub heads : (ℕ → ℕ → Bool) → ℕ → List ℕ → Bool
heads beats r [] = true
heads beats r (y ∷ l) = beats r y

module _ (beats : ℕ → ℕ → Bool) (key : Bool → ℕ → ℕ) where
  -- Is l a tree over its own members? The first argument bounds the depth, as in `tree_of`.
  unfoldable pub valid : ℕ → Bool → List ℕ → Bool
  valid zero axis [] = true
  valid zero axis (r ∷ e) = false
  valid (suc f) axis [] = true
  valid (suc f) axis (r ∷ e) =
      (heads beats r (first e) && heads beats r (second e)) && separated (key axis) (first e) (second e)
      && (valid f (not axis) (first e) && valid f (not axis) (second e))

  -- the same with a bound that is enough
  unfoldable pub is_tree : Bool → List ℕ → Bool
  is_tree axis l = valid (length l) axis l

-- what `separated` says: there is a number between the keys of l and those of m
pub record Split (k : ℕ → ℕ) (l m : List ℕ) : Type 0 where
  pub between : ℕ
  pub left : count (non (under k between)) l ≡ 0
  pub right : count (under k between) m ≡ 0
