-- Visiting the marks in rank order: what a scan of the marks visited so far has found for the next one. The vocabulary of scheduling's loops.
use Rattle.std.specs.Prelude.{ℕ, ◌<◌, ◌≡◌}
use Rattle.lists.specs.Sorting.{Ranks}
use Rattle.fractions.specs.declared.Fraction.{Fraction}
use Rattle.fractions.specs.Order.{Less, AtMost, Later}
use Rattle.elimination.specs.Marks.{Marks}
use Rattle.elimination.specs.Process.{Removal, stays, gone, when}

module _ (M : Marks) where
  open M use {count as n, key, value}

  -- `order` has the marks by rank
  abbrev pub Ranking : (ℕ → ℕ) → Type 0
  Ranking order = Ranks n key order

  module _ (order : ℕ → ℕ) (s : ℕ → Removal) (m : ℕ) where
    -- the mark visited at `q` is removed later than its value with `m`
    abbrev pub Stands : ℕ → Type 0
    Stands q = Later (when (s (order q))) (value (order q) m)

    -- of those visited before `k` that stand, `order a` is the first of the least
    pub record First (k a : ℕ) (f : Fraction) : Type 0 where
      pub below : a < k
      pub exact : f ≡ value (order a) m
      pub stands : Stands a
      pub less : (q : ℕ) → q < a → Stands q → Less f (value (order q) m)
      pub at_most : (q : ℕ) → q < k → Stands q → AtMost f (value (order q) m)

    abbrev pub Found : ℕ → Removal → Type 0
    Found k stays = (q : ℕ) → q < k → Stands q → ⊥
    Found k (gone h f) = (a : ℕ) × (order a ≡ h) × First k a f
