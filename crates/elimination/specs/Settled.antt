-- The process put in rank order: each mark is what the higher-ranked marks make of it. Scheduling is proved against this.
use Rattle.std.specs.Prelude.{ℕ, ◌<◌, ◌≤◌, ◌≡◌}
use Rattle.fractions.specs.declared.Fraction.{Fraction}
use Rattle.fractions.specs.Order.{AtMost, Same, Later}
use Rattle.elimination.specs.Marks.{Marks}
use Rattle.elimination.specs.Process.{Removal, stays, gone, when, Pair, ◌over◌, worth}

module _ (M : Marks) where
  open M use {count as n, key, value}

  -- `q` does not go before `p` (but for the rank of the lower marks, which no proof needs)
  pub record Ahead (p q : Pair) : Type 0 where
    pub at_most : AtMost (worth M p) (worth M q)
    pub tie : Same (worth M p) (worth M q) → key p.high ≤ key q.high

  -- `h` outranks `m`, and is removed later than their pair's value
  pub record Candidate (s : ℕ → Removal) (m h : ℕ) : Type 0 where
    pub inside : h < n
    pub outranks : key h < key m
    pub later : Later (when (s h)) (value h m)

  -- `h` is the candidate of least value, of equal ones that of the highest rank, and `f` is that value as it stands
  pub record Best (s : ℕ → Removal) (m h : ℕ) (f : Fraction) : Type 0 where
    pub candidate : Candidate s m h
    pub exact : f ≡ value h m
    pub first : (g : ℕ) → Candidate s m g → Ahead (h over m) (g over m)

  -- Mark m is settled in s: it stays where it has no candidate, and else the best one is its eliminator.
  pub record SettledAt (s : ℕ → Removal) (m : ℕ) : Type 0 where
    pub stay : s m ≡ stays → (h : ℕ) → Candidate s m h → ⊥
    pub go : (h : ℕ) (f : Fraction) → s m ≡ gone h f → Best s m h f

  abbrev pub Settled : (ℕ → Removal) → Type 0
  Settled s = (m : ℕ) → m < n → SettledAt s m
