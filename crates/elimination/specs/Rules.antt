-- Demand 3's two rules, over any list of removal values: `r i` is what the list names for mark i.
use Rattle.std.specs.Prelude.{ℕ, ◌<◌, ◌≡◌, ◌≢◌}
use Rattle.fractions.specs.declared.Fraction.{Fraction}
use Rattle.fractions.specs.declared.Value.{Value}
use Rattle.fractions.specs.declared.Value.TheVariants.{At}
use Rattle.fractions.specs.Order.{Same, Later, Sound}
use Rattle.elimination.specs.Marks.{Marks}

module _ (M : Marks) where
  open M use {count as n, key, value}

  -- 01: "no pair has both marks removed later than the pair's touching value ('never' is later than all)".
  abbrev pub FirstRule : (ℕ → Value) → Type 0
  FirstRule r = (i j : ℕ) → i < n → j < n → i ≢ j → Later (r i) (value i j) → Later (r j) (value i j) → ⊥

  -- A mark `high` that justifies the removal of mark i at f.
  pub record Cause (r : ℕ → Value) (i : ℕ) (f : Fraction) : Type 0 where
    pub high : ℕ
    pub inside : high < n
    pub outranks : key high < key i
    pub equal : Same f (value high i)
    pub later : Later (r high) (value high i)

  -- 01: "each removal value equals the touching value with some higher-ranked mark removed later than that value".
  abbrev pub SecondRule : (ℕ → Value) → Type 0
  SecondRule r = (i : ℕ) → i < n → (f : Fraction) → r i ≡ At f → Cause r i f

  -- 01: "Each that a list names is 'never' or a fraction of any size with a denominator above 0".
  abbrev pub AllSound : (ℕ → Value) → Type 0
  AllSound r = (i : ℕ) → i < n → Sound (r i)

  -- A list that keeps both rules.
  pub record Keeps (r : ℕ → Value) : Type 0 where
    pub sound : AllSound r
    pub first_rule : FirstRule r
    pub second_rule : SecondRule r
