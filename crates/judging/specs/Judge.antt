-- 02, request 10: the judge. It "accepts exactly when both rules over the pair values hold and each removed mark names, of the
-- higher-ranked marks that have that pair value with it and are removed later, the highest-ranked".
use Rattle.std.specs.Prelude.{ℕ, Bool, true, not, ◌&&◌, ◌||◌, List, ltb, eqb}
use Rattle.lists.specs.Tests.{every}
use Rattle.fractions.specs.declared.Fraction.{Fraction}
use Rattle.fractions.specs.declared.Value.{Value}
use Rattle.fractions.specs.declared.Value.TheVariants.{Never, At}
use Rattle.fractions.specs.Order.{same, later}
use Rattle.elimination.specs.Marks.{Marks}
use Rattle.elimination.specs.Records.{value_at, eliminator_at}
use Rattle.elimination.specs.Reel.{Reel, marks_of}

-- `test` holds of some number below n
unfoldable pub some : (ℕ → Bool) → ℕ → Bool
some test n = not (every (λ i. not (test i)) n)

-- what is asked of a removed mark alone
abbrev pub if_removed : Value → (Fraction → Bool) → Bool
if_removed Never test = true
if_removed (At f) test = test f

-- Of marks of any rank and any pair value: `r m` is the removal value proposed for mark m.
module _ (M : Marks) (r : ℕ → Value) where
  open M use {count as n, key, value}

  -- "no pair has both marks removed later than the pair's touching value", or now its pair value: of one pair
  unfoldable pub both_later : ℕ → ℕ → Bool
  both_later i j = later (r i) (At (value i j)) && later (r j) (At (value i j))

  unfoldable pub first_rule : Bool
  first_rule = every (λ i. every (λ j. eqb i j || not (both_later i j)) n) n

  -- g is a "higher-ranked mark removed later than that value", f, and f is its pair value with m
  unfoldable pub causes : ℕ → Fraction → ℕ → Bool
  causes m f g = ltb (key g) (key m) && (same f (value g m) && later (r g) (At (value g m)))

  -- "each removal value equals the touching value with some higher-ranked mark removed later than that value"
  unfoldable pub second_rule : Bool
  second_rule = every (λ m. if_removed (r m) (λ f. some (causes m f) n)) n

  -- `by m` is the mark that m names.
  module _ (by : ℕ → ℕ) where
    -- it is one of those, and none of them ranks higher
    unfoldable pub names_highest : ℕ → Fraction → Bool
    names_highest m f =
        (ltb (by m) n && causes m f (by m)) && every (λ g. not (causes m f g && ltb (key g) (key (by m)))) n

    unfoldable pub judge : Bool
    judge = first_rule && (second_rule && every (λ m. if_removed (r m) (names_highest m)) n)

-- Of a reel and the schedule that part 2, `p`, proposes.
unfoldable pub judge_schedule : Reel → List ℕ → Bool
judge_schedule r p = judge (marks_of r) (value_at p) (eliminator_at p)
