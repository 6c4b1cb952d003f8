-- Fractions and removal values, and how they compare.
use Rattle.std.specs.Prelude.{◌*◌, ◌<◌, ◌≤◌, ◌≡◌, Bool, true, false, ltb, eqb}
use Rattle.fractions.specs.declared.Fraction.{Fraction}
use Rattle.fractions.specs.declared.Value.{Value}
use Rattle.fractions.specs.declared.Value.TheVariants.{Never, At}

-- ---- as tests, which compute

-- 01: "Fractions are compared by exact cross products, so 25/1 and 100/4 are equal."
unfoldable pub less : Fraction → Fraction → Bool
less f g = ltb (f.num * g.den) (g.num * f.den)

unfoldable pub same : Fraction → Fraction → Bool
same f g = eqb (f.num * g.den) (g.num * f.den)

-- The first value is removed later than the second: 01 "('never' is later than all)".
unfoldable pub later : Value → Value → Bool
later Never Never = false
later Never (At g) = true
later (At f) Never = false
later (At f) (At g) = less g f

-- 01: "equal means equal by cross products, 'never' only to 'never'".
unfoldable pub level : Value → Value → Bool
level Never Never = true
level Never (At g) = false
level (At f) Never = false
level (At f) (At g) = same f g

-- ---- as statements, which proofs use. The orders are records, so that antt reads `f` and `g` off a proof; `omega` reads the field.

pub record Less (f g : Fraction) : Type 0 where
  pub cross : f.num * g.den < g.num * f.den

pub record AtMost (f g : Fraction) : Type 0 where
  pub cross : f.num * g.den ≤ g.num * f.den

pub record Same (f g : Fraction) : Type 0 where
  pub cross : f.num * g.den ≡ g.num * f.den

-- a mark with this removal value is removed later than `f`
abbrev pub Later : Value → Fraction → Type 0
Later Never f = Unit {0}
Later (At g) f = Less f g

abbrev pub Equal : Value → Value → Type 0
Equal Never Never = Unit {0}
Equal Never (At g) = ⊥
Equal (At f) Never = ⊥
Equal (At f) (At g) = Same f g

-- 01: "'never' or a fraction of any size with a denominator above 0"
abbrev pub Sound : Value → Type 0
Sound Never = Unit {0}
Sound (At f) = 0 < f.den

-- 01: "The largest numerator is 8,589,672,450; the largest denominator 1,073,610,756." Cross products of such fractions fit 64 bits.
pub record Small (f : Fraction) : Type 0 where
  pub num_small : f.num ≤ 8589672450
  pub den_small : f.den ≤ 1073610756
