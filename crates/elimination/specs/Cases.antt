-- 02, request 13: "Uniqueness is shown for any symmetric pair value, and disks, popups and squares are cases of it." What a pair value is, the
-- cases by name, and the theorem, which none of them proves again.
use Rattle.std.specs.Prelude.{ℕ, ◌<◌, ◌≡◌, List}
use Rattle.fractions.specs.declared.Fraction.{Fraction}
use Rattle.marks.specs.Marks.{larger, touching}
use Rattle.marks.specs.Pairs.{popup_at, pair_of}

-- ---- what is asked of a pair value

pub record PairValue (value : ℕ → ℕ → Fraction) : Type 0 where
  pub symmetric : (a b : ℕ) → value a b ≡ value b a
  pub positive : (a b : ℕ) → 0 < (value a b).den

-- ---- the cases; `s` is part 1 of a sheet and `q` part 5

-- the touching values of disks, and of squares
abbrev pub disks : List ℕ → ℕ → ℕ → Fraction
disks s = touching 1 s

abbrev pub squares : List ℕ → ℕ → ℕ → Fraction
squares s = touching 2 s

-- any values with popups: "the larger of the touching value and both k²/4096"
abbrev pub with_popups : List ℕ → (ℕ → ℕ → Fraction) → ℕ → ℕ → Fraction
with_popups q value a b = pair_of (value a b) (larger (popup_at q a) (popup_at q b))
