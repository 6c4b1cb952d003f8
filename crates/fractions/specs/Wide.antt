-- A number of up to 96 bits in two parts, and that such numbers compare part by part. Assumes nothing.
use Rattle.std.specs.Prelude.{ℕ, ◌+◌, ◌*◌, ◌<◌, ◌≡◌}
use Rattle.fractions.specs.declared.Wide.{Wide}

-- 2³²
abbrev pub base : ℕ
base = 4294967296

-- `w` is the number `n`
pub record TwoDigits (n : ℕ) (w : Wide) : Type 0 where
  pub digits : w.high * base + w.low ≡ n
  pub low_digit : w.low < base
