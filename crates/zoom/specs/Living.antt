-- 01, "The view and its map": who lives at a zoom.
use Rattle.std.specs.Prelude.{ℕ, ◌*◌, Bool}
use Rattle.fractions.specs.declared.Fraction.{Fraction}
use Rattle.fractions.specs.declared.Value.{Value}
use Rattle.fractions.specs.declared.Value.TheVariants.{At}
use Rattle.fractions.specs.Order.{later}

-- "z² is k²/4096 with k = 64z"
abbrev pub zoom_squared : ℕ → Fraction
zoom_squared k = record { num = k * k; den = 4096 }

-- "A mark lives at z exactly when z² is below its removal value, or it has none."
unfoldable pub lives_at : ℕ → Value → Bool
lives_at k v = later v (At (zoom_squared k))
