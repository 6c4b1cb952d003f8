-- How long a map is. Assumes nothing.
use Prim.Native.Nat.{ℕ}
use mathlib.Core.Path.{◌≡◌}
use native.Mathlib.Omega.{arith}
use Rattle.std.specs.Int.{div_ceil}
use Rattle.bitmap.specs.Map.{map_size}

-- an eighth of the marks, rounded up
pub rounded_up : (n : ℕ) → div_ceil n 8 ≡ map_size n
rounded_up n = omega arith
