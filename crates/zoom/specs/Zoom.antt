-- 01, "The view and its map": the zoom. z² is k²/4096 with k = 64z.
use Rattle.std.specs.Prelude.{ℕ, ◌*◌, ◌/◌, ◌%◌, ◌^◌, ◌≤◌, true, false, cond, ◌&&◌, ◌==◌, nat_le, Float, Option, Some, None}
use Rattle.std.specs.Float.{nan, inf, fin}
use Rattle.std.specs.Float.Ieee.{up, down}
use Rattle.std.specs.Float.Ieee.Exact.{HasValue}
use Rattle.zoom.specs.declared.Zoom.{Zoom}
use Rattle.zoom.specs.declared.Zoom.TheVariants.{Stop, Wheel}

-- the largest k that a zoom may have: 64 times 1,024
abbrev pub largest_scale : ℕ
largest_scale = 65536

-- "Stop s, 0 to 16, means 64z = 2 to the power s."
unfoldable pub stop_scale : ℕ → Option ℕ
stop_scale s = cond (nat_le s 16) (Some (2 ^ s)) None

-- "A wheel value is a 32-bit float, taken only if 64 times the wheel value is a whole number from 1 to 65,536, both exact."
-- The float of sign, m and e is m · 2 to the power e, which is m · up e / down e.
unfoldable pub wheel_scale : Float → Option ℕ
wheel_scale nan = None
wheel_scale (inf s) = None
wheel_scale (fin true m e) = None
wheel_scale (fin false m e) =
    let k = m * up e * 64 / down e in
    cond (m * up e * 64 % down e == 0 && nat_le 1 k && nat_le k largest_scale) (Some k) None

-- k, or refusal 12
unfoldable pub scale_of : Zoom → Option ℕ
scale_of (Stop s) = stop_scale s
scale_of (Wheel w) = wheel_scale w

-- The same of a wheel value without computing: w is the real number k / 64, and k is from 1 to the largest. Laws has that they agree.
abbrev pub Is64 : Float → ℕ → Type 0
Is64 w k = (1 ≤ k) × (k ≤ largest_scale) × HasValue w false k 64

-- the k of a zoom, with 0 where it is refused
abbrev pub scale : Option ℕ → ℕ
scale (Some k) = k
scale None = 0
