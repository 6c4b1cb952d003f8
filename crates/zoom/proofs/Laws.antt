-- Laws of zooms, which the other crates cite. Assumes nothing.
use Rattle.std.specs.Prelude.{◌≡◌, ℕ, ◌+◌, ◌*◌, ◌^◌, ◌<◌, ◌≤◌, Bool, true, false, cond, ◌↔◌, ◌==◌, nat_le, refl, Float, Option, Some, None}
use Rattle.std.proofs.Common.{sym, ap, subst, true≢false, arith, le-leb, leb-true, eqb-true, pow_mono, pow_pos}
use Rattle.std.proofs.lemmas.Bool.{lt-leb}
use Rattle.std.specs.Float.{binary32}
use Rattle.std.specs.Float.Ieee.{of_bits}
use Rattle.std.specs.Float.Ieee.Exact.{HasValue}
use Rattle.lists.specs.Tests.{every}
use Rattle.lists.proofs.TestLaws.{every_at}
use Rattle.zoom.specs.Zoom.{largest_scale, stop_scale, wheel_scale, scale_of, Is64}
use Rattle.zoom.specs.declared.Zoom.{Zoom}
use Rattle.zoom.specs.declared.Zoom.TheVariants.{Stop, Wheel}
use Rattle.zoom.proofs.Lemmas.Wheels.{wheel_is, wheel_from}
-- The printed zoom: `Nearest` has exactly one solution, and `nearest` computes it; it is within a half, and no other number is nearer.
pub use Rattle.zoom.proofs.Lemmas.Rounding.{nearest_unique, nearest_one, nearest_is, nearest_fits, within_half, none_nearer}

-- ---- which zooms are taken

-- 01: "taken only if 64 times the wheel value is a whole number from 1 to 65,536, both exact"
pub wheel_iff : (w : Float) (k : ℕ) → (wheel_scale w ≡ Some k) ↔ Is64 w k
wheel_iff w k = (wheel_from w k, wheel_is w k)

-- a stop and the wheel value of the same zoom give the same k
pub stop_wheel : (s : ℕ) (w : Float) → s ≤ 16 → HasValue w false (2 ^ s) 64 → scale_of (Stop s) ≡ scale_of (Wheel w)
unfolding scale_of stop_scale
stop_wheel s w h v = simp (le-leb s 16 h) (sym (wheel_is w (2 ^ s) (pow_pos s, pow_mono {i = s} {j = 16} h, v)))

-- and there is one for each stop: the float whose exponent's field is 121 + s and whose digits are 0
abbrev pub wheel_of : ℕ → Float
wheel_of s = of_bits binary32 ((121 + s) * 2 ^ 23)

abbrev is : ℕ → Option ℕ → Bool
is k None = false
is k (Some j) = j == k

is_taken_lem : (k : ℕ) (r : Option ℕ) → is k r ≡ true → r ≡ Some k
is_taken_lem k None h = absurd (true≢false (sym h))
is_taken_lem k (Some j) h = ap Some (eqb-true j k h)

all_stops : every (λ s. is (2 ^ s) (wheel_scale (wheel_of s))) 17 ≡ true
unfolding every wheel_scale of_bits
all_stops = refl

pub stop_has_wheel : (s : ℕ) → s ≤ 16 → HasValue (wheel_of s) false (2 ^ s) 64
stop_has_wheel s h =
    (wheel_from (wheel_of s) (2 ^ s)
    (is_taken_lem (2 ^ s) (wheel_scale (wheel_of s)) (every_at (λ (i : ℕ). is (2 ^ i) (wheel_scale (wheel_of i))) 17 all_stops s (omega arith)))).2

pub stop_refused : (s : ℕ) → 16 < s → stop_scale s ≡ None
unfolding stop_scale
stop_refused s h = simp (lt-leb s 16 h)

-- k of a zoom that is taken
pub scale_most : (zoom : Zoom) (k : ℕ) → scale_of zoom ≡ Some k → k ≤ largest_scale
unfolding scale_of stop_scale
scale_most (Wheel w) k h = (wheel_from w k h).1
scale_most (Stop s) k h = cases (nat_le s 16) refl h
  where
    cases : (t : Bool) → nat_le s 16 ≡ t → cond t (Some (2 ^ s)) None ≡ Some k → k ≤ largest_scale
    cases true e g =
        let is : 2 ^ s ≡ k = cc in
        subst (λ (i : ℕ). i ≤ largest_scale) is (pow_mono {i = s} {j = 16} (leb-true s 16 e))
    cases false e g = absurd cc
