-- What computing gives for a wheel value is what the real number says; and what the code of a stop computes. Assumes nothing.
use Rattle.std.specs.Prelude.{◌≡◌, ℕ, ◌+◌, ◌*◌, ◌/◌, ◌%◌, ◌^◌, ◌≤◌, Bool, true, false, cond, ◌&&◌, ◌==◌, nat_le, refl, Float, Option, Some, None}
use Rattle.std.proofs.Common.{sym, ap, ◌∙◌, subst, true≢false, mul-div_cancel, div-add-mod', add-zero, one-mul, mod-eq_of_lt, arith, le-leb, leb-true, eqb-true, pow_mono}
use Rattle.std.proofs.Math.Nat.{mul-mod_left}
use Rattle.std.specs.Float.{nan, inf, fin}
use Rattle.std.specs.Float.Ieee.{up, down}
use Rattle.std.specs.Float.Ieee.Fits.{down_pos}
use Rattle.zoom.specs.Zoom.{largest_scale, stop_scale, wheel_scale, Is64}

-- w is k / 64: computing gives k
pub wheel_is : (w : Float) (k : ℕ) → Is64 w k → wheel_scale w ≡ Some k
unfolding wheel_scale
wheel_is nan k i = absurd i.2
wheel_is (inf s) k i = absurd i.2
wheel_is (fin true m e) k i = absurd (true≢false i.2.0)
wheel_is (fin false m e) k i =
    let q : m * up e * 64 / down e ≡ k = ap (λ (x : ℕ). x / down e) i.2.1 ∙ mul-div_cancel k (down_pos e) in
    let r : m * up e * 64 % down e ≡ 0 = ap (λ (x : ℕ). x % down e) i.2.1 ∙ mul-mod_left k (down e) in
    simp (q, r, le-leb 1 k i.0, le-leb k largest_scale i.1)

-- and back: where computing gives k, w is k / 64
pub wheel_from : (w : Float) (k : ℕ) → wheel_scale w ≡ Some k → Is64 w k
unfolding wheel_scale
wheel_from nan k h = absurd cc
wheel_from (inf s) k h = absurd cc
wheel_from (fin true m e) k h = absurd cc
wheel_from (fin false m e) k h = cases (x % down e == 0) (nat_le 1 (x / down e)) (nat_le (x / down e) largest_scale) refl refl refl h
  where
    x : ℕ
    x = m * up e * 64

    cases : (a b c : Bool) → (x % down e == 0) ≡ a → nat_le 1 (x / down e) ≡ b → nat_le (x / down e) largest_scale ≡ c
        → cond (a && b && c) (Some (x / down e)) None ≡ Some k → Is64 (fin false m e) k
    cases true true true p q r g =
        let is : x / down e ≡ k = cc in
        let z : x % down e ≡ 0 = eqb-true (x % down e) 0 p in
        let v : m * up e * 64 ≡ x / down e * down e =
        sym (div-add-mod' x (down e)) ∙ ap (λ (y : ℕ). x / down e * down e + y) z ∙ add-zero (x / down e * down e) in
        subst (Is64 (fin false m e)) is (leb-true 1 (x / down e) q, leb-true (x / down e) largest_scale r, (refl, v))
    cases true true false p q r g = absurd cc
    cases true false c p q r g = absurd cc
    cases false b c p q r g = absurd cc

pub wheel_none : (w : Float) → ((k : ℕ) → Is64 w k → ⊥) → wheel_scale w ≡ None
wheel_none w h = cases (wheel_scale w) refl
  where
    cases : (o : Option ℕ) → wheel_scale w ≡ o → wheel_scale w ≡ None
    cases None e = e
    cases (Some k) e = absurd (h k (wheel_from w k e))

-- what the code of a stop computes
pub stop_shifted : (s : ℕ) → s ≤ 16 → stop_scale s ≡ Some (1 * 2 ^ s % 2 ^ 32)
unfolding stop_scale
stop_shifted s h =
    let p : 2 ^ s ≤ 2 ^ 16 = pow_mono {i = s} {j = 16} h in
    simp (le-leb s 16 h, one-mul, mod-eq_of_lt {n = 2 ^ s} {m = 2 ^ 32} (omega arith))
