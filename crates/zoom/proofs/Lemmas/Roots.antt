-- The integer root: that it is one, and that there is only one. Assumes nothing.
use Rattle.std.specs.Prelude.{◌≡◌, ℕ, zero, suc, ◌+◌, ◌*◌, ◌/◌, ◌^◌, ◌<◌, ◌≤◌, Bool, true, false, cond, nat_le, refl}
use Rattle.std.proofs.Common.{pow-suc, mul-le-mul, arith, leb-true, leb-false}
use Rattle.std.proofs.Math.Decide.{dec_lt}
use Rattle.std.proofs.Math.Nat.{mul-mul-mul_comm}
use Rattle.zoom.specs.Printed.{root_step, root}

root_step_small : (r v width : ℕ) → r < 2 ^ width → root_step r v < 2 ^ suc width
unfolding root_step
root_step_small r v width h = cases (nat_le ((2 * r + 1) * (2 * r + 1)) v) (pow-suc 2 width)
  where
    cases : (b : Bool) → 2 ^ suc width ≡ 2 ^ width * 2 → cond b (2 * r + 1) (2 * r) < 2 ^ suc width
    cases true p = omega arith
    cases false p = omega arith

pub root_small : (width v : ℕ) → root width v < 2 ^ width
unfolding root
root_small zero v = omega arith
root_small (suc width) v = root_step_small (root width (v / 4)) v width (root_small width (v / 4))

-- a root of 64 bits has 32
pub root_narrow : (v : ℕ) {r : ℕ} → r ≡ root 32 v → r ≤ 4294967295
root_narrow v e = omega (arith, root_small 32 v)

-- r² ≤ v < (r + 1)²
pub record IsRoot (r v : ℕ) : Type 0 where
  pub low : r * r ≤ v
  pub high : v < suc r * suc r

not_smaller : (v a b : ℕ) → IsRoot a v → IsRoot b v → a < b → ⊥
not_smaller v a b x y l = let m = mul-le-mul {n₁ = suc a} {m₁ = suc a} {n₂ = b} {m₂ = b} l l in omega (arith, x.high, y.low)

-- only one number is the root
pub root_unique : (v a b : ℕ) → IsRoot a v → IsRoot b v → a ≡ b
root_unique v a b x y =
    elim (dec_lt a b) [
      | yes l ↦ absurd (not_smaller v a b x y l)
      | no l ↦ elim (dec_lt b a) [ yes m ↦ absurd (not_smaller v b a y x m) | no m ↦ omega arith ]
    ]

double_square : (q : ℕ) → 2 * q * (2 * q) ≡ 4 * (q * q)
double_square q = mul-mul-mul_comm 2 q 2 q

-- the root of a fourth, doubled: either that or one more is the root
root_step_lem : (q v : ℕ) → IsRoot q (v / 4) → IsRoot (root_step q v) v
unfolding root_step
root_step_lem q v r = cases (nat_le ((2 * q + 1) * (2 * q + 1)) v) refl
  where
    cases : (b : Bool) → nat_le ((2 * q + 1) * (2 * q + 1)) v ≡ b → IsRoot (cond b (2 * q + 1) (2 * q)) v
    cases true e =
        let t : suc (2 * q + 1) ≡ 2 * suc q = omega arith in
        let d : suc (2 * q + 1) * suc (2 * q + 1) ≡ 4 * (suc q * suc q) = rw t (double_square (suc q)) in
        record { low = leb-true _ _ e; high = omega (arith, d, r.high) }
    cases false e =
        let t : 2 * q + 1 ≡ suc (2 * q) = omega arith in
        let h : v < suc (2 * q) * suc (2 * q) = rw t at (leb-false ((2 * q + 1) * (2 * q + 1)) v e) in
        record { low = omega (arith, double_square q, r.low); high = h }

pub root_is : (width v : ℕ) → v < 4 ^ width → IsRoot (root width v) v
unfolding root
root_is zero v h = omega arith
root_is (suc width) v h = let p = pow-suc 4 width in root_step_lem (root width (v / 4)) v (root_is width (v / 4) (omega arith))
