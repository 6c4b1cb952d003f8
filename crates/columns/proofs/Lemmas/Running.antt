-- Differences and sums undo each other on numbers below 65,536.
use Prim.Native.Nat.{ℕ, zero, suc, ◌≤◌, ◌<◌}
use Rattle.std.specs.Prelude.{◌≡◌}
use Rattle.std.proofs.Math.Path.{refl}
use native.Mathlib.Omega.{arith}
use Rattle.columns.specs.Columns.{differences, sums}

module _ (v w : ℕ → ℕ) where
  -- each depends on the values up to its own alone
  pub sums_same : (m : ℕ) → ((k : ℕ) → k ≤ m → v k ≡ w k) → sums v m ≡ sums w m
  unfolding sums
  sums_same zero h = h 0 (omega arith)
  sums_same (suc m) h = rw (sums_same m (λ k l. h k (omega arith)), h (suc m) (omega arith))

  pub differences_same : (m : ℕ) → ((k : ℕ) → k ≤ m → v k ≡ w k) → differences v m ≡ differences w m
  unfolding differences
  differences_same zero h = h 0 (omega arith)
  differences_same (suc m) h = rw (h m (omega arith), h (suc m) (omega arith))

module _ (v : ℕ → ℕ) (small : (m : ℕ) → v m < 65536) where
  pub sums_small : (m : ℕ) → sums v m < 65536
  unfolding sums
  sums_small zero = small 0
  sums_small (suc m) = omega arith

  pub differences_small : (m : ℕ) → differences v m < 65536
  unfolding differences
  differences_small zero = small 0
  differences_small (suc m) = omega arith

  pub sums_differences : (m : ℕ) → sums (differences v) m ≡ v m
  unfolding sums differences
  sums_differences zero = refl
  sums_differences (suc m) = rw (sums_differences m) (omega (arith, small m, small (suc m)))

  pub differences_sums : (m : ℕ) → differences (sums v) m ≡ v m
  unfolding sums differences
  differences_sums zero = refl
  differences_sums (suc m) = omega (arith, sums_small m, small (suc m))
