-- What `least` finds: one of the offers, and none is less.
use Prim.Native.Nat.{ℕ, zero, suc, ◌<◌}
use Rattle.std.proofs.Math.Path.{◌≡◌}
use Rattle.std.specs.Prelude.{refl, Bool, true, false, cond, ◌⊎◌}
use Rattle.std.proofs.Math.Option.{Option, none, some}
use Rattle.std.proofs.Math.Logic.{inl, inr}
use native.Mathlib.Omega.{arith}
use Rattle.std.proofs.Math.Decide.{ℕ_discrete}
use Rattle.elimination.specs.Process.{better, least}

module _ {A : Type 0} (before : A → A → Bool) where
  better_from : (x y : Option A) (a : A) → better before x y ≡ some a → (x ≡ some a) ⊎ (y ≡ some a)
  better_from none y a e = inr e
  better_from (some x) none a e = inl e
  better_from (some x) (some y) a e = go (before y x) e
    where
      go : (b : Bool) → some (cond b y x) ≡ some a → (some x ≡ some a) ⊎ (some y ≡ some a)
      go true q = inr q
      go false q = inl q

  pub least_from : (f : ℕ → Option A) (k : ℕ) (a : A) → least before f k ≡ some a → (i : ℕ) × (i < k) × (f i ≡ some a)
  unfolding least
  least_from f zero a e = absurd (let z : ◌≡◌ {A = ℕ} 0 1 = cc in omega arith)
  least_from f (suc k) a e =
      elim (better_from (least before f k) (f k) a e)
      [ inl q ↦ (let (i, h, g) = least_from f k a q in (i, omega arith, g)) | inr q ↦ (k, omega arith, q) ]

  -- for any order `le` that the test decides
  module _
      (le : A → A → Type 0)
      (le_refl : (x : A) → le x x)
      (le_trans : (x y z : A) → le x y → le y z → le x z)
      (passed : (x y : A) → before x y ≡ true → le x y)
      (failed : (x y : A) → before x y ≡ false → le y x)
    where
      better_left : (x : A) (y : Option A) → (a : A) × (better before (some x) y ≡ some a) × le a x
      better_left x none = (x, refl, le_refl x)
      better_left x (some y) = go (before y x) refl
        where
          go : (b : Bool) → before y x ≡ b → (a : A) × (some (cond (before y x) y x) ≡ some a) × le a x
          go true e = (y, rw e, passed y x e)
          go false e = (x, rw e, le_refl x)

      better_right : (x : Option A) (y : A) → (a : A) × (better before x (some y) ≡ some a) × le a y
      better_right none y = (y, refl, le_refl y)
      better_right (some x) y = go (before y x) refl
        where
          go : (b : Bool) → before y x ≡ b → (a : A) × (some (cond (before y x) y x) ≡ some a) × le a y
          go true e = (y, rw e, le_refl y)
          go false e = (x, rw e, failed y x e)

      pub least_below : (f : ℕ → Option A) (k i : ℕ) (b : A) → i < k → f i ≡ some b → (a : A) × (least before f k ≡ some a) × le a b
      unfolding least
      least_below f zero i b h e = absurd (omega arith)
      least_below f (suc k) i b h e =
          elim (ℕ_discrete i k) [
            | yes q ↦ (let p : f k ≡ some b = cc in rw p (better_right (least before f k) b))
            | no q ↦
                (let (x, ex, lx) = least_below f k i b (omega arith) e in
                let (a, ea, la) = better_left x (f k) in
                (a, rw ex ea, le_trans a x b la lx))
          ]
