-- The test as the code makes it.
use Rattle.std.specs.Prelude.{ℕ, ◌*◌, ◌≡◌, true, List, leb}
use Rattle.std.proofs.Common.{arith, le-leb}
use Rattle.std.proofs.Math.Path.{sym}
use Rattle.marks.specs.Marks.{used_at}
use Rattle.reaching.specs.declared.Bounds.{Bounds}
use Rattle.reaching.specs.Turning.{distance_here, reaches_here}

module _ (shape : ℕ) (s : List ℕ) (k : ℕ) (e : Bounds) (m : ℕ) {d : ℕ} (d-is : d ≡ distance_here shape s e m) where
  pub reached : {r : ℕ} → r ≡ used_at s m → leb (4096 * d) (k * k * (r * r)) ≡ reaches_here shape s k e m
  unfolding reaches_here
  reached is = rw (d-is, is)

  -- a point inside
  pub reached_inside : d ≡ 0 → true ≡ reaches_here shape s k e m
  unfolding reaches_here
  reached_inside none =
      sym (le-leb (4096 * distance_here shape s e m) (k * k * (used_at s m * used_at s m)) (omega (arith, d-is, none)))
