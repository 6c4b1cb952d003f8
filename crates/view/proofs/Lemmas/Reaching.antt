-- Who is shown lies in the bounds: the label of a mark that lives is no wider than what the rectangle is widened by.
use Prim.Native.Nat.{ℕ, zero, suc, ◌+◌, ◌-◌, ◌*◌, ◌/◌, ◌<◌, ◌≤◌}
use Rattle.std.proofs.Common.{arith, mul-le-mul}
use Rattle.std.proofs.Math.Decide.{dec_lt, ℕ_discrete}
use Rattle.std.proofs.Math.Nat.{mul-mul-mul_comm}
use Rattle.std.specs.Prelude.{◌≡◌, Bool, List, leb}
use Rattle.std.proofs.Math.Path.{subst}
use Rattle.std.proofs.Math.Bool.{true, false}
use Rattle.std.proofs.Math.Logic.{dite}
use borrow.Author.Tests.{leb-true, leb-false}
use Rattle.lists.proofs.TestLaws.{by_cases, and_left, and_right}
use Rattle.marks.specs.Marks.{used_at}
use Rattle.marks.proofs.Laws.{distance_x, distance_y}
use Rattle.elimination.specs.Records.{value_at}
use Rattle.zoom.specs.Living.{lives_at}
use Rattle.index.specs.Index.{coordinate}
use Rattle.reaching.specs.declared.Bounds.{Bounds}
use Rattle.reaching.specs.Turning.{gap_here, distance_here, reaches_here, visible_here, shown_here}
use Rattle.counting.specs.Lives.{popped_up}
use Rattle.view.specs.Search.{wider, widest_living, moved, bounds_of, Within}

-- ---- a gap is no wider than a label that reaches over it

root_le : (a b : ℕ) → a * a ≤ b * b → a ≤ b
root_le a b h =
    elim (dec_lt b a) [
      | yes l ↦ absurd (bigger l)
      | no l ↦ omega arith
    ]
  where
    bigger : b < a → ⊥
    bigger l =
        let m : suc b ≤ a = l in
        omega (arith, mul-le-mul m m)

-- d is the squared distance, which no axis's part exceeds
gap_most : (k r most part d : ℕ) → r ≤ most → part * part ≤ d → 4096 * d ≤ k * k * (r * r) → part ≤ k * most / 64
gap_most k r most part d h axis reach =
    let wide : 64 * part * (64 * part) ≤ k * most * (k * most) =
    rw (mul-mul-mul_comm 64 part 64 part, mul-mul-mul_comm k most k most) (omega (arith, widened)) in
    omega (arith, root_le (64 * part) (k * most) wide)
  where
    widened : k * k * (r * r) ≤ k * k * (most * most)
    widened = let same : k * k ≤ k * k = omega arith in mul-le-mul same (mul-le-mul h h)

-- ---- the greatest used radius of the marks that live

module _ (s p : List ℕ) (k : ℕ) where
  wider_keeps : (widest m : ℕ) → widest ≤ wider s p k widest m
  unfolding wider
  wider_keeps widest m =
      by_cases (leb (used_at s m) widest) (λ e. rw e (omega arith))
      (λ e. by_cases (lives_at k (value_at p m)) (λ l. rw (e, l) (omega (arith, leb-false (used_at s m) widest e)))
      (λ l. rw (e, l) (omega arith)))

  wider_has : (widest m : ℕ) → lives_at k (value_at p m) ≡ true → used_at s m ≤ wider s p k widest m
  unfolding wider
  wider_has widest m lives =
      by_cases (leb (used_at s m) widest) (λ e. rw e (leb-true (used_at s m) widest e)) (λ e. rw (e, lives) (omega arith))

  widest_has : (n m : ℕ) → m < n → lives_at k (value_at p m) ≡ true → used_at s m ≤ widest_living s p k n
  unfolding widest_living
  widest_has zero m h lives = absurd (omega arith)
  widest_has (suc n) m h lives =
      let widest = widest_living s p k n in
      dite (ℕ_discrete m n) (λ e. subst (λ (i : ℕ). used_at s m ≤ wider s p k widest i) e (wider_has widest m lives))
      (λ d. omega (arith, widest_has n m (omega arith) lives, wider_keeps widest n))

-- ---- who is shown lives, and lies in the bounds

module _ (shape : ℕ) (s p q : List ℕ) (k : ℕ) (e : Bounds) (m : ℕ) where
  pub shown_lives : shown_here shape s p q k e m ≡ true → lives_at k (value_at p m) ≡ true
  unfolding shown_here
  shown_lives h = and_left (lives_at k (value_at p m)) (visible_here shape s q k e m) h

  shown_reaches : shown_here shape s p q k e m ≡ true → 4096 * distance_here shape s e m ≤ k * k * (used_at s m * used_at s m)
  unfolding shown_here visible_here reaches_here
  shown_reaches h =
      leb-true (4096 * distance_here shape s e m) (k * k * (used_at s m * used_at s m))
      (and_right (popped_up q k m) (reaches_here shape s k e m) (and_right (lives_at k (value_at p m)) (visible_here shape s q k e m) h))

  pub living_shown : lives_at k (value_at p m) ≡ true → visible_here shape s q k e m ≡ shown_here shape s p q k e m
  unfolding shown_here
  living_shown h = rw h

  -- on an axis with the edges `low` and `high`
  within_edges : (n : ℕ) → m < n → shown_here shape s p q k e m ≡ true
      → (low high c : ℕ) → gap_here low high c * gap_here low high c ≤ distance_here shape s e m
      → (low - k * widest_living s p k n / 64 ≤ c) × (c ≤ high + k * widest_living s p k n / 64)
  within_edges n l h low high c axis =
      let wide = widest_has s p k n m l (shown_lives h) in
      let most = gap_most k (used_at s m) (widest_living s p k n) (gap_here low high c) (distance_here shape s e m) wide axis (shown_reaches h) in
      (omega (arith, most), omega (arith, most))

  pub shown_within : (n : ℕ) → m < n → shown_here shape s p q k e m ≡ true
      → (axis : Bool) → Within s (bounds_of e k (widest_living s p k n)) m axis
  unfolding distance_here bounds_of moved
  shown_within n l h true =
      let w = within_edges n l h e.x0 e.x1 (coordinate s true m) (distance_x shape _ _) in
      record { low = w.0; high = w.1 }
  shown_within n l h false =
      let w = within_edges n l h e.y0 e.y1 (coordinate s false m) (distance_y shape _ _) in
      record { low = w.0; high = w.1 }
