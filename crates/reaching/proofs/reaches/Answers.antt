-- `reaching::reaches` meets its contract: k² times the squared radius fits 64 bits, whatever the radius. Assumes nothing.
use Prim.Native.Nat.{ℕ, ◌≤◌}
use mathlib.Core.Path.{◌≡◌, ◌∙◌, subst}
use mathlib.Core.Bool.{true, false}
use mathlib.Core.List.{List}
use native.Mathlib.Omega.{arith}
use native.Mathlib.Nat.{mul-le-mul}
use borrow.Author.Rules.{sfits_of}
use mir.Facts.{to_z-of_z}
use mir.Syntax.{w32}
use mir.Val.{SFits, to_z, of_z}
use lib.IntN.{ℤ, pos, nat_abs}
use Rattle.marks.specs.Marks.{distance}
use Rattle.marks.proofs.Laws.{distance_most}
use Rattle.index.specs.Index.{coordinate}
use Rattle.reaching.specs.declared.Bounds.{Bounds}
use Rattle.reaching.specs.Turning.{gap_here, distance_here}
use Rattle.reaching.proofs.Lemmas.Reached.{reached, reached_inside}
use Rattle.reaching.proofs.reaches.Goals as goal

-- what `gap` said of a coordinate that is read
gap_is : (low high : ℕ) {c z : ℕ} {g : ℤ} → c ≡ z → (g ≡ pos (gap_here low high c)) × (gap_here low high c ≤ 131072)
    → (g ≡ pos (gap_here low high z)) × (gap_here low high z ≤ 131072)
gap_is low high {g = g} e h = subst (λ (z : ℕ). (g ≡ pos (gap_here low high z)) × (gap_here low high z ≤ 131072)) e h

-- the distance of two gaps
measured : (shape : ℕ) {d x y : ℕ} {g h : ℤ} → SFits w32 g → g ≡ pos x → SFits w32 h → h ≡ pos y
    → d ≡ distance shape (nat_abs (to_z w32 (of_z w32 g))) (nat_abs (to_z w32 (of_z w32 h))) → d ≡ distance shape x y
measured shape {g = g} {h = h} f p k q e = rw (to_z-of_z {w = w32} {z = g} f ∙ p, to_z-of_z {w = w32} {z = h} k ∙ q) at e

here : (shape : ℕ) (s : List ℕ) (b : Bounds) (m : ℕ) {d : ℕ}
    → d ≡ distance shape (gap_here b.x0 b.x1 (coordinate s true m)) (gap_here b.y0 b.y1 (coordinate s false m)) → d ≡ distance_here shape s b m
unfolding distance_here
here shape s b m e = e

pub returns-then-squared-eq0 : goal.returns-then-squared-eq0
returns-then-squared-eq0 c =
    let a = c.args in
    let b = a.edges in
    let x = gap_is b.x0 b.x1 c.coordinate.ensures.0 c.gap-x.ensures in
    let y = gap_is b.y0 b.y1 c.coordinate-2.ensures.0 c.gap-y.ensures in
    let d = measured a.shape (sfits_of c.gap-x.type_inv) x.0 (sfits_of c.gap-y.type_inv) y.0 c.distance-squared.ensures in
    reached_inside a.shape a.marks.now a.k b a.m (here a.shape a.marks.now b a.m d) c.if-squared-eq0.true

pub overflow_mul-result : goal.overflow_mul-result
overflow_mul-result c =
    let a = c.args in
    let b = a.edges in
    let x = gap_is b.x0 b.x1 c.coordinate.ensures.0 c.gap-x.ensures in
    let y = gap_is b.y0 b.y1 c.coordinate-2.ensures.0 c.gap-y.ensures in
    let d = measured a.shape (sfits_of c.gap-x.type_inv) x.0 (sfits_of c.gap-y.type_inv) y.0 c.distance-squared.ensures in
    record { fits = omega (arith, distance_most a.shape (gap_here b.x0 b.x1 (coordinate a.marks.now true a.m)) (gap_here b.y0 b.y1 (coordinate a.marks.now false a.m)), mul-le-mul x.1 x.1, mul-le-mul y.1 y.1) }

pub returns : goal.returns
returns c =
    let a = c.args in
    let b = a.edges in
    let x = gap_is b.x0 b.x1 c.coordinate.ensures.0 c.gap-x.ensures in
    let y = gap_is b.y0 b.y1 c.coordinate-2.ensures.0 c.gap-y.ensures in
    let d = measured a.shape (sfits_of c.gap-x.type_inv) x.0 (sfits_of c.gap-y.type_inv) y.0 c.distance-squared.ensures in
    reached a.shape a.marks.now a.k b a.m (here a.shape a.marks.now b a.m d) c.radius_at-radius.ensures
