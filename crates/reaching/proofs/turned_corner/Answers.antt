-- `reaching::turned_corner` meets its contract: the grid is that of a turn, and the turned corner has edges. Assumes nothing.
use Prim.Native.Nat.{ℕ}
use native.Mathlib.Omega.{arith}
use mathlib.Core.Path.{◌≡◌, ap, ap₂, ◌∙◌, subst⁻¹}
use mathlib.Core.List.{List}
use lib.IntN.{ℤ}
use borrow.Author.Rules.{sfits_of}
use mir.Syntax.{w32}
use mir.Val.{SFits, to_z, of_z}
use mir.Facts.{to_z-of_z}
use Rattle.marks.specs.Marks.{shifted}
use Rattle.turns.specs.declared.Place.{Place}
use Rattle.turns.specs.Turns.{turn, applied, turned_place}
use Rattle.turns.specs.Small.{Small, Within}
use Rattle.turns.proofs.Laws.{turn_small, within_grows}
use Rattle.reaching.specs.declared.Corner.{Corner}
use Rattle.reaching.specs.Questions.{IsEdge}
use Rattle.reaching.specs.Turning.{corner_of}
use Rattle.reaching.proofs.Lemmas.Edges.{edge_abs, abs_edge}
use Rattle.reaching.proofs.Lemmas.Turned.{corner_within}
use Rattle.reaching.proofs.turned_corner.Goals as goal

abbrev placed : ℤ → ℤ → Place
placed x y = record { x = x; y = y }

abbrev corner : ℕ → ℕ → Corner
corner x y = record { x = x; y = y }

given_within : (x y : ℤ) → IsEdge x → IsEdge y → Within 32768 (placed x y)
given_within x y p q = record { x_within = record { most = edge_abs x p }; y_within = record { most = edge_abs y q } }

pub applied-place-requires : goal.applied-place-requires
applied-place-requires c = (
  subst⁻¹ Small c.turn.ensures (turn_small _),
  subst⁻¹ (Within 65536) (ap₂ placed (to_z-of_z c.ranges.x) (to_z-of_z c.ranges.y)) (within_grows (omega arith) (given_within _ _ c.requires.1 c.requires.2)),
)

-- the place that `applied` gives
turned : (q : ℕ) {x y : ℤ} {grid : List (List ℤ)} {p : Place} → SFits w32 x → SFits w32 y → grid ≡ turn q
    → p ≡ applied grid (placed (to_z w32 (of_z w32 x)) (to_z w32 (of_z w32 y))) → p ≡ turned_place q (placed x y)
unfolding turned_place
turned q f g e h = h ∙ ap₂ applied e (ap₂ placed (to_z-of_z f) (to_z-of_z g))

x_edge : (q : ℕ) {x y : ℤ} {p : Place} → IsEdge x → IsEdge y → p ≡ turned_place q (placed x y) → IsEdge p.x
x_edge q f g e = subst⁻¹ (λ (p : Place). IsEdge p.x) e (abs_edge _ (corner_within q f g).x_within.most)

y_edge : (q : ℕ) {x y : ℤ} {p : Place} → IsEdge x → IsEdge y → p ≡ turned_place q (placed x y) → IsEdge p.y
y_edge q f g e = subst⁻¹ (λ (p : Place). IsEdge p.y) e (abs_edge _ (corner_within q f g).y_within.most)

pub shifted-requires : goal.shifted-requires
shifted-requires c =
    let e = turned c.args.quarters c.ranges.x c.ranges.y c.turn.ensures c.applied-place.ensures in
    rw (to_z-of_z (sfits_of c.struct_told-1.given.0.1)) (x_edge c.args.quarters c.requires.1 c.requires.2 e)

pub shifted-requires-2 : goal.shifted-requires-2
shifted-requires-2 c =
    let e = turned c.args.quarters c.ranges.x c.ranges.y c.turn.ensures c.applied-place.ensures in
    rw (to_z-of_z (sfits_of c.struct_told-2-1.given.1.0.1)) (y_edge c.args.quarters c.requires.1 c.requires.2 e)

pub returns : goal.returns
unfolding corner_of
returns c =
    let p = c.applied-place.result in
    let e = turned c.args.quarters c.ranges.x c.ranges.y c.turn.ensures c.applied-place.ensures in
    ap₂ corner
    (c.shifted.ensures ∙ ap shifted (to_z-of_z {w = w32} {z = p.x} (sfits_of c.struct_told-1.given.0.1)) ∙ ap (λ (p : Place). shifted p.x) e)
    (c.shifted-2.ensures ∙ ap shifted (to_z-of_z {w = w32} {z = p.y} (sfits_of c.struct_told-2-1.given.1.0.1)) ∙ ap (λ (p : Place). shifted p.y) e)
