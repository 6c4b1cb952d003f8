-- `reaching::turned_back` meets its contract: question 20 says that the turn is at most 3 and the corners are edges. Assumes nothing.
use Prim.Native.Nat.{ℕ, ◌-◌, min, max}
use mathlib.Core.Path.{◌≡◌, ap₂, ◌∙◌}
use Rattle.std.proofs.lemmas.Bool.Decides.{nat_tests}
use native.Mathlib.Omega.{arith}
use borrow.Author.Rules.{sfits_of}
use mir.Syntax.{w32}
use mir.Facts.{to_z-of_z}
use Rattle.reaching.specs.declared.Bounds.{Bounds}
use Rattle.reaching.specs.declared.Corner.{Corner}
use Rattle.reaching.specs.Turning.{corner_of, lower, higher, turned_back}
use Rattle.reaching.proofs.Lemmas.Turned.{turn_most, x0_edge, x1_edge, y0_edge, y1_edge}
use Rattle.reaching.proofs.turned_back.Goals as goal

-- the bounds between two corners
abbrev between : Corner → Corner → Bounds
between a b = record { x0 = lower a.x b.x; x1 = higher a.x b.x; y0 = lower a.y b.y; y1 = higher a.y b.y }

min_lower : (a b : ℕ) → min a b ≡ lower a b
min_lower a b = grind (arith, nat_tests)

max_higher : (a b : ℕ) → max a b ≡ higher a b
max_higher a b = grind (arith, nat_tests)

pub overflow_sub-quarters : goal.overflow_sub-quarters
overflow_sub-quarters c = omega (arith, turn_most c.args.window c.requires)

pub turned_corner-a-requires : goal.turned_corner-a-requires
turned_corner-a-requires c =
    let told = c.struct_told-2-1.given in (
      omega arith,
      rw (to_z-of_z {z = c.args.window.x0} (sfits_of told.0.1)) (x0_edge c.args.window c.requires),
      rw (to_z-of_z {z = c.args.window.y0} (sfits_of told.1.1.0.1)) (y0_edge c.args.window c.requires),
    )

pub turned_corner-b-requires : goal.turned_corner-b-requires
turned_corner-b-requires c =
    let told = c.struct_told-4-1.given in (
      omega arith,
      rw (to_z-of_z {z = c.args.window.x1} (sfits_of told.1.0.1)) (x1_edge c.args.window c.requires),
      rw (to_z-of_z {z = c.args.window.y1} (sfits_of told.1.1.1.0.1)) (y1_edge c.args.window c.requires),
    )

pub returns : goal.returns
unfolding turned_back
returns c =
    let w = c.args.window in
    let first = c.struct_told-2-1.given in
    let last = c.struct_told-4-1.given in
    let corners =
    ap₂ between
    (c.turned_corner-a.ensures ∙ ap₂ (corner_of (4 - w.turn)) (to_z-of_z {w = w32} {z = w.x0} (sfits_of first.0.1)) (to_z-of_z {w = w32} {z = w.y0} (sfits_of first.1.1.0.1)))
    (c.turned_corner-b.ensures ∙ ap₂ (corner_of (4 - w.turn)) (to_z-of_z {w = w32} {z = w.x1} (sfits_of last.1.0.1)) (to_z-of_z {w = w32} {z = w.y1} (sfits_of last.1.1.1.0.1))) in
    rw (
      c.min.ensures ∙ min_lower _ _,
      c.max.ensures ∙ max_higher _ _,
      c.min-2.ensures ∙ min_lower _ _,
      c.max-2.ensures ∙ max_higher _ _,
    )
    corners
