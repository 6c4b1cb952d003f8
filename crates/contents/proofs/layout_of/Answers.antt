-- `contents::layout_of` meets its contract: the places are those of the entries before i. Assumes nothing.
use Prim.Native.Nat.{ℕ}
use mathlib.Core.Path.{◌≡◌, ◌∙◌}
use mathlib.Core.List.{List}
use native.Mathlib.Numerals.{add-one}
use Rattle.contents.specs.declared.Layout.{Layout}
use Rattle.contents.specs.Contents.{count_at}
use Rattle.contents.specs.Places.{place_before}
use native.Mathlib.Omega.{arith}
use Rattle.contents.proofs.layout_of.Goals as goal

-- where the parts lie by the first i entries
abbrev before : List ℕ → ℕ → Layout
before s i =
    record {
      count = count_at s;
      marks = place_before s i 1;
      schedule = place_before s i 2;
      index = place_before s i 3;
      edition = place_before s i 4;
      popups = place_before s i 5;
      counts = place_before s i 6;
      shape = place_before s i 7;
    }

pub loop-i-init : goal.loop-i-init
unfolding place_before
loop-i-init c = rw (c.no_parts.ensures, c.count_at-count.ensures)

pub extent_at-requires : goal.extent_at-requires
extent_at-requires c = c.requires

pub loop-i-preserved : goal.loop-i-preserved
unfolding place_before
loop-i-preserved c =
    let l = c.loop-i in
    c.set_place.ensures ∙ rw (l.invariant, c.code_at.ensures, c.extent_at.ensures, add-one l.i)

pub returns : goal.returns
returns c =
    let l = c.loop-i in
    let q : l.i ≡ count_at c.args.s.now = omega arith in
    l.invariant ∙ rw q
