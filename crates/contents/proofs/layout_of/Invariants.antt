-- `contents::layout_of` meets its contract: the places are those of the entries before i. Assumes nothing.
use Prim.Native.Nat.{ℕ}
use mathlib.Core.Path.{◌≡◌}
use mathlib.Core.List.{List}
use Rattle.contents.specs.declared.Layout.{Layout}
use Rattle.contents.specs.Contents.{count_at}
use Rattle.contents.specs.Places.{place_before}
use Rattle.contents.proofs.layout_of.Given as goal

-- where the parts lie by the first i entries
abbrev before : List ℕ → ℕ → Layout
before s i =
    record {
      count = count_at s;
      marks = place_before s i 1;
      schedule = place_before s i 2;
      index = place_before s i 3;
      edition = place_before s i 4;
      popups = place_before s i 5;
      counts = place_before s i 6;
      shape = place_before s i 7;
    }

abbrev pub invariant-loop-i : goal.invariant-loop-i
invariant-loop-i l = l.layout ≡ before l.s l.i
