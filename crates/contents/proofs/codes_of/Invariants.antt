-- `contents::codes_of` meets its contract: the codes of the entries before i stand in the array. Assumes nothing.
use mathlib.Core.Path.{◌≡◌}
use lib.ListN.{length, take}
use Rattle.contents.specs.Contents.{codes_of, split}
use Rattle.contents.specs.Questions.{top_code}
use Rattle.contents.proofs.codes_of.Given as goal

abbrev pub invariant-loop-i : goal.invariant-loop-i
invariant-loop-i l = (length l.codes ≡ top_code) × (take l.i l.codes ≡ take l.i (codes_of (split l.s)))
