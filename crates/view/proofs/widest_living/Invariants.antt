-- `view::widest_living` meets its contract: the loop has the greatest radius of the marks passed. Assumes nothing.
use mathlib.Core.Path.{◌≡◌}
use Rattle.view.specs.Search.{widest_living}
use Rattle.view.proofs.widest_living.Given as goal

abbrev pub invariant-loop-m : goal.invariant-loop-m
invariant-loop-m l = l.widest ≡ widest_living l.marks l.schedule l.k l.m
