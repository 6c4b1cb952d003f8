-- `grid::clear` meets its contract: each turn clears one region more. Assumes nothing.
use Rattle.grid.specs.Steps.{Cleared}
use Rattle.grid.proofs.clear.Given as goal

abbrev pub invariant-loop-i : goal.invariant-loop-i
invariant-loop-i l = Cleared l.initial.w l.w l.at l.groups l.i
