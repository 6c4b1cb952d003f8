-- `counting::stops_where` meets its contract: the steps that are left find the number. Assumes nothing.
use Rattle.std.proofs.Common.{◌≡◌, ℕ, ◌+◌, ◌≤◌, drop}
use Rattle.counting.specs.Counts.{stops}
use Rattle.counting.specs.Steps.{TellsFirst}
use Rattle.counting.proofs.Lemmas.Stops.{steps, found, reach}
use Rattle.counting.proofs.stops_where.Given as goal

abbrev pub invariant-loop-step : goal.invariant-loop-step
invariant-loop-step g l =
    (l.known + reach (drop l.step-index steps) ≤ stops)
    × ((n : ℕ) → n ≤ stops → TellsFirst (goal.F-post g l.lives) n → found n l.known (drop l.step-index steps) ≡ n)
