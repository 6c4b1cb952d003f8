-- The loop's invariant: no radius is above 65,535.
use Rattle.std.specs.Prelude.{◌≤◌, ◌*◌}
use Rattle.scheduling.proofs.plan.Plan.over_rows.Given as goal

abbrev pub invariant-loop-q : goal.invariant-loop-q
invariant-loop-q l = l.cover.radii ≤ 65535 * l.q
