-- `counting::wide_stops` meets its contract: the zoom is that of the stop. Assumes nothing.
use Rattle.std.proofs.Common.{rules, ◌≡◌, ◌*◌, ◌^◌, ◌%◌, ◌∙◌}
use Rattle.zoom.specs.Living.{lives_at}
use Rattle.counting.specs.Steps.{stops_lived}
use Rattle.counting.proofs.Lemmas.Stops.{stops_most, shifted_lives}
use Rattle.counting.proofs.wide_stops.Goals as goal

pub returns : goal.returns
returns c =
    c.stops_where.ensures (stops_lived c.args.v) (stops_most c.args.v)
    (λ stop b h p. let told : b ≡ lives_at (1 * 2 ^ stop % 2 ^ 32) c.args.v = search rules in told ∙ shifted_lives c.args.v stop h)
