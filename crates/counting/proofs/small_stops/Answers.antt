-- `counting::small_stops` meets its contract: the products fit 64 bits. Assumes nothing.
use Rattle.std.proofs.Common.{rules, ◌≡◌, ◌*◌, ◌^◌, ◌%◌, ltb, ◌∙◌}
use Rattle.fractions.specs.declared.Value.TheVariants.{At}
use Rattle.counting.specs.Steps.{stops_lived}
use Rattle.counting.proofs.Lemmas.Stops.{stops_most, small_lives}
use Rattle.counting.proofs.small_stops.Goals as goal

pub returns : goal.returns
returns c =
    let f = c.args.f in
    c.stops_where.ensures (stops_lived (At f)) (stops_most (At f))
    (λ stop b h p. let told : b ≡ ltb (f.den * 2 ^ (2 * stop) % 2 ^ 64) (4096 * f.num) = search rules in
    told ∙ small_lives f stop h c.requires.0 c.requires.1)
