-- `counting::stops_lived` meets its contract: who never goes lives at every stop. Assumes nothing.
use mathlib.Core.Path.{sym, ap, ◌∙◌}
use Rattle.counting.specs.Steps.{stops_lived}
use Rattle.counting.proofs.Lemmas.Stops.{never_goes}
use Rattle.counting.proofs.stops_lived.Goals as goal

pub returns-in-Never : goal.returns-in-Never
returns-in-Never c = sym (ap stops_lived c.in-Never.is ∙ never_goes)

pub returns-in-At : goal.returns-in-At
returns-in-At c = c.stops_below.ensures ∙ ap stops_lived (sym c.in-At.is)
