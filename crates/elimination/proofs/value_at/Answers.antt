-- `elimination::value_at` meets its contract: the value of the record that was read. Assumes nothing.
use mathlib.Core.Path.{ap, ◌∙◌}
use Rattle.elimination.specs.Records.{value_of, value_at}
use Rattle.elimination.proofs.value_at.Goals as goal

pub returns : goal.returns
unfolding value_at
returns c = c.value_of.ensures ∙ ap value_of c.record_at.ensures
