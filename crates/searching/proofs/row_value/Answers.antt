-- `searching::row_value` meets its contract: the two numbers of the row's record. Assumes nothing.
use mathlib.Core.Path.{ap, ◌∙◌}
use Rattle.elimination.specs.Records.{fraction_of}
use Rattle.searching.proofs.row_value.Goals as goal

pub returns : goal.returns
returns c = c.fraction_of.ensures ∙ ap fraction_of c.row_record.ensures
