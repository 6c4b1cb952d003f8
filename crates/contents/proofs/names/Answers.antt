-- `contents::names` meets its contract: some code is this one. Assumes nothing.
use Rattle.std.proofs.Common.{◌∙◌}
use Rattle.contents.proofs.Lemmas.Parts.{any_names}
use Rattle.contents.proofs.names.Goals as goal

pub returns : goal.returns
returns c = c.contains.ensures.value ∙ any_names c.args.codes.now c.args.code
