-- `contents::part` meets its contract: the bytes at the place of the code. Assumes nothing.
use mathlib.Core.Path.{ap, ◌∙◌}
use Rattle.contents.specs.Places.{cut_of}
use Rattle.contents.proofs.part.Goals as goal

pub returns : goal.returns
returns c = c.cut.ensures ∙ ap (cut_of c.args.s.now) c.place_of.ensures
