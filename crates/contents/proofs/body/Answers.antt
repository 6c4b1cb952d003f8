-- `contents::body` meets its contract: the bytes at the place that the contents give a body are the body. Assumes nothing.
use mathlib.Core.Path.{ap, ◌∙◌}
use Rattle.contents.specs.Places.{cut_of}
use Rattle.contents.proofs.Lemmas.Places.{cut_body}
use Rattle.contents.proofs.body.Goals as goal

pub returns : goal.returns
returns c =
    let a = c.args in
    c.cut.ensures ∙ ap (cut_of a.s.now) c.extent_at.ensures ∙ cut_body a.s.now c.requires a.i
