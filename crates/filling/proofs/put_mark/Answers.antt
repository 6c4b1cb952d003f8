-- `filling::put_mark` meets its contract: three pieces of the mark, one behind the other. Assumes nothing.
use mathlib.Core.Path.{ap₂, ◌∙◌}
use Rattle.filling.specs.Filling.{filled_radius}
use Rattle.filling.proofs.Lemmas.Filled.{mark_put}
use Rattle.filling.proofs.put_mark.Goals as goal

pub returns : goal.returns
returns c =
    let at-put2 = c in
    let at-write = at-put2 in
    let at-put = at-write in
    let at-filled-radius = at-put in
    let at-kind-at = at-filled-radius in
    let at-written-radius-at = at-kind-at in
    let start = at-written-radius-at in
    mark_put start.args.s.now _ start.args.m start.requires.0
    (at-filled-radius.filled_radius-radius.ensures ∙ ap₂ filled_radius at-written-radius-at.written_radius_at.ensures at-kind-at.kind_at.ensures)
    at-put.put.ensures.1 at-write.write.ensures at-put2.put-2.ensures.1
