-- `contents::find` meets its contract: where no code is this one, no bytes are found. Assumes nothing.
use Rattle.std.proofs.Common.{ℕ, List, map, Bor, refl, sym, ap, ◌∙◌}
use Rattle.contents.specs.Contents.{together}
use Rattle.contents.proofs.Laws.{part_found, has_named}
use Rattle.contents.proofs.find.Goals as goal

pub returns : goal.returns
returns c =
    let a = c.args in
    ap (λ (b : Bor (List ℕ)). b.now) c.unwrap_or.ensures
    ∙ part_found (together a.codes.now (map (λ x. x.now) a.bodies.now)) a.code c.body_under.result _ refl
    (c.body_under.ensures.there ∙ sym (has_named a.codes.now a.bodies.now c.requires a.code)) c.body_under.ensures.body
