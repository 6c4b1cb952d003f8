-- `marks::pair` meets its contract: the larger popup and the touching value make the pair value, and without popups it is the touching value.
-- Assumes nothing.
use mathlib.Core.Path.{ap₂, sym, ◌∙◌}
use Rattle.std.proofs.lemmas.Bool.{eqb-true}
use Rattle.marks.specs.Marks.{larger}
use Rattle.marks.specs.Pairs.{pair_of, pair_value}
use Rattle.marks.proofs.Laws.{larger_most}
use Rattle.marks.proofs.PairLaws.{unpopped}
use Rattle.marks.proofs.pair.Goals as goal

pub returns-then-is_empty : goal.returns-then-is_empty
returns-then-is_empty c =
    let a = c.args in
    c.touching-touch.ensures.0 ∙ unpopped a.shape a.s.now a.popups.now a.a a.b (eqb-true _ _ (sym c.if-is_empty.ensures))

pub pair_of-requires : goal.pair_of-requires
pair_of-requires c =
    let p = c.requires.a_bound in
    (c.touching-touch.ensures.1, rw (c.larger.ensures, c.popup_at.ensures, c.popup_at-2.ensures) (larger_most _ _ 65536 p.2.small p.3.small))

pub returns : goal.returns
unfolding pair_value
returns c =
    c.pair_of.ensures.0 ∙ ap₂ pair_of c.touching-touch.ensures.0 (c.larger.ensures ∙ ap₂ larger c.popup_at.ensures c.popup_at-2.ensures)
