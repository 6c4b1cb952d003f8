-- `judging::fill` meets its contract: a block's table is that of its halves, and its own split, as Lemmas/Filling says. The measure is the
-- size. Assumes nothing.
use native.Mathlib.Omega.{arith}
use mathlib.Core.Path.{refl, ap, ◌∙◌}
use mathlib.Core.Bool.{true, false}
use Rattle.index.specs.Index.{coordinate}
use Rattle.judging.proofs.Lemmas.Filling.{filled_none, fill_left, fill_right, corner_small, filled_node}
use Rattle.judging.proofs.+fill.Goals as goal

pub returns-then-size-eq0 : goal.returns-then-size-eq0
returns-then-size-eq0 t c = filled_none (λ i. (c.type_inv.marks i).fits) c.if-size-eq0.true

pub fill-left-requires : goal.fill-left-requires
fill-left-requires t c =
    (omega arith, fill_left c.requires c.if-size-eq0.false)

pub fill-right-requires : goal.fill-right-requires
fill-right-requires t c =
    (omega arith, fill_right c.requires c.if-size-eq0.false c.fill-left.ensures.long)

pub overflow_cast-splits : goal.overflow_cast-splits
overflow_cast-splits t c =
    record { fits = rw c.on.ensures (corner_small c.args.axis c.fill-left.ensures) }

pub returns : goal.returns
returns t c =
    let p = c.requires in
    filled_node p c.if-size-eq0.false c.args.axis c.fill-left.ensures c.fill-right.ensures c.on.ensures
    (omega (arith, p.there, p.room, c.fill-right.ensures.long, c.fill-left.ensures.long)) refl
    (c.coordinate-x.ensures.0 ∙ ap (coordinate _ true) c.entry-root.ensures.0)
    (c.coordinate-y.ensures.0 ∙ ap (coordinate _ false) c.entry-root.ensures.0)
    c.coordinate-x.ensures.1 c.coordinate-y.ensures.1
    (rw (← c.max.ensures) c.max-2.ensures) (rw (← c.max-3.ensures) c.max-4.ensures)
