-- `index::is_index` meets its contract: the index is the tree exactly where all its numbers are below n and the check finds a tree.
-- Assumes nothing.
use mathlib.Core.Path.{sym, ◌∙◌}
use native.Mathlib.Omega.{arith}
use mathlib.Core.Bool.{false≢true}
use Rattle.index.proofs.Lemmas.Question9.{whole_is, whole_not}
use Rattle.index.proofs.is_index.Goals as goal

pub returns-then-all_below : goal.returns-then-all_below
returns-then-all_below c =
    let a = c.args in
    rw c.is_some.ensures
    (whole_is a.marks.now a.schedule.now a.index.now a.n c.requires (λ i. omega (arith, c.type_inv.index i))
    (c.all_below.ensures.0 c.if-all_below.true) c.check_block.ensures)

pub returns-else-all_below : goal.returns-else-all_below
returns-else-all_below c =
    let a = c.args in
    c.if-all_below.false
    ∙ sym
    (whole_not a.marks.now a.schedule.now a.index.now a.n c.requires
    (λ all. false≢true (sym c.if-all_below.false ∙ c.all_below.ensures.1 all)))
