-- `contents::bodies_join` meets its contract: while the loop runs, `start` is where the next body has to start, and every body before it starts right. Assumes nothing.
use mathlib.Core.Path.{◌≡◌, refl, sym, ◌∙◌}
use native.Mathlib.Omega.{arith}
use native.Mathlib.Numerals.{add-one}
use lib.Dec.{eqb}
use borrow.Author.Tests.{eq-eqb, ne_eqb}
use Rattle.lists.specs.Tests.{every}
use Rattle.lists.proofs.TestLaws.{every_more, every_not}
use Rattle.contents.specs.Contents.{count_at, offset_at, start_at}
use Rattle.contents.specs.Questions.{question3}
use Rattle.contents.proofs.bodies_join.Goals as goal

pub loop-i-init : goal.loop-i-init
unfolding every start_at
loop-i-init c = (omega arith, omega arith, refl)

pub returns-then-offset_at-start : goal.returns-then-offset_at-start
unfolding question3
returns-then-offset_at-start c =
    let s = c.args.s.now in
    let i = c.loop-i.i in
    rw (every_not (λ k. eqb (offset_at s k) (start_at s k)) (count_at s) i (omega arith)
    (ne_eqb _ _ (λ e. c.if-offset_at-start.true (c.offset_at.ensures ∙ e ∙ sym c.loop-i.invariant.0))))

pub loop-i-preserved : goal.loop-i-preserved
unfolding start_at
loop-i-preserved c =
    let i = c.loop-i.i in
    let inv = c.loop-i.invariant in (
      rw (add-one i) (omega arith),
      omega arith,
      every_more _ i inv.2 (eq-eqb _ _ (sym c.offset_at.ensures ∙ c.if-offset_at-start.false ∙ inv.0)),
    )

pub returns : goal.returns
unfolding question3
returns c =
    let q : count_at c.args.s.now ≡ c.loop-i.i = omega arith in
    rw (q, c.loop-i.invariant.2, c.loop-i.invariant.0)
