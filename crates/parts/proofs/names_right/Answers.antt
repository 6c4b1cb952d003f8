-- `parts::names_right` meets its contract: each test of the definition in its order, at the eliminator that the record names. Assumes nothing.
use Rattle.std.proofs.Common.{sym, ap₂, ◌∙◌, true≢false}
use borrow.Author.Tests.{lt-ltb, le-ltb}
use Rattle.parts.specs.Questions.{exactly, names_right}
use Rattle.parts.proofs.names_right.Goals as goal
use Rattle.parts.proofs.names_right.Goals.{then-by-reel, else-by-reel}

pub returns-then-outranks : goal.returns-then-outranks
unfolding names_right
returns-then-outranks c =
    elim c.if-by-reel.branch [
      | then-by-reel w ↦ rw (lt-ltb _ _ w.if-by-reel.true, ← w.outranks.ensures, ← w.value-is, c.if-outranks.true) (c.eq.ensures ∙ ap₂ exactly c.fraction_of.ensures c.pair.ensures)
      | else-by-reel w ↦ absurd (true≢false (sym c.if-outranks.true ∙ w.value-is ∙ le-ltb _ _ w.if-by-reel.false))
    ]

pub returns-else-outranks : goal.returns-else-outranks
unfolding names_right
returns-else-outranks c =
    elim c.if-by-reel.branch [
      | then-by-reel w ↦ rw (lt-ltb _ _ w.if-by-reel.true, ← w.outranks.ensures, ← w.value-is, c.if-outranks.false)
      | else-by-reel w ↦ rw (le-ltb _ _ w.if-by-reel.false) c.if-outranks.false
    ]
