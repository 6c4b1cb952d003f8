-- `view::size_to_search` meets its contract: each answer has the tests of the definition decided. Assumes nothing.
use native.Mathlib.Omega.{arith}
use borrow.Author.Tests.{eq-eqb, ne_eqb}
use Rattle.view.specs.Search.{size_to_search}
use Rattle.view.proofs.size_to_search.Goals as goal

pub returns-then-other-eq0 : goal.returns-then-other-eq0
unfolding size_to_search
returns-then-other-eq0 c = rw (eq-eqb _ _ c.if-other-eq0.true)

pub coordinate-coordinate-requires : goal.coordinate-coordinate-requires
coordinate-coordinate-requires c =
    omega (arith, c.entry.ensures.0, c.requires.0 c.args.head (omega arith))

pub returns-then-is_beyond : goal.returns-then-is_beyond
unfolding size_to_search
returns-then-is_beyond c =
    let b = rw (c.coordinate-coordinate.ensures.0, c.entry.ensures.0) at c.is_beyond.ensures in
    rw (ne_eqb _ _ c.if-other-eq0.false, ← b, c.if-is_beyond.true)

pub returns-else-is_beyond : goal.returns-else-is_beyond
unfolding size_to_search
returns-else-is_beyond c =
    let b = rw (c.coordinate-coordinate.ensures.0, c.entry.ensures.0) at c.is_beyond.ensures in
    rw (ne_eqb _ _ c.if-other-eq0.false, ← b, c.if-is_beyond.false)
