-- `searching::counted_down` meets its contract. Assumes nothing.
use native.Mathlib.Omega.{arith}
use borrow.Author.Tests.{le-leb, lt-leb}
use Rattle.searching.proofs.counted_down.Goals as goal

pub returns-then-i-start : goal.returns-then-i-start
returns-then-i-start c = (rw (le-leb _ _ c.if-i-start.true), omega arith)

pub returns-else-i-start : goal.returns-else-i-start
returns-else-i-start c = (rw (lt-leb _ _ c.if-i-start.false), omega arith)
