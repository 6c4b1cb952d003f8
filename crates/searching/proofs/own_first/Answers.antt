-- `searching::own_first` meets its contract. Assumes nothing.
use native.Mathlib.Omega.{arith}
use borrow.Author.Tests.{lt-ltb, le-ltb, eq-eqb, ne_eqb}
use Rattle.searching.proofs.own_first.Goals as goal

pub returns-then-i-eq0 : goal.returns-then-i-eq0
returns-then-i-eq0 c = (rw (eq-eqb _ 0 c.if-i-eq0.true), c.requires.0)

pub returns-then-own-k : goal.returns-then-own-k
returns-then-own-k c = (rw (ne_eqb _ 0 c.if-i-eq0.false, lt-ltb _ _ c.if-own-k.true), omega arith)

pub returns-else-own-k : goal.returns-else-own-k
returns-else-own-k c = (rw (ne_eqb _ 0 c.if-i-eq0.false, le-ltb _ _ c.if-own-k.false), omega arith)
