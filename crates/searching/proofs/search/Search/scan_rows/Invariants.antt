-- `searching::Search::scan_rows` meets its contract: each turn takes in two rows more. Assumes nothing.
use Prim.Native.Nat.{◌*◌}
use Rattle.searching.specs.Search.{BestOfFirst}
use Rattle.searching.proofs.search.Search.scan_rows.Given as goal

abbrev pub invariant-loop-pair : goal.invariant-loop-pair
invariant-loop-pair l = BestOfFirst l.self.shape l.self.w.now l.self.p (2 * l.pair) l.best
