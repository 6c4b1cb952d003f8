-- `searching::Search::scan_rows` meets its contract: each turn takes in two rows more, and a last one may be left; where a value is the least there can be, the rest changes nothing. Assumes nothing.
use Prim.Native.Nat.{ℕ, ◌+◌, ◌-◌, ◌*◌}
use mathlib.Core.Path.{◌≡◌}
use mathlib.Core.List.{List}
use mathlib.Core.Logic.{inl, inr}
use native.Mathlib.Omega.{arith}
use Rattle.searching.specs.declared.Leader.{Leader}
use Rattle.searching.specs.Search.{Admitted, Adds, Only, OneOf, BestOfFirst}
use Rattle.searching.proofs.Steps.{higher_more, least_all}
use Rattle.searching.proofs.search.Search.scan_rows.Goals as goal

abbrev Step : ℕ → List ℕ → ℕ → ℕ → Leader → Leader → Type 0
Step shape w p q c d = Admitted p d × Adds shape w p (Only q) c d × OneOf q c d

one_more : {shape : ℕ} {w : List ℕ} {p q : ℕ} {c d : Leader} → BestOfFirst shape w p q c → Step shape w p q c d → BestOfFirst shape w p (q + 1) d
one_more b e =
    record {
      admitted = e.0;
      adds = higher_more b.adds e.1;
      low = elim e.2 [ inl s ↦ omega (arith, s) | inr s ↦ omega (arith, s, b.low) ];
    }

two_more : {shape : ℕ} {w : List ℕ} {p : ℕ} (k : ℕ) {c d e : Leader} → BestOfFirst shape w p (2 * k) c → Step shape w p (2 * k) c d
    → Step shape w p (2 * k + 1) d e → BestOfFirst shape w p (2 * (k + 1)) e
two_more k b x y = let i : 2 * k + 1 + 1 ≡ 2 * (k + 1) = omega arith in rw i at (one_more (one_more b x) y)

pub returns-then-is_least : goal.returns-then-is_least
returns-then-is_least c =
    let b = two_more c.loop-pair.pair c.loop-pair.invariant c.better-best.ensures c.better-best-in-loop-pair.ensures in
    record { admitted = b.admitted; adds = least_all b c.is_least.ensures c.if-is_least.true; low = omega (arith, b.low) }

pub loop-pair-preserved : goal.loop-pair-preserved
loop-pair-preserved c = two_more c.loop-pair.pair c.loop-pair.invariant c.better-best.ensures c.better-best-in-loop-pair.ensures

pub returns-then-end-eq1 : goal.returns-then-end-eq1
returns-then-end-eq1 c =
    let e : 2 * c.loop-pair.pair ≡ c.args.«end» - 1 = omega arith in
    let f : c.args.«end» - 1 + 1 ≡ c.args.«end» = omega arith in
    rw f at (one_more (rw e at c.loop-pair.invariant) c.better.ensures)

pub returns-else-end-eq1 : goal.returns-else-end-eq1
returns-else-end-eq1 c = let e : 2 * c.loop-pair.pair ≡ c.args.«end» = omega arith in rw e at c.loop-pair.invariant
