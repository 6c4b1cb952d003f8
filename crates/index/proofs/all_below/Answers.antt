-- `index::all_below` meets its contract: the test holds of all numbers exactly where it fails of none. Assumes nothing.
use Rattle.std.proofs.Common.{rules, arith, ◌≡◌, ◌<◌, ◌≤◌, ◌↔◌, ℕ, Bool, true, false, length, refl}
use Rattle.std.proofs.lemmas.Iterator.{cases_from_all, YieldsList-from_range}
use Rattle.std.proofs.lemmas.List.FromFn.{length-range_with_len, get_or-range_with_len}
use Rattle.std.specs.Bool.{MatchBool}
use Rattle.std.specs.List.{range_with_len, AllWithin, HoldsAt}
use borrow.Author.Tests.{tests}
use mathlib.Core.Bool.{false≢true}
use native.Mathlib.Nat.{zero-add}
use Rattle.index.specs.Blocks.{entry_at}
use Rattle.index.proofs.all_below.Goals as goal

below_iff : (e : ℕ → ℕ) (n : ℕ) (r : Bool)
    → MatchBool r (AllWithin (λ i. e i < n) (range_with_len 0 n) 0 (length (range_with_len 0 n)))
    ((k : ℕ) × (k < length (range_with_len 0 n)) × HoldsAt (λ i. n ≤ e i) (range_with_len 0 n) k)
    → (r ≡ true) ↔ ((i : ℕ) → i < n → e i < n)
below_iff e n true m =
    ((λ _ i h. let k = m i 0 (omega arith) (omega (arith, length-range_with_len 0 n)) in rw (get_or-range_with_len 0 n i 0 h, zero-add) at k), λ _. refl)
below_iff e n false (k, l, beyond) =
    let h : k < n = omega (arith, length-range_with_len 0 n) in
    let w = rw (get_or-range_with_len 0 n k 0 h, zero-add) at (beyond 0) in
    ((λ e. absurd (false≢true e)), λ all. absurd (omega (arith, all k h)))

pub returns : goal.returns
returns c =
    let n = c.args.n in
    let t = c.args.index.now in
    below_iff (entry_at t) n c.all.result
    (cases_from_all _ _ _ (λ i. entry_at t i < n) (λ i. n ≤ entry_at t i) c.all.ensures.ran (YieldsList-from_range 0 n n refl (omega arith))
    (λ x q k. search (rules, tests)) (λ x q k. search (rules, tests)))
