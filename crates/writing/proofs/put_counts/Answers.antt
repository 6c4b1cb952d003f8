-- `writing::put_counts`: the marks, the schedule and the popups are read where they stand. Assumes nothing.
use Prim.Native.Nat.{ℕ, ◌+◌, ◌-◌, ◌*◌, ◌≤◌}
use mathlib.Core.Path.{◌≡◌, sym, ap, ◌∙◌}
use mathlib.Core.List.{List, [], append-nil}
use native.Mathlib.Omega.{arith}
use borrow.Author.Rules.{rules}
use lib.ListN.{length, take, drop, length-drop, take-append-drop}
use lib.Seq.{sets, sets-eq, length-take-le}
use Rattle.counting.proofs.Laws.{counts_length}
use Rattle.parts.proofs.Laws.{popups_enough}
use Rattle.writing.proofs.put_counts.Goals as goal

slice_long : (l : List ℕ) (a k : ℕ) → a + k ≤ length l → length (take (a + k - a) (drop a l)) ≡ k
slice_long l a k h = let e : a + k - a ≡ k = omega arith in rw e (length-take-le k (drop a l) (omega (arith, length-drop a l)))

none_set : (l : List ℕ) (i : ℕ) → i ≤ length l → l ≡ sets l i []
none_set l i h =
    let e : i + 0 ≡ i = omega arith in
    sym (sets-eq [] l i (omega arith) ∙ rw (e, append-nil (take i l)) (take-append-drop i l))

pub returns-then-not-counted : goal.returns-then-not-counted
returns-then-not-counted c =
    let b = c in
    let no = c.if-not-counted.true in
    rw no (omega arith, none_set b.args.out.now b.args.end (omega (arith, b.requires.2, b.requires.3)))

pub counts_of-counts-requires : goal.counts_of-counts-requires
counts_of-counts-requires c =
    let b = c in
    let start = b.args.start in
    let n = b.args.n in
    let first = slice_long b.args.out.now start (11 * n) (omega (arith, b.requires.1, b.requires.2, b.requires.3)) in
    let second = slice_long b.args.out.now (start + 11 * n) (14 * n) (omega (arith, b.requires.1, b.requires.2, b.requires.3)) in
    record { n_bound = (b.requires.0, omega (arith, first), omega (arith, second)); popups_there = popups_enough b.requires.4 }

pub put-requires : goal.put-requires
put-requires c =
    let b = c in
    let yes = c.if-not-counted.false in
    let room : b.args.end + 170 ≤ length b.args.out.now = rw yes at b.requires.3 in
    search (rules, room)

pub returns : goal.returns
returns c =
    let b = c in
    let yes = c.if-not-counted.false in
    let start = b.args.start in
    let n = b.args.n in
    let one : start + 11 * n - start ≡ 11 * n = omega arith in
    let two : start + 11 * n + 14 * n - (start + 11 * n) ≡ 14 * n = omega arith in
    let p = c in
    let counts = rw (one, two) at p.counts_of-counts.ensures in
    rw yes (
      p.put.ensures.0 ∙ omega (arith, ap length counts, counts_length (take (11 * n) (drop start b.args.out.now)) (take (14 * n) (drop (start + 11 * n) b.args.out.now)) (take (b.args.end - b.args.from) (drop b.args.from b.args.out.now)) n),
      p.put.ensures.1 ∙ ap (λ (l : List ℕ). sets b.args.out.now b.args.end l) counts,
    )
