-- `contents::has_contents` meets its contract: each test of question 1 in its order; a number of parts that is taken is small, so the sum fits. Assumes nothing.
use Prim.Native.Nat.{◌≤◌}
use mathlib.Core.Path.{◌≡◌, sym, ◌∙◌}
use mathlib.Core.Bool.{true, false}
use native.Mathlib.Omega.{arith}
use lib.ListN.{length}
use borrow.Author.Tests.{le-leb, lt-leb}
use Rattle.contents.specs.Contents.{count_at}
use Rattle.contents.specs.Questions.{top_code, is_count, question1}
use Rattle.contents.proofs.Lemmas.Laid.{count_iff}
use Rattle.contents.proofs.has_contents.Goals as goal
use Rattle.contents.proofs.has_contents.Goals.{Then-is_count}

-- a number of parts that is taken is small
few : (c : Then-is_count) → c.count_at-count.result ≤ top_code
few c = ((count_iff c.count_at-count.result).0 (sym c.is_count.ensures ∙ c.if-is_count.true)).1

pub returns-then-s-lt-COUNT_SIZE : goal.returns-then-s-lt-COUNT_SIZE
unfolding question1
returns-then-s-lt-COUNT_SIZE c = rw (lt-leb 2 (length c.args.s.now) c.if-s-lt-COUNT_SIZE.true)

pub overflow_mul-result : goal.overflow_mul-result
overflow_mul-result c = omega (arith, few (goal.at.overflow_mul-result c).Then-is_count)

pub overflow_add-result : goal.overflow_add-result
overflow_add-result c = omega (arith, few (goal.at.overflow_add-result c).Then-is_count)

pub returns-then-is_count : goal.returns-then-is_count
unfolding question1
returns-then-is_count c =
    let s = c.args.s.now in
    let e : is_count (count_at s) ≡ true = rw c.count_at-count.ensures at (sym c.is_count.ensures ∙ c.if-is_count.true) in
    rw (c.count_at-count.ensures, le-leb 2 (length s) c.if-s-lt-COUNT_SIZE.false, e)

pub returns-else-is_count : goal.returns-else-is_count
unfolding question1
returns-else-is_count c =
    let s = c.args.s.now in
    let e : is_count (count_at s) ≡ false = rw c.count_at-count.ensures at (sym c.is_count.ensures ∙ c.if-is_count.false) in
    rw (c.if-is_count.false, le-leb 2 (length s) c.if-s-lt-COUNT_SIZE.false, e)
