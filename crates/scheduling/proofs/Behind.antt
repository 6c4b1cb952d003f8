-- Part 2, written by a call that is lent the room behind the marks. Assumes nothing.
use Prim.Native.Nat.{ℕ, ◌+◌, ◌-◌, ◌*◌, ◌≤◌}
use mathlib.Core.Path.{◌≡◌}
use mathlib.Core.List.{List, [], ◌++◌, append-nil}
use native.Mathlib.Omega.{arith}
use borrow.Rule.Slice.PartMut.{mid_of, put_mid}
use lib.ListN.{length, take, drop, length-drop, drop_of_length-le}
use lib.Seq.{drop-drop, take_all}
use Rattle.marks.specs.Marks.{mark_size}
use Rattle.elimination.specs.Records.{record_size, records}
use Rattle.elimination.specs.Process.{process}
use Rattle.elimination.specs.Reel.{marks_of, schedule_of}
use Rattle.scheduling.specs.Behind.{reel_in, schedule_end, with_schedule}

-- the room is all that is behind the marks
pub lent_long : (a : List ℕ) (n : ℕ) → schedule_end n ≤ length a
    → record_size * n ≤ length (take (length a - mark_size * n) (drop (mark_size * n) a))
lent_long a n h =
    let e = length-drop (mark_size * n) a in
    rw (take_all (length a - mark_size * n) (drop (mark_size * n) a) (omega (arith, e))) (omega (arith, e))

pub behind : (edition shape : ℕ) (popups a : List ℕ) (n from k : ℕ) {t : List ℕ} → from ≡ mark_size * n → k ≡ length a - from
    → t ≡ records (process (marks_of (reel_in edition shape popups a n))) n ++ drop (record_size * n) (mid_of from k a) → put_mid from k a t ≡ with_schedule edition shape popups a n
unfolding schedule_of
behind edition shape popups a n from k {t} from_is k-is t-is =
    let less : length (drop from a) ≤ k = omega (arith, k-is, length-drop from a) in
    let lent : take k (drop from a) ≡ drop from a = take_all k (drop from a) less in
    let none : drop k (drop from a) ≡ [] = drop_of_length-le (drop from a) less in
    let sum : from + record_size * n ≡ schedule_end n = omega (arith, from_is) in
    rw (t-is, none, append-nil _, lent, drop-drop (record_size * n) from a, sum, from_is)
