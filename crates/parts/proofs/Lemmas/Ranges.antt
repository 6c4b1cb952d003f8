-- `every` is what `all` answers over a range that begins at 0.
use Prim.Native.Nat.{ℕ, zero, suc, ◌+◌, ◌<◌}
use mathlib.Core.Path.{◌≡◌, refl, ◌∙◌}
use mathlib.Core.Bool.{Bool, true, false}
use mathlib.Core.List.{List}
use Rattle.std.specs.Prelude.{Option}
use Rattle.std.proofs.Common.{arith, add-one, add-zero, zero-add, add-suc}
use Rattle.std.proofs.Math.Nat.{suc-add}
use Rattle.std.proofs.iter.Yields.{nat_range_steps}
use Rattle.std.proofs.lemmas.Iterator.{YieldsList-from_range}
use Rattle.std.proofs.lemmas.Iterator.Search.{all_from_yields_List}
use Rattle.std.specs.Fn.{Called}
use Rattle.std.specs.Iterator.{YieldsThen}
use Rattle.std.specs.List.{list_all, range_with_len, FoldsTo}
use Rattle.std.specs.Option.{MatchOption}
use Rattle.std.specs.declared.ops.Range.{Range}
use denote.Param.Members.{Mut}
use Rattle.lists.specs.Tests.{every}
use Rattle.lists.proofs.TestLaws.{both_iff, same_test, every_at, every_of}

module _ (test : ℕ → Bool) where
  all_at : (n a : ℕ) → list_all test (range_with_len a n) ≡ true → (i : ℕ) → i < n → test (a + i) ≡ true
  all_at zero a e i l = absurd (omega arith)
  all_at (suc n) a e zero l = rw add-zero ((both_iff (test a) _).0 e).0
  all_at (suc n) a e (suc i) l = rw (add-suc a i, ← suc-add a i) (all_at n (suc a) (rw add-one at ((both_iff (test a) _).0 e).1) i (omega arith))

  all_of : (n a : ℕ) → ((i : ℕ) → i < n → test (a + i) ≡ true) → list_all test (range_with_len a n) ≡ true
  all_of zero a h = refl
  all_of (suc n) a h =
      (both_iff (test a) _).1 (
        rw add-zero at (h 0 (omega arith)),
        rw add-one (all_of n (suc a) (λ i l. rw (suc-add a i, ← add-suc a i) (h (suc i) (omega arith)))),
      )

  all_every : (n : ℕ) → list_all test (range_with_len 0 n) ≡ every test n
  all_every n =
      same_test (list_all test (range_with_len 0 n)) (every test n) (λ e. every_of test n (λ i l. rw zero-add at (all_at n 0 e i l)))
      (λ e. all_of n 0 (λ i l. rw zero-add (every_at test n e i l)))

-- What `all` answers where each call of its closure answers the test: the clause `ran` of the call says which calls there were.
pub every_from_all : {F : Type 0} {g : Mut F (ℕ × Unit {0}) Bool} (test : ℕ → Bool) (n : ℕ) (u : Range ℕ) (f : F) (r : Bool)
    → (xs : List ℕ) × (o : Option ℕ) × (j : F) × YieldsThen nat_range_steps (record { start = 0; end = n }) xs o u
    × FoldsTo (λ p x q. Called g p (x, tt) true q) f xs j × MatchOption o (r ≡ true) (λ x. (r ≡ false) × ((h : F) × Called g j (x, tt) false h))
    → ((x : ℕ) (b : Bool) (q : F) → Called g f (x, tt) b q → (q ≡ f) × (b ≡ test x)) → r ≡ every test n
every_from_all test n u f r ran called =
    all_from_yields_List test u f r ran (YieldsList-from_range 0 n n refl (omega arith)) called ∙ all_every test n
