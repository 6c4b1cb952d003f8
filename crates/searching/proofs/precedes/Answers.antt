-- `searching::precedes` meets its contract: the cross products fit 64 bits, and a bound that is one more takes a tie. Assumes nothing.
use Prim.Native.Nat.{ℕ, ◌+◌, ◌*◌, ◌<◌}
use mathlib.Core.Path.{◌≡◌}
use mathlib.Core.Bool.{Bool, true, false, cond}
use native.Mathlib.Decide.{dec_lt}
use native.Mathlib.Omega.{arith}
use borrow.Author.Tests.{lt-ltb, le-ltb}
use lib.Dec.{ltb}
use mir.Syntax.{w64}
use mir.Val.{Fits, bool_byte}
use Rattle.fractions.specs.Order.{less}
use Rattle.fractions.proofs.Laws.{small_cross}
use Rattle.searching.specs.Search.{precedes}
use Rattle.searching.proofs.precedes.Goals as goal

-- a bound that is one more where there is `tie`
by_bound : (a b : ℕ) (tie : Bool) → ltb a (b + bool_byte tie) ≡ cond (ltb a b) true (cond (ltb b a) false tie)
by_bound a b true =
    elim (dec_lt a b) [
      | yes l ↦ rw (lt-ltb a b l) (lt-ltb a (b + 1) (omega arith))
      | no l ↦
          elim (dec_lt b a) [
            | yes k ↦ rw (le-ltb a b (omega arith), lt-ltb b a k) (le-ltb a (b + 1) (omega arith))
            | no k ↦ rw (le-ltb a b (omega arith), le-ltb b a (omega arith)) (lt-ltb a (b + 1) (omega arith))
          ]
    ]
by_bound a b false =
    elim (dec_lt a b) [
      | yes l ↦ rw (lt-ltb a b l) (lt-ltb a (b + 0) (omega arith))
      | no l ↦
          elim (dec_lt b a) [
            | yes k ↦ rw (le-ltb a b (omega arith), lt-ltb b a k) (le-ltb a (b + 0) (omega arith))
            | no k ↦ rw (le-ltb a b (omega arith), le-ltb b a (omega arith)) (le-ltb a (b + 0) (omega arith))
          ]
    ]

bound_fits : {b : ℕ} (tie : Bool) → b < 9223372036854775808 → Fits w64 (b + bool_byte tie)
bound_fits true h = record { fits = omega arith }
bound_fits false h = record { fits = omega arith }

pub overflow_mul-left : goal.overflow_mul-left
overflow_mul-left c = omega (arith, small_cross c.requires.0 c.requires.1)

pub overflow_mul-right : goal.overflow_mul-right
overflow_mul-right c = omega (arith, small_cross c.requires.1 c.requires.0)

pub overflow_add-bound : goal.overflow_add-bound
overflow_add-bound c =
    bound_fits c.args.tie (small_cross c.requires.1 c.requires.0)

pub returns : goal.returns
unfolding precedes less
returns c =
    let a = c.args in
    by_bound (a.f.num * a.g.den) (a.g.num * a.f.den) a.tie
