-- `marks::pair_of` meets its contract: the square of a popup is small. Assumes nothing.
use Prim.Native.Nat.{ℕ, ◌≤◌}
use mathlib.Core.Path.{sym, ◌∙◌}
use native.Mathlib.Omega.{arith}
use native.Mathlib.Nat.{mul-le-mul}
use Rattle.fractions.specs.Order.{Small}
use Rattle.marks.specs.Pairs.{popup_value, pair_of}
use Rattle.marks.proofs.pair_of.Goals as goal

-- a popup's value is small
popup_small : (k : ℕ) → k ≤ 65536 → Small (popup_value k)
popup_small k h = record { num_small = omega (arith, mul-le-mul h h); den_small = omega arith }

pub overflow_mul-num : goal.overflow_mul-num
overflow_mul-num c = let k = c.requires.1 in record { fits = omega (arith, mul-le-mul k k) }

pub less_small-requires : goal.less_small-requires
less_small-requires c = (c.requires.0, popup_small _ c.requires.1)

pub returns-then-less_small : goal.returns-then-less_small
unfolding pair_of
returns-then-less_small c = (rw (sym c.less_small.ensures ∙ c.if-less_small.true), popup_small _ c.requires.1)

pub returns-else-less_small : goal.returns-else-less_small
unfolding pair_of
returns-else-less_small c = (rw (sym c.less_small.ensures ∙ c.if-less_small.false), c.requires.0)
