-- `counting::popup_stop` meets its contract: without part 5 no stop is below a popup, and the square of 32 bits fits 64. Assumes nothing.
use Rattle.std.proofs.Common.{rules}
use Prim.Native.Nat.{ℕ, ◌≤◌}
use mathlib.Core.Path.{ap, ◌∙◌}
use native.Mathlib.Nat.{mul-le-mul}
use native.Mathlib.Omega.{arith}
use Rattle.fractions.specs.declared.Value.TheVariants.{At}
use Rattle.marks.specs.Pairs.{popup_value}
use Rattle.counting.specs.Steps.{stops_lived}
use Rattle.counting.proofs.Lemmas.Stops.{popup_none_stop}
use Rattle.counting.proofs.popup_stop.Goals as goal

pub returns-then-is_empty : goal.returns-then-is_empty
returns-then-is_empty c = let a = c.args in popup_none_stop a.popups.now a.m (search rules)

pub overflow_mul-num : goal.overflow_mul-num
overflow_mul-num c =
    let k : c.popup_at-k.result ≤ 4294967295 = omega arith in
    record { fits = omega (arith, mul-le-mul k k) }

pub returns : goal.returns
returns c = c.stops_below.ensures ∙ ap (λ (k : ℕ). stops_lived (At (popup_value k))) c.popup_at-k.ensures
