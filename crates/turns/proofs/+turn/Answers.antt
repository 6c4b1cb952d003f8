-- `turns::turn` meets its contract: one quarter turn after those of the call with one less. The measure is their number. Assumes nothing.
use Prim.Native.Nat.{suc, ◌-◌}
use mathlib.Core.Path.{◌≡◌, ap, ◌∙◌, subst⁻¹}
use native.Mathlib.Omega.{arith}
use Rattle.turns.specs.Turns.{unit, quarter, times, turn}
use Rattle.turns.specs.Small.{Small}
use Rattle.turns.proofs.Laws.{turn_small}
use Rattle.turns.proofs.Lemmas.Quarters.{up_to, grid_small}
use Rattle.turns.proofs.+turn.Goals as goal

pub returns-then-quarters-eq0 : goal.returns-then-quarters-eq0
unfolding unit turn
returns-then-quarters-eq0 t c = rw c.if-quarters-eq0.true

pub turn-requires : goal.turn-requires
turn-requires t c = (omega arith, omega arith)

pub times-requires : goal.times-requires
times-requires t c = (
  grid_small (up_to (omega arith)) (up_to (omega arith)) (up_to (omega arith)) (up_to (omega arith)),
  subst⁻¹ Small c.turn.ensures (turn_small _),
)

pub returns : goal.returns
unfolding quarter turn
returns t c =
    let n = c.args.quarters in
    let e : suc (n - 1) ≡ n = omega arith in
    c.times.ensures ∙ ap (times quarter) c.turn.ensures ∙ ap turn e
