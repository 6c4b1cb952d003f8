-- `counting::stops_where` meets its contract: the steps that are left find the number. Assumes nothing.
use Rattle.std.proofs.Common.{◌≡◌, ℕ, ◌+◌, ◌-◌, ◌≤◌, ◌<◌, cond, length, get_or, drop, arith, sym, ap, ◌∙◌}
use Rattle.counting.specs.Counts.{stops}
use Rattle.counting.proofs.Lemmas.Stops.{steps, steps_some, found, five_steps, found_more, reach_more, one_step}
use Rattle.counting.proofs.stops_where.Goals as goal
use Rattle.counting.proofs.stops_where.Goals.{then-lives, else-lives}

pub loop-step-init : goal.loop-step-init
loop-step-init g c = (omega arith, λ n h tells. five_steps n h)

pub lives-requires : goal.lives-requires
lives-requires g c =
    let i = c.loop-step.step-index in
    let in_steps : i < length steps = omega arith in
    let last : c.loop-step.known + get_or steps i 0 - 1 < stops =
    omega (arith, c.loop-step.invariant.0, reach_more i steps in_steps, steps_some i in_steps) in
    c.requires _ last

pub loop-step-preserved : goal.loop-step-preserved
loop-step-preserved g c =
    let i = c.loop-step.step-index in
    let known = c.loop-step.known in
    let in_steps : i < length steps = omega arith in
    let step = get_or steps i 0 in
    let some : 1 ≤ step = steps_some i in_steps in
    let last : known + step - 1 < stops = omega (arith, c.loop-step.invariant.0, reach_more i steps in_steps) in
    let is : c.if-lives.known ≡ cond c.lives.result (known + step) known =
    elim c.if-lives.branch [ then-lives w ↦ rw w.if-lives.true w.known-is | else-lives w ↦ rw w.if-lives.false w.known-is ] in
    let most : c.if-lives.known ≤ known + step =
    elim c.if-lives.branch [ then-lives w ↦ omega (arith, w.known-is) | else-lives w ↦ omega (arith, w.known-is) ] in (
      omega (arith, most, c.loop-step.invariant.0, reach_more i steps in_steps),
      λ n h tells. ap (λ (k : ℕ). found n k (drop (i + 1) steps)) (is ∙ one_step n known step some (tells (known + step - 1) c.lives.result last c.lives.ensures))
          ∙ sym (found_more n known i steps in_steps)
          ∙ c.loop-step.invariant.1 n h tells,
    )

pub returns : goal.returns
returns g c = let e : c.loop-step.step-index ≡ 5 = omega arith in λ n h tells. rw e at (c.loop-step.invariant.1 n h tells)
