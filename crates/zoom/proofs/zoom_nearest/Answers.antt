-- `zoom::zoom_nearest`: the root is of 128ths, so its square times the denominator is at most 16384 times the numerator, and fits; the two
-- ways of rounding are the definition's. Assumes nothing.
use Rattle.std.proofs.Common.{sym, mul-le-mul, arith}
use Rattle.zoom.specs.Printed.{nearest}
use Rattle.zoom.proofs.Lemmas.Roots.{root_narrow}
use Rattle.zoom.proofs.Lemmas.Rounding.{from_half, from_up, root_fits}
use Rattle.zoom.proofs.zoom_nearest.Goals as goal

pub overflow_mul-h : goal.overflow_mul-h
overflow_mul-h c = let h = root_narrow _ c.root_of-h.ensures in omega (arith, mul-le-mul h h)

pub overflow_mul-h-then-h-eq1 : goal.overflow_mul-h-then-h-eq1
overflow_mul-h-then-h-eq1 c =
    omega (arith, root_fits c.args.f c.requires.1 (omega (arith, c.requires.0.num_small)) c.root_of-h.ensures, c.requires.0.num_small)

pub returns-then-h-den : goal.returns-then-h-den
unfolding nearest
returns-then-h-den c = rw (← c.root_of-h.ensures) (sym (from_half _ _ c.if-h-eq1.true c.if-h-den.true))

pub overflow_add-result : goal.overflow_add-result
overflow_add-result c = omega (arith, root_narrow _ c.root_of-h.ensures)

pub returns : goal.returns
unfolding nearest
returns c =
    rw (← c.root_of-h.ensures)
    (sym (from_up _ _ (λ p q. elim c.else-h-eq1.branch [ goal.else-h-eq1-via-then-h-eq1+else-h-den w ↦ w.if-h-den.false q | goal.else-h-eq1-via-else-h-eq1 w ↦ w.if-h-eq1.false p ])))
