-- `view::widest_living` meets its contract: the loop has the greatest radius of the marks passed. Assumes nothing.
use native.Mathlib.Numerals.{add-one}
use mathlib.Core.Path.{refl}
use Rattle.view.specs.Search.{widest_living}
use Rattle.view.proofs.widest_living.Goals as goal

pub loop-m-init : goal.loop-m-init
unfolding widest_living
loop-m-init c = refl

pub loop-m-preserved : goal.loop-m-preserved
unfolding widest_living
loop-m-preserved c =
    let l = c.loop-m in
    rw (add-one l.m, ← l.invariant) c.wider-widest.ensures
