-- `joining::put` meets its contract: what is left to copy makes the whole, whatever was copied so far. Assumes nothing.
use mathlib.Core.Path.{◌≡◌, refl, ◌∙◌}
use mathlib.Core.List.{[]}
use native.Mathlib.Nat.{add-zero}
use native.Mathlib.Omega.{arith}
use lib.ListN.{drop, length-set, drop_of_length-le}
use Rattle.lists.proofs.StoreLaws.{sets_turn}
use Rattle.joining.proofs.put.Goals as goal

pub loop-j-init : goal.loop-j-init
loop-j-init c = (refl, rw (add-zero _))

pub loop-j-preserved : goal.loop-j-preserved
loop-j-preserved c =
    let a = c.args in
    let l = c.loop-j in
    (simp length-set l.invariant.0, sets_turn l.out a.at l.j a.body.now (omega arith) ∙ l.invariant.1)

pub returns : goal.returns
returns c =
    let a = c.args in
    let l = c.loop-j in
    let none : drop l.j a.body.now ≡ [] = drop_of_length-le a.body.now (omega arith) in
    (refl, rw none at l.invariant.1)
