-- `viewing::walk`: question 13, and else what the walk over the map gives. Assumes nothing.
use mathlib.Core.Path.{◌≡◌, sym, ap, ◌∙◌}
use native.Mathlib.Omega.{arith}
use Rattle.jobs.specs.declared.Answer.{Answer}
use Rattle.jobs.proofs.Laws.Walking.{map_iff, walk_refused, walk_goes, walk_small}
use Rattle.viewing.proofs.walk.Goals as goal

-- the number and the value of an answer
both : {r q : Answer} → r ≡ q → (r.number ≡ q.number) × (r.value ≡ q.value)
both e = (ap (λ (a : Answer). a.number) e, ap (λ (a : Answer). a.value) e)

pub returns-then-not-is_map : goal.returns-then-not-is_map
returns-then-not-is_map c = both (walk_refused _ _ _ (sym c.is_map.ensures ∙ c.if-not-is_map.true))

pub walk-requires : goal.walk-requires
walk-requires c = (map_iff _ _).0 (sym c.is_map.ensures ∙ c.if-not-is_map.false)

pub overflow_cast-result : goal.overflow_cast-result
overflow_cast-result c =
    let a = c.args in
    let few = ((map_iff _ _).0 (sym c.is_map.ensures ∙ c.if-not-is_map.false)).0 in
    omega (arith, c.walk.ensures, walk_small a.map.now a.n a.start few)

pub returns : goal.returns
returns c = rw c.walk.ensures (both (walk_goes _ _ _ (sym c.is_map.ensures ∙ c.if-not-is_map.false)))
