-- `marks::rank_key` meets its contract: the priority and the radius read give the definition's number. Assumes nothing.
use native.Mathlib.Omega.{arith}
use Rattle.marks.specs.Marks.{rank_key}
use Rattle.marks.proofs.Laws.{rank_radius_bound}
use Rattle.marks.proofs.rank_key.Goals as goal

pub overflow_sub-radius : goal.overflow_sub-radius
overflow_sub-radius c =
    omega (arith, rank_radius_bound c.args.edition c.args.s.now c.args.m c.requires.2)

pub returns : goal.returns
unfolding rank_key
returns c = omega arith
