-- `filling::filled_radius` meets its contract: 0 alone is replaced. Assumes nothing.
use Rattle.std.proofs.Common.{eq-eqb, ne_eqb}
use Rattle.filling.specs.Filling.{filled_radius}
use Rattle.filling.proofs.filled_radius.Goals as goal

pub returns-then-radius-eq0 : goal.returns-then-radius-eq0
unfolding filled_radius
returns-then-radius-eq0 c = rw (eq-eqb c.args.radius 0 c.if-radius-eq0.true) c.old_radius.ensures

pub returns-else-radius-eq0 : goal.returns-else-radius-eq0
unfolding filled_radius
returns-else-radius-eq0 c = rw (ne_eqb c.args.radius 0 c.if-radius-eq0.false)
