-- `elimination::value_of` meets its contract: 'never' exactly where the denominator is 0. Assumes nothing.
use mathlib.Core.Path.{ap}
use borrow.Author.Tests.{eq-eqb, ne_eqb}
use Rattle.fractions.specs.declared.Value.TheVariants.{At}
use Rattle.elimination.proofs.value_of.Goals as goal

pub returns-then-r-eq0 : goal.returns-then-r-eq0
returns-then-r-eq0 c = rw (eq-eqb c.args.r.den 0 c.if-r-eq0.true)

pub returns : goal.returns
returns c = rw (ne_eqb c.args.r.den 0 c.if-r-eq0.false) (ap At c.fraction_of.ensures)
