-- `clashing::limit_at` meets its contract: 'never' exactly where the denominator is 0. Assumes nothing.
use mathlib.Core.Path.{◌≡◌, sym, ap, ◌∙◌}
use borrow.Author.Tests.{eq-eqb, ne_eqb}
use Rattle.fractions.specs.declared.Fraction.{Fraction}
use Rattle.elimination.specs.Records.{fraction_of, fraction_at, value_at}
use Rattle.clashing.specs.Clash.{limit_of}
use Rattle.clashing.proofs.limit_at.Goals as goal
use Rattle.clashing.proofs.limit_at.Goals.{After-fraction_of-f}

read : (c : After-fraction_of-f) → c.fraction_of-f.result ≡ fraction_at c.args.schedule.now c.args.m
read c = c.fraction_of-f.ensures ∙ ap fraction_of c.record_at.ensures

pub returns-then-f-eq0 : goal.returns-then-f-eq0
unfolding limit_of value_at
returns-then-f-eq0 c =
    let is = read (goal.at.returns-then-f-eq0 c).After-fraction_of-f in
    rw (eq-eqb _ _ (ap (λ (f : Fraction). f.den) (sym is) ∙ c.if-f-eq0.true))

pub returns-else-f-eq0 : goal.returns-else-f-eq0
unfolding limit_of value_at
returns-else-f-eq0 c =
    let is = read (goal.at.returns-else-f-eq0 c).After-fraction_of-f in
    rw (ne_eqb _ _ (λ z. c.if-f-eq0.false (ap (λ (f : Fraction). f.den) is ∙ z))) is
