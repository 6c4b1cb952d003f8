-- `parts::record_right` meets its contract: each test of the definition in its order; a mark that is named rightly is below n, so its record can be read. Assumes nothing.
use Rattle.std.proofs.Common.{sym, ◌∙◌, arith}
use Rattle.elimination.specs.Lent.{lent}
use Rattle.parts.proofs.Lemmas.Records.{named, right_of_lem}
use Rattle.parts.proofs.record_right.Goals as goal

pub value_at-requires : goal.value_at-requires
value_at-requires c =
    let right = named (lent c.args.reel.now) c.record_at-d.result c.args.m (sym c.names_right.ensures ∙ c.if-names_right.true) in
    omega (arith, right.below)

pub returns-then-is_never : goal.returns-then-is_never
returns-then-is_never c =
    right_of_lem _ _ _ c.record_at-d.ensures (rw (← c.is_never.ensures, c.if-is_never.true))

pub returns-then-names_right : goal.returns-then-names_right
returns-then-names_right c =
    right_of_lem _ _ _ c.record_at-d.ensures
    (rw (
      ← c.is_never.ensures,
      c.if-is_never.false,
      ← c.names_right.ensures,
      c.if-names_right.true,
      c.later.ensures,
      c.value_at.ensures,
      c.value_of.ensures,
    ))

pub returns-else-names_right : goal.returns-else-names_right
returns-else-names_right c =
    right_of_lem _ _ _ c.record_at-d.ensures
    (rw (← c.is_never.ensures, c.if-is_never.false, ← c.names_right.ensures, c.if-names_right.false))
