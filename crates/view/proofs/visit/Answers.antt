-- `view::visit` meets its contract: one bit is set, or none. Assumes nothing.
use mathlib.Core.Path.{sym, ◌∙◌}
use native.Mathlib.Omega.{arith}
use Rattle.lists.proofs.TestLaws.{bit_false}
use Rattle.view.proofs.Lemmas.Bits.{set_nothing, set_none, set_one}
use Rattle.view.proofs.visit.Goals as goal

pub returns-then-is_visible : goal.returns-then-is_visible
returns-then-is_visible c =
    set_one _ _ (sym c.is_visible.ensures ∙ c.if-is_visible.true) c.set_bit.ensures

pub returns-else-is_visible : goal.returns-else-is_visible
returns-else-is_visible c = set_none _ _ (omega (arith, bit_false (sym c.is_visible.ensures ∙ c.if-is_visible.false))) (set_nothing _ _)
