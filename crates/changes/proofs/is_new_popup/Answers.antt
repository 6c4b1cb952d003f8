-- `changes::is_new_popup` meets its contract. Assumes nothing.
use mathlib.Core.Path.{sym, ◌∙◌}
use Rattle.changes.proofs.is_new_popup.Goals as goal

pub returns-then-there : goal.returns-then-there
returns-then-there c = rw (sym c.is_popup.ensures ∙ c.if-is_popup.true, c.if-there.true)

pub returns-else-there : goal.returns-else-there
returns-else-there c = rw (sym c.is_popup.ensures ∙ c.if-is_popup.true, c.if-there.false)

pub returns-else-is_popup : goal.returns-else-is_popup
returns-else-is_popup c = rw (sym c.is_popup.ensures ∙ c.if-is_popup.false) c.if-is_popup.false
