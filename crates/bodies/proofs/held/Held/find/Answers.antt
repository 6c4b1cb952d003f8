-- `bodies::held::Held::find` meets its contract: the codes of the parts are those that are held. Assumes nothing.
use mathlib.Core.Path.{sym, ◌∙◌}
use Rattle.contents.proofs.Laws.{has_named}
use Rattle.bodies.proofs.held.Held.find.Goals as goal

pub returns-clause-there : goal.returns-clause-there
returns-clause-there c =
    let held = c.args.self.now in c.body_under.ensures.there ∙ sym (has_named held.codes.now held.bodies.now held.paired c.args.code)
