-- `marks::radius_at` meets its contract: the used radius of the two fields read. Assumes nothing.
use mathlib.Core.Path.{ap₂, ◌∙◌}
use Rattle.marks.specs.Marks.{used_radius}
use Rattle.marks.proofs.radius_at.Goals as goal

pub returns : goal.returns
returns c =
    c.used_radius.ensures
    ∙ ap₂ used_radius c.written_radius_at.ensures c.kind_at.ensures
