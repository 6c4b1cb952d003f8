-- `zoom::scale_of`: by the zoom's two cases; a stop up to 16 shifts without loss. Assumes nothing.
use Rattle.std.proofs.Common.{sym, ap, ◌∙◌}
use Rattle.zoom.specs.Zoom.{scale_of}
use Rattle.zoom.proofs.Laws.{stop_refused}
use Rattle.zoom.proofs.Lemmas.Wheels.{stop_shifted}
use Rattle.zoom.proofs.scale_of.Goals as goal

pub returns-in-Stop : goal.returns-in-Stop
unfolding scale_of
returns-in-Stop c = sym (stop_shifted _ c.if-s-le-LAST_STOP.true) ∙ sym (ap scale_of c.in-Stop.is)

pub returns-in-Stop-2 : goal.returns-in-Stop-2
unfolding scale_of
returns-in-Stop-2 c = sym (stop_refused _ c.if-s-le-LAST_STOP.false) ∙ sym (ap scale_of c.in-Stop.is)

pub returns-in-Wheel : goal.returns-in-Wheel
unfolding scale_of
returns-in-Wheel c = c.wheel_scale.ensures ∙ sym (ap scale_of c.in-Wheel.is)
