-- `Accepted::reel` meets its contract: the parts are those of the sheet, which fit one another. Assumes nothing.
use mathlib.Core.Path.{◌≡◌, ap, ◌∙◌}
use Rattle.contents.specs.Contents.{split, marks_part, popups_part}
use Rattle.parts.specs.Questions.{choice_in}
use Rattle.bodies.specs.Questions.{count_of}
use Rattle.bodies.specs.Fitting.{Fitting}
use Rattle.bodies.proofs.Laws.{popups_good}
use Rattle.sheet.proofs.Laws.{accepted_iff, layout_part}
use Rattle.sheet.proofs.accepted.Accepted.reel.Goals as goal
use Rattle.sheet.proofs.accepted.Accepted.reel.Goals.{After-cut-3}

fits : (h : After-cut-3) → Fitting (split h.args.self.now.bytes.now)
fits h = ((accepted_iff h.args.self.now.bytes.now).0 h.args.self.now.passed).fitting

marks_are : (h : After-cut-3) → h.cut-marks.result.now ≡ marks_part (split h.args.self.now.bytes.now)
marks_are h = h.cut-marks.ensures ∙ layout_part h.args.self.now.bytes.now h.args.self.now.passed h.args.self.now.laid 1

popups_are : (h : After-cut-3) → h.cut-3.result.now ≡ popups_part (split h.args.self.now.bytes.now)
popups_are h = h.cut-3.ensures ∙ layout_part h.args.self.now.bytes.now h.args.self.now.passed h.args.self.now.laid 5

pub invariant_of-result : goal.invariant_of-result
invariant_of-result c =
    let h = (goal.at.invariant_of-result c).After-cut-3 in
    record { good = rw (marks_are h) (fits h).marks }

pub returns-clause-reel : goal.returns-clause-reel
returns-clause-reel c =
    let h = (goal.at.returns-clause-reel c).After-cut-3 in
    let s = c.args.self.now.bytes.now in
    let edition = c.choice_of.ensures ∙ ap choice_in (c.cut.ensures ∙ layout_part s c.args.self.now.passed c.args.self.now.laid 4) in
    let shape = c.choice_of-2.ensures ∙ ap choice_in (c.cut-2.ensures ∙ layout_part s c.args.self.now.passed c.args.self.now.laid 7) in
    rw (marks_are h, edition, shape, popups_are h)

pub returns-clause-popped : goal.returns-clause-popped
returns-clause-popped c =
    let h = (goal.at.returns-clause-popped c).After-cut-3 in
    let parts = split c.args.self.now.bytes.now in
    rw (marks_are h, popups_are h) (popups_good parts (count_of parts) (fits h).popups_right)
