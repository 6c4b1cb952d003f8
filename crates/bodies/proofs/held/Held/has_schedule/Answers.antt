-- `bodies::held::Held::has_schedule` meets its contract: where part 2 is there its size is right, so its records can be read. Assumes nothing.
use mathlib.Core.Path.{ap, sym, ◌∙◌}
use native.Mathlib.Omega.{arith}
use lib.ListN.{length}
use Rattle.parts.specs.Questions.{choice_in}
use Rattle.bodies.specs.Held.{parts_of}
use Rattle.bodies.specs.Questions.{count_of, question8}
use Rattle.bodies.proofs.Lemmas.Fitting.{sizes_iff, popups_asked, popups_good}
use Rattle.bodies.proofs.held.Held.has_schedule.Goals as goal

pub returns-in_default : goal.returns-in_default
unfolding question8
returns-in_default c = rw (← c.in_default.ensures.there)

pub is_schedule-requires : goal.is_schedule-requires
is_schedule-requires c =
    let held = c.args.self.now in
    let parts = parts_of held in
    let long = ((sizes_iff parts).0 c.requires.0).0 (sym c.in-Some.ensures.there) in
    let popped = popups_good parts (count_of parts) ((popups_asked parts).0 c.requires.1) in
    (rw (c.part-popups.ensures, held.marked.counted) popped, omega (arith, ap length c.in-Some.ensures.body, long, held.marked.counted))

pub returns : goal.returns
unfolding question8
returns c =
    let edition = c.choice_of.ensures ∙ ap choice_in c.part.ensures in
    let shape = c.choice_of-2.ensures ∙ ap choice_in c.part-2.ensures in
    rw (← c.in-Some.ensures.there) (c.is_schedule.ensures
    ∙ rw (c.part-marks.ensures, edition, shape, c.part-popups.ensures, c.in-Some.ensures.body, c.args.self.now.marked.counted))
