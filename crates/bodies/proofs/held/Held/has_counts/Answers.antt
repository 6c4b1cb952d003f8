-- `bodies::held::Held::has_counts` meets its contract: where part 6 is there so is part 2, which has its size, and part 5 is right. Assumes nothing.
use mathlib.Core.Path.{ap, sym, ◌≡◌, ◌∙◌}
use mathlib.Core.Bool.{true}
use native.Mathlib.Omega.{arith}
use lib.ListN.{length}
use Rattle.contents.specs.Contents.{has}
use Rattle.contents.proofs.Laws.{six_with_two}
use Rattle.parts.proofs.Laws.{popups_enough}
use Rattle.bodies.specs.Held.{parts_of}
use Rattle.bodies.specs.Questions.{count_of, question23}
use Rattle.contents.proofs.Laws.{has_named}
use Rattle.bodies.proofs.Lemmas.Fitting.{sizes_iff, popups_asked, popups_good}
use Rattle.bodies.proofs.held.Held.has_counts.Goals as goal

pub returns-in_default : goal.returns-in_default
unfolding question23
returns-in_default c = rw (← c.in_default.ensures.there)

pub is_counts-requires : goal.is_counts-requires
is_counts-requires c =
    let held = c.args.self.now in
    let parts = parts_of held in
    let named = has_named held.codes.now held.bodies.now held.paired in
    let six : has parts 6 ≡ true = sym c.in-Some.ensures.there in
    let two : has parts 2 ≡ true = named 2 ∙ six_with_two held.codes.now c.requires.2 (sym (named 6) ∙ six) in
    let long = ((sizes_iff parts).0 c.requires.0).0 two in
    let popped = popups_good parts (count_of parts) ((popups_asked parts).0 c.requires.1) in
    let good = held.marked in
    record {
      n_bound = (
        good.marks.few,
        omega (arith, ap length c.part.ensures, good.marks.there),
        omega (arith, ap length c.part-2.ensures, long, good.counted),
      );
      popups_there = rw (c.part-3.ensures, good.counted) (popups_enough popped);
    }

pub returns : goal.returns
unfolding question23
returns c =
    rw (← c.in-Some.ensures.there)
    (c.is_counts.ensures ∙ rw (c.in-Some.ensures.body, c.part.ensures, c.part-2.ensures, c.part-3.ensures, c.args.self.now.marked.counted))
