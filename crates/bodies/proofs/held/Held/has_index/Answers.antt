-- `bodies::held::Held::has_index` meets its contract: where part 3 is there so is part 2, and both have their sizes. Assumes nothing.
use mathlib.Core.Path.{ap, sym, ◌≡◌, ◌∙◌}
use mathlib.Core.Bool.{true}
use native.Mathlib.Omega.{arith}
use lib.ListN.{length}
use Rattle.contents.specs.Contents.{has}
use Rattle.contents.proofs.Laws.{two_there}
use Rattle.bodies.specs.Held.{parts_of}
use Rattle.bodies.specs.Questions.{question9}
use Rattle.contents.proofs.Laws.{has_named}
use Rattle.bodies.proofs.Lemmas.Fitting.{sizes_iff}
use Rattle.bodies.proofs.held.Held.has_index.Goals as goal

pub returns-in_default : goal.returns-in_default
unfolding question9
returns-in_default c = rw (← c.in_default.ensures.there)

pub is_index-requires : goal.is_index-requires
is_index-requires c =
    let held = c.args.self.now in
    let parts = parts_of held in
    let named = has_named held.codes.now held.bodies.now held.paired in
    let three : has parts 3 ≡ true = sym c.in-Some.ensures.there in
    let two : has parts 2 ≡ true = named 2 ∙ two_there held.codes.now c.requires.1 (sym (named 3) ∙ three) in
    let sizes = (sizes_iff parts).0 c.requires.0 in
    let good = held.marked in
    record {
      few = good.marks.few;
      marks_long = omega (arith, ap length c.part.ensures, good.marks.there);
      schedule_long = omega (arith, ap length c.part-2.ensures, sizes.0 two, good.counted);
      index_long = omega (arith, ap length c.in-Some.ensures.body, sizes.1 three, good.counted);
    }

pub returns : goal.returns
unfolding question9
returns c =
    rw (← c.in-Some.ensures.there)
    (c.is_index.ensures ∙ rw (c.part.ensures, c.part-2.ensures, c.in-Some.ensures.body, c.args.self.now.marked.counted))
