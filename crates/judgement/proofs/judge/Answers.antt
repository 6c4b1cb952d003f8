-- `judgement::judge`: each way out by the question that ended it. Assumes nothing.
use Prim.Native.Nat.{ℕ}
use mathlib.Core.Path.{◌≡◌, refl, sym, ◌∙◌}
use mathlib.Core.Bool.{Bool}
use mathlib.Core.List.{List}
use Rattle.std.proofs.lemmas.Result.{err_from_is_err_and}
use Rattle.numbers.specs.Little.{Bytes}
use Rattle.elimination.specs.Reel.{Reel}
use Rattle.contents.specs.Contents.{split, schedule_part, index_part}
use Rattle.contents.specs.Asking.{answer}
use Rattle.contents.proofs.Laws.{numbered_from_one}
use Rattle.bodies.specs.Questions.{reel_of}
use Rattle.sheet.specs.Questions.{indexed_questions}
use Rattle.sheet.proofs.Laws.{indexed_iff, indexed_number, indexed_layout, layout_part}
use Rattle.judging.specs.Judge.{judge_schedule}
use Rattle.judging.specs.Search.{Judgeable}
use Rattle.jobs.specs.declared.Answer.{Answer}
use Rattle.jobs.specs.Answers.{answer_of}
use Rattle.jobs.specs.Jobs.{question22, judge_job}
use Rattle.jobs.specs.Judged.{MeetsJudging}
use Rattle.jobs.proofs.Judged.{judge_meets}
use Rattle.jobs.proofs.Laws.Judging.{judge_refused, judge_no, judge_yes, judgeable}
use Rattle.judgement.proofs.judge.Goals as goal
use Rattle.judgement.proofs.judge.Goals.{In_ok-layout, After-judge}

-- 1 to 10 were answered with yes
indexed : (c : In_ok-layout) → answer (indexed_questions c.args.sheet.now) ≡ 0
indexed c = sym (indexed_number _ c.in_ok-layout.ensures)

-- the schedule that was cut out is the sheet's
schedule_is : (c : After-judge) → c.cut-schedule.result.now ≡ schedule_part (split c.args.sheet.now)
schedule_is c =
    let ok = sym (indexed_number _ c.in_ok-layout.ensures) in
    c.cut-schedule.ensures ∙ layout_part _ ((indexed_iff _).0 ok).0 (indexed_layout _ c.in_ok-layout.ensures ok) 2

-- the judge may be asked about the sheet's own reel and parts
may_judge : (s : List ℕ) → answer (indexed_questions s) ≡ 0 → {r : Reel} {schedule index : List ℕ} → r ≡ reel_of (split s) → schedule ≡ schedule_part (split s)
    → index ≡ index_part (split s) → Judgeable r schedule index
may_judge s ok e f g = rw (e, f, g) (judgeable s ok)

-- and says what 22 asks
said : (s : List ℕ) {r : Reel} {schedule : List ℕ} {yes : Bool} → r ≡ reel_of (split s) → schedule ≡ schedule_part (split s) → yes ≡ judge_schedule r schedule
    → question22 (split s) ≡ yes
unfolding question22
said s e f g = sym (rw (e, f) at g)

-- what a way out answers, with what is claimed of it
whole : (s : List ℕ) → Bytes s → {r : Answer} → r ≡ answer_of (judge_job s) → (r ≡ answer_of (judge_job s)) × MeetsJudging s r
whole s bytes e = (e, judge_meets s bytes e)

pub returns-in_err-layout : goal.returns-in_err-layout
returns-in_err-layout c =
    let out = err_from_is_err_and c.from_residual.result c.from_residual.ensures.1 in
    rw (out.1, out.2)
    (whole c.args.sheet.now (λ i. (c.type_inv.sheet i).fits)
    (judge_refused _ (indexed_number _ c.in_err-layout.ensures) (numbered_from_one _) refl))

pub invariant_of-accepted : goal.invariant_of-accepted
invariant_of-accepted c =
    let ok = sym (indexed_number _ c.in_ok-layout.ensures) in
    record { passed = ((indexed_iff _).0 ok).0; laid = indexed_layout _ c.in_ok-layout.ensures ok }

pub judge-requires : goal.judge-requires
judge-requires c =
    let s = c.args.sheet.now in
    let ok = indexed (goal.at.judge-requires c).In_ok-layout in
    let part = layout_part s ((indexed_iff _).0 ok).0 (indexed_layout _ c.in_ok-layout.ensures ok) in
    may_judge s ok c.reel-reel.ensures.reel (c.cut-schedule.ensures ∙ part 2) (c.cut-index.ensures ∙ part 3)

pub returns-then-not-judge : goal.returns-then-not-judge
returns-then-not-judge c =
    let s = c.args.sheet.now in
    let yes = said s c.reel-reel.ensures.reel (schedule_is (goal.at.returns-then-not-judge c).After-judge) c.judge.ensures in
    whole s (λ i. (c.type_inv.sheet i).fits) (judge_no s (indexed (goal.at.returns-then-not-judge c).In_ok-layout) (yes ∙ c.if-not-judge.true) refl)

pub returns : goal.returns
returns c =
    let s = c.args.sheet.now in
    let yes = said s c.reel-reel.ensures.reel (schedule_is (goal.at.returns c).After-judge) c.judge.ensures in
    whole s (λ i. (c.type_inv.sheet i).fits) (judge_yes s (indexed (goal.at.returns c).In_ok-layout) (yes ∙ c.if-not-judge.false) refl)
