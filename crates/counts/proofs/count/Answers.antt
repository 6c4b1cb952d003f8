-- `counts::count`: each way out by the question that ended it; a sheet with part 6 as it is, and any other with its counts. Assumes nothing.
use mathlib.Core.Path.{◌≡◌, refl, sym, ◌∙◌}
use mathlib.Core.Bool.{true}
use Prim.Native.Nat.{ℕ}
use Rattle.std.proofs.lemmas.Result.{err_from_is_err_and}
use Rattle.contents.specs.Contents.{has, split}
use Rattle.contents.specs.Places.{is_there}
use Rattle.contents.proofs.Laws.{numbered_from_one}
use Rattle.sheet.specs.Questions.{check}
use Rattle.sheet.proofs.Laws.{found_number, found_layout, layout_there}
use Rattle.jobs.specs.Jobs.{with_own_counts}
use Rattle.jobs.proofs.Laws.Counting.{counted_same}
use Rattle.jobs.proofs.Laws.Counted.{count_whole, count_refused, count_unscheduled, count_roomed, sheet_small}
use Rattle.counts.proofs.count.Goals as goal
use Rattle.counts.proofs.count.Goals.{In_ok-layout}

-- 1 to 9 were answered with yes
accepted : (c : In_ok-layout) → check c.args.sheet.now ≡ 0
accepted c = sym (found_number _ c.in_ok-layout.ensures)

there : (c : In_ok-layout) (code : ℕ) → is_there c.in_ok-layout.layout code ≡ has (split c.args.sheet.now) code
there c code = layout_there _ (accepted c) (found_layout _ c.in_ok-layout.ensures (accepted c)) code

pub returns-in_err-layout : goal.returns-in_err-layout
returns-in_err-layout c =
    let out = err_from_is_err_and c.from_residual.result c.from_residual.ensures.1 in
    let w = count_whole (λ i. (c.type_inv.sheet i).fits) {before = c.args.out.now}
    (count_refused c.args.sheet.now _ (found_number _ c.in_err-layout.ensures) (numbered_from_one _) refl) in
    rw (out.1, out.2) (record { gives = w.0; meets_counting = w.1 })

pub returns-then-not-is_there : goal.returns-then-not-is_there
returns-then-not-is_there c =
    let k = (goal.at.returns-then-not-is_there c).In_ok-layout in
    let w = count_whole (λ i. (c.type_inv.sheet i).fits) {before = c.args.out.now}
    (count_unscheduled c.args.sheet.now _ (accepted k) (sym (c.is_there.ensures ∙ there k 2) ∙ c.if-not-is_there.true) refl) in
    record { gives = w.0; meets_counting = w.1 }

pub copied-requires : goal.copied-requires
copied-requires c = sheet_small c.args.sheet.now (accepted (goal.at.copied-requires c).In_ok-layout) (λ i. (c.type_inv.sheet i).fits)

pub returns-then-is_there : goal.returns-then-is_there
returns-then-is_there c =
    let k = (goal.at.returns-then-is_there c).In_ok-layout in
    let s = c.args.sheet.now in
    let ok = accepted k in
    let two : has (split s) 2 ≡ true = sym (c.is_there.ensures ∙ there k 2) ∙ c.if-not-is_there.false in
    let six : has (split s) 6 ≡ true = sym (c.is_there-2.ensures ∙ there k 6) ∙ c.if-is_there.true in
    let w = count_whole (λ i. (c.type_inv.sheet i).fits) {before = c.args.out.now}
    (count_roomed s _ ok two s (counted_same s ok two (λ i. (c.type_inv.sheet i).fits) six) c.copied.ensures) in
    record { gives = w.0; meets_counting = w.1 }

pub invariant_of-put_counted : goal.invariant_of-put_counted
invariant_of-put_counted c = record { passed = sym (found_number _ c.in_ok-layout.ensures); laid = found_layout _ c.in_ok-layout.ensures (sym (found_number _ c.in_ok-layout.ensures)) }

pub put_counted-requires : goal.put_counted-requires
put_counted-requires c =
    let k = (goal.at.put_counted-requires c).In_ok-layout in (
      λ i. (c.type_inv.sheet i).fits,
      sym (c.is_there.ensures ∙ there k 2) ∙ c.if-not-is_there.false,
      sym (c.is_there-2.ensures ∙ there k 6) ∙ c.if-is_there.false,
    )

pub returns : goal.returns
returns c =
    let k = (goal.at.returns c).In_ok-layout in
    let s = c.args.sheet.now in
    let w = count_whole (λ i. (c.type_inv.sheet i).fits) {before = c.args.out.now}
    (count_roomed s _ (accepted k) (sym (c.is_there.ensures ∙ there k 2) ∙ c.if-not-is_there.false) (with_own_counts s) refl c.put_counted.ensures) in
    record { gives = w.0; meets_counting = w.1 }
