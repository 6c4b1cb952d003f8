-- `writing::put_sheet`: the sheet up to parts 6 and 7, then the counts, read from it, where they are wanted, and part 7. Assumes nothing.
use Rattle.std.specs.Prelude.{ℕ, ◌+◌, ◌*◌, ◌≡◌, Bool, true, false, cond, List, [], is_some, length}
use Rattle.std.proofs.Common.{refl, ap, ◌∙◌, arith}
use Rattle.contents.specs.Contents.{Part, popups_part}
use Rattle.parts.specs.Questions.{mark_count}
use Rattle.jobs.specs.Jobs.{new_schedule, new_counts}
use Rattle.jobs.proofs.Laws.Scheduling.{lent_good, lent_size, popups_read, counts_read, sheet_put}
use Rattle.counting.proofs.Laws.{counts_length}
use Rattle.writing.specs.Pieces.{joined, joined_if}
use Rattle.writing.specs.Requests.{kept_of, begin_of}
use Rattle.writing.proofs.put_sheet.Goals as goal
use Rattle.writing.proofs.put_sheet.Goals.{After-put_scheduled-start}

-- where the popups begin, and end
from_is : (c : After-put_scheduled-start)
    → c.put_scheduled-start.result.0 + 27 * c.args.request.now.count + length c.args.request.now.edition.now
    ≡ begin_of c.args.request.now + 27 * c.args.request.now.count + length c.args.request.now.edition.now
from_is c = omega (arith, c.put_scheduled-start.ensures.start)

end_is : (c : After-put_scheduled-start)
    → c.put_scheduled-start.result.1
    ≡ c.put_scheduled-start.result.0 + 27 * c.args.request.now.count + length c.args.request.now.edition.now + length (joined_if c.args.request.now.popups)
end_is c = omega (arith, c.put_scheduled-start.ensures.start, c.put_scheduled-start.ensures.end)

-- the counts, where they are wanted
if_same : (counted : Bool) {x y : List ℕ} → x ≡ y → cond counted x [] ≡ cond counted y []
if_same true e = e
if_same false e = refl

if_sized : (counted : Bool) (s : List ℕ) (kept : List Part) → length (cond counted (new_counts s kept) []) ≡ cond counted 170 0
if_sized true s kept = counts_length s (new_schedule s kept) (popups_part kept) (mark_count s)
if_sized false s kept = refl

pub put_counts-end-requires : goal.put_counts-end-requires
put_counts-end-requires c =
    let p = (goal.at.put_counts-end-requires c).After-put_scheduled-start in
    let r = c.args.request.now in (
      r.taken.good.few,
      omega arith,
      omega (arith, end_is p),
      omega (arith, lent_size r.taken r.counted, c.requires.1, c.put_scheduled-start.ensures.end),
      rw (c.put_scheduled-start.ensures.written, popups_read r.taken r.counted c.args.out.now (from_is p) (end_is p)) (lent_good (is_some r.popups) r.taken.popups_lent),
    )

pub put-requires : goal.put-requires
put-requires c =
    let r = c.args.request.now in
    omega (arith, lent_size r.taken r.counted, c.requires.1, c.put_scheduled-start.ensures.end, c.put_counts-end.ensures.0)

pub returns : goal.returns
returns c =
    let p = (goal.at.returns c).After-put_scheduled-start in
    let r = c.args.request.now in
    let counts = if_same r.counted (counts_read r.taken r.counted c.args.out.now c.put_scheduled-start.ensures.start (from_is p) (end_is p)) in
    let sized = if_sized r.counted (joined r.marks) (kept_of r) in
    sheet_put r.taken r.counted c.args.out.now c.requires.1 counts c.put_scheduled-start.ensures.end
    (rw c.put_scheduled-start.ensures.written at c.put_counts-end.ensures.1)
    (c.put_counts-end.ensures.0 ∙ omega (arith, ap length counts, sized)) c.put.ensures.1
