-- `steps::schedule_marks`: question 13, and then the sheet as it was written. Assumes nothing.
use Rattle.std.specs.Prelude.{ℕ, ◌+◌, ◌*◌, ◌≤◌, ◌≡◌, Bool, true, false, cond, is_some, length}
use Rattle.std.proofs.Common.{refl, sym, ap, ◌∙◌, arith, rules}
use Rattle.contents.specs.Contents.{has}
use Rattle.jobs.specs.declared.Answer.{Answer}
use Rattle.jobs.specs.Jobs.{has_room}
use Rattle.jobs.proofs.Laws.Kept.{kept_uncounted, lent_kept_size}
use Rattle.jobs.proofs.Laws.Scheduling.{room_there, no_room, sheet_written}
use Rattle.writing.specs.declared.request.Request.{Request}
use Rattle.writing.specs.Pieces.{joined_if}
use Rattle.writing.specs.Requests.{kept_of}
use Rattle.steps.proofs.schedule_marks.Goals as goal
use Rattle.steps.proofs.schedule_marks.Goals.{After-has_room}

uncounted : (r : Request) → has (kept_of r) 6 ≡ false
uncounted r = kept_uncounted r.edition.now (is_some r.popups) (joined_if r.popups) r.shape.now

-- 13, of the size that is asked for
room_is : (c : After-has_room) → has_room c.args.request.now.count (kept_of c.args.request.now) c.args.request.now.counted (length c.args.work.now) (length c.args.out.now) ≡ c.has_room.result
room_is c = sym (rw c.scheduled_size-size.ensures at c.has_room.ensures)

pub returns-then-not-has_room : goal.returns-then-not-has_room
returns-then-not-has_room c =
    let p = (goal.at.returns-then-not-has_room c).After-has_room in
    let r = c.args.request.now in
    record {
      gives = no_room _ r.count r.taken.good.few r.taken.long _ _ (uncounted r) _ _ (room_is p ∙ c.if-not-has_room.true) refl;
      lent = record { long = refl; refused = λ h. refl };
    }

pub put_sheet-requires : goal.put_sheet-requires
put_sheet-requires c =
    let r = c.args.request.now in
    room_there r.count (kept_of r) r.counted _ _ (room_is (goal.at.put_sheet-requires c).After-has_room ∙ c.if-not-has_room.false)

pub overflow_cast-result : goal.overflow_cast-result
overflow_cast-result c =
    let r = c.args.request.now in
    omega (arith, c.scheduled_size-size.ensures, lent_kept_size r.taken, r.taken.edition_short, r.taken.shape_short, r.taken.good.few, rows (is_some r.popups) r.count, counts r.counted)
  where
    rows : (there : Bool) (n : ℕ) → cond there (10 + 4 * n) 0 ≤ 10 + 4 * n
    rows true n = omega arith
    rows false n = omega arith

    counts : (counted : Bool) → cond counted 180 0 ≤ 180
    counts true = omega arith
    counts false = omega arith

pub returns : goal.returns
returns c =
    let p = (goal.at.returns c).After-has_room in
    let r = c.args.request.now in
    record {
      gives =
          sheet_written _ r.count r.taken.good.few r.taken.long _ _ (uncounted r) _ _ (room_is p ∙ c.if-not-has_room.false)
          (ap {B = Answer} (λ (v : ℕ). record { number = 0; value = v }) c.scheduled_size-size.ensures) c.put_sheet.ensures;
      lent = record { long = search rules; refused = λ z. absurd (omega (arith, z)) };
    }
