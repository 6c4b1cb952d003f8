-- `writing::put_scheduled`: the contents, the marks and parts 4 and 5 are written, and parts 2 and 3 between them. Assumes nothing.
use Rattle.std.specs.Prelude.{◌≡◌, ◌+◌, ◌-◌, ◌*◌, ◌≤◌, is_some, length}
use Rattle.std.proofs.Common.{arith}
use Rattle.jobs.proofs.Laws.Scheduling.{lent_good, lent_size, Standing, standing}
use Rattle.writing.specs.Pieces.{joined, joined_if}
use Rattle.writing.specs.Requests.{begin_of}
use Rattle.writing.proofs.put_scheduled.Goals as goal
use Rattle.writing.proofs.put_scheduled.Goals.{After-put_head-start, After-put_if-end}

-- where the marks begin, and where what is kept begins and ends
begin : (c : After-put_head-start) → c.put_head-start.result ≡ begin_of c.args.request.now
begin c = rw c.is_some.ensures at c.put_head-start.ensures.0

from_start : (c : After-put_if-end) → c.put-from.result - c.put_head-start.result ≡ 27 * c.args.request.now.count + length c.args.request.now.edition.now
from_start c = omega (arith, c.put-from.ensures.0)

ended : (c : After-put_if-end)
    → c.put_if-end.result
    ≡ begin_of c.args.request.now + 27 * c.args.request.now.count + length c.args.request.now.edition.now + length (joined_if c.args.request.now.popups)
ended c = omega (arith, c.put-from.ensures.0, c.put_if-end.ensures.0, rw c.is_some.ensures at c.put_head-start.ensures.0)

room : (c : After-put_head-start)
    → begin_of c.args.request.now + 27 * c.args.request.now.count + length c.args.request.now.edition.now + length (joined_if c.args.request.now.popups)
    ≤ length c.args.out.now
room c = omega (arith, lent_size c.args.request.now.taken c.args.request.now.counted, c.requires.1)

stands : (c : After-put_if-end)
    → Standing (joined c.args.request.now.marks) c.args.request.now.count c.args.request.now.edition.now (is_some c.args.request.now.popups) (joined_if c.args.request.now.popups) c.args.request.now.shape.now c.args.request.now.counted c.args.out.now c.put_if-end.new.out
    c.put_head-start.result c.put_if-end.result
stands c =
    let h = rw c.is_some.ensures at c.put_head-start.ensures in
    standing c.args.request.now.taken c.args.request.now.counted c.args.out.now
    (omega (arith, lent_size c.args.request.now.taken c.args.request.now.counted, c.requires.1))
    h.1 (rw h.0 at c.put.ensures.1) (rw h.0 at c.put-from.ensures.1)
    (rw (c.put-from.ensures.0, h.0) at c.put_if-end.ensures.1) h.0 (ended c)

pub put-from-requires : goal.put-from-requires
put-from-requires c =
    let p = (goal.at.put-from-requires c).After-put_head-start in
    omega (arith, room p, begin p)

pub put_if-end-requires : goal.put_if-end-requires
put_if-end-requires c =
    let p = (goal.at.put_if-end-requires c).After-put_head-start in
    omega (arith, room p, begin p, c.put-from.ensures.0)

pub slice_bounds-put_results-end : goal.slice_bounds-put_results-end
slice_bounds-put_results-end c =
    omega (
      arith,
      room (goal.at.slice_bounds-put_results-end c).After-put_head-start,
      ended (goal.at.slice_bounds-put_results-end c).After-put_if-end,
    )

pub put_results-requires : goal.put_results-requires
put_results-requires c =
    let p = (goal.at.put_results-requires c).After-put_if-end in
    let r = c.args.request.now in
    let st = stands p in
    let at : c.put-from.result - c.put_head-start.result ≡ 27 * r.count + length r.edition.now = from_start p in (
      rw st.marks r.taken.good,
      c.requires.0,
      omega (arith, at),
      omega (arith, at, st.long),
      rw (at, st.popups) (lent_good (is_some r.popups) r.taken.popups_lent),
    )

pub returns-clause-written : goal.returns-clause-written
returns-clause-written c =
    let p = (goal.at.returns-clause-written c).After-put_if-end in
    let st = stands p in
    st.put _ (rw (st.marks, from_start p, st.popups, c.choice_of.ensures, c.choice_of-2.ensures) at c.put_results.ensures)
