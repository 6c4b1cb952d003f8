-- `scheduling::schedule` meets its contract: the rows are the marks in the order of rank, and their records go out. Assumes nothing.
use native.Mathlib.Omega.{arith}
use Rattle.elimination.specs.Reel.{schedule_of}
use Rattle.scheduling.proofs.Filling.{ordered, numbered, rows_small}
use Rattle.scheduling.proofs.schedule.Goals as goal

pub publish-requires : goal.publish-requires
publish-requires c =
    let p = c.requires in
    let rows = c.put_ranked.ensures.in_rank in
    let r = c.of.ensures in
    record {
      long = rw r.0 (omega (arith, c.put_ranked.ensures.long, p.work_room), p.out_room);
      rows_small = rw r.0 (rows_small rows c.of.result.popped (λ i h. (p.good.each i h).used) p.popped r.2, numbered rows);
    }

pub returns : goal.returns
unfolding schedule_of
returns c =
    let p = c.requires in
    let r = c.of.ensures in
    rw (r.0, r.1) at c.publish.ensures.records_are _ _ (ordered c.put_ranked.ensures.in_rank c.args.reel.now.shape p.good.few)
