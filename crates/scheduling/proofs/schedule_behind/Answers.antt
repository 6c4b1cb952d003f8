-- `scheduling::schedule_behind` meets its contract: the marks and the popups are lent, and then the room behind the marks. Assumes nothing.
use Prim.Native.Nat.{ℕ, ◌*◌, ◌-◌}
use mathlib.Core.List.{List}
use mathlib.Core.Path.{◌≡◌, refl}
use lib.ListN.{length, take, drop, length-drop}
use lib.Seq.{take_all}
use native.Mathlib.Omega.{arith}
use Rattle.marks.specs.Marks.{mark_size}
use Rattle.elimination.specs.Reel.{schedule_of}
use Rattle.scheduling.proofs.Filling.{ordered, numbered, rows_small}
use Rattle.scheduling.proofs.Behind.{behind, lent_long}
use Rattle.scheduling.proofs.schedule_behind.Goals as goal

-- all that is behind `at`
rest_is : (a : List ℕ) (at : ℕ) → take (length a - at) (drop at a) ≡ drop at a
rest_is a at = take_all (length a - at) (drop at a) (omega (arith, length-drop at a))

pub publish-requires : goal.publish-requires
publish-requires c =
    let rows = c.put_ranked.ensures.in_rank in
    let r = c.of-rows.ensures in
    record {
      long = rw r.0 (omega (arith, c.put_ranked.ensures.long, c.requires.1), lent_long c.args.all.now c.args.n c.requires.2);
      rows_small = rw r.0 (rows_small rows c.of-rows.result.popped (λ i h. (c.requires.0.each i h).used) (rw (rest_is c.args.all.now c.args.at) c.requires.4) r.2, numbered rows);
    }

pub returns : goal.returns
unfolding schedule_of
returns c =
    let held = c.args.all.now in
    let r = c.of-rows.ensures in
    let s = rw (r.0, r.1) at c.publish.ensures.records_are _ _ (ordered c.put_ranked.ensures.in_rank c.args.shape c.requires.0.few) in
    behind c.args.edition c.args.shape (drop c.args.at held) held c.args.n (mark_size * c.args.n) (length held - mark_size * c.args.n) refl refl
    (rw (← rest_is held c.args.at) s)
