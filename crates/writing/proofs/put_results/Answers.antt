-- `writing::put_results`: the schedule behind the marks, and the index behind both. Assumes nothing.
use Prim.Native.Nat.{◌*◌}
use native.Mathlib.Omega.{arith}
use lib.ListN.{drop}
use lib.Seq.{length-take-le}
use Rattle.scheduling.specs.Behind.{reel_in}
use Rattle.jobs.proofs.Laws.Scheduling.{results_are}
use Rattle.writing.proofs.put_results.Goals as goal

pub returns : goal.returns
returns c =
    let b = c in
    let w = b in
    let a = w in
    let n = a.args.n in
    let held = a.args.all.now in
    results_are (reel_in a.args.edition a.args.shape (drop a.args.at held) held n) held (length-take-le (11 * n) held (omega (arith, a.requires.2, a.requires.3)))
    w.schedule_behind.ensures b.build.ensures
