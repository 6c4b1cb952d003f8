-- `steps::scheduled_size`: what is kept takes what each part of it does. Assumes nothing.
use Rattle.std.proofs.Common.{arith}
use Rattle.jobs.proofs.Laws.Kept.{lent_kept_size}
use Rattle.steps.proofs.scheduled_size.Goals as goal

pub returns : goal.returns
returns c =
    let kept = lent_kept_size c.args.request.now.taken in
    rw (kept, ← c.is_some.ensures) (omega (arith, c.size_if.ensures.0, c.size_if-2.ensures.0))
