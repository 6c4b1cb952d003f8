-- `judging::trial::Trial::is_large_clear` meets its contract: what is listed are marks. Assumes nothing.
use mathlib.Core.Path.{◌≡◌, ◌∙◌}
use lib.ListN.{get_or}
use Prim.Native.Nat.{◌<◌}
use native.Mathlib.Omega.{arith}
use Rattle.std.proofs.Common.{rules}
use Rattle.std.proofs.lemmas.Grind.{get_or_default_zero}
use Rattle.std.proofs.lemmas.Iterator.{YieldsList-from_slice}
use Rattle.std.proofs.lemmas.Iterator.Adapters.{serves_from_places}
use Rattle.judging.proofs.trial.Trial.is_large_clear.Goals as goal

pub all-requires-clause-callable : goal.all-requires-clause-callable
all-requires-clause-callable c =
    serves_from_places (YieldsList-from_slice c.args.large.now cc) (λ x q k. search rules) (λ x k l e.
    let is : x.now ≡ get_or c.args.large.now k 0 = e ∙ get_or_default_zero c.args.large.now k x.now l in
    let marked : x.now < c.args.self.now.proposal.reel.count = omega (arith, is, c.requires.1 k l) in
    search rules)
