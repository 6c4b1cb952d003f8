-- `judging::list_large` meets its contract: while the loop runs, the large ones of the marks before m are listed. Assumes nothing.
use mathlib.Core.Path.{◌≡◌, refl, ap}
use native.Mathlib.Omega.{arith}
use lib.Dec.{ltb}
use lib.ListN.{length-set}
use Rattle.lists.proofs.TestLaws.{bit_small}
use Rattle.judging.proofs.Lemmas.Listing.{listed_more}
use Rattle.judging.proofs.list_large.Goals as goal

pub loop-m-preserved : goal.loop-m-preserved
loop-m-preserved c = (
  omega (arith, c.from-k.ensures, bit_small (ltb c.args.bound c.radius_at.result)),
  simp length-set c.loop-m.invariant.1,
  rw c.from-k.ensures
      (listed_more (omega arith) (omega (arith, c.loop-m.invariant.1)) refl (ap (ltb c.args.bound) c.radius_at.ensures) c.loop-m.invariant.2),
)

pub returns : goal.returns
returns c =
    let q : c.loop-m.m ≡ c.args.reel.now.count = omega arith in
    record { fits = omega arith; listed = rw q at c.loop-m.invariant.2 }
