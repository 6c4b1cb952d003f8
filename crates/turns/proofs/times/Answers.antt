-- `turns::times` meets its contract: its entries are what `product_at` gives. Assumes nothing.
use Rattle.turns.specs.Turns.{times}
use Rattle.turns.proofs.Signed.{passed}
use Rattle.turns.proofs.times.Goals as goal

pub returns : goal.returns
unfolding times
returns c =
    rw (
      passed c.product_at.type_inv c.product_at.ensures,
      passed c.product_at-2.type_inv c.product_at-2.ensures,
      passed c.product_at-3.type_inv c.product_at-3.ensures,
      passed c.product_at-4.type_inv c.product_at-4.ensures,
    )
