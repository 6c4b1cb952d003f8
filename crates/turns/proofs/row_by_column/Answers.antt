-- `turns::row_by_column` meets its contract: within the bounds neither product nor sum leaves 32 bits. Assumes nothing.
use Rattle.turns.proofs.Signed.{product_fits, sum_fits, sum_back}
use Rattle.turns.proofs.row_by_column.Goals as goal

pub overflow_mul-result : goal.overflow_mul-result
overflow_mul-result c = let p = c.requires in product_fits (p.0.each 0) p.1

pub overflow_mul-result-2 : goal.overflow_mul-result-2
overflow_mul-result-2 c = let p = c.requires in product_fits (p.0.each 1) p.2

pub overflow_add-result : goal.overflow_add-result
overflow_add-result c = let p = c.requires in sum_fits (p.0.each 0) (p.0.each 1) p.1 p.2

pub returns : goal.returns
returns c = let p = c.requires in sum_back (p.0.each 0) (p.0.each 1) p.1 p.2
