-- The two digits of `num` are multiplied one after the other: the laws of Wide say that each part fits, and that together they are the product.
use borrow.Author.Rules.{rules}
use native.Mathlib.Omega.{arith}
use Rattle.fractions.proofs.WideLaws.{product_digits, low_fits, high_fits}
use Rattle.fractions.proofs.product.Goals as goal

pub overflow_mul-low : goal.overflow_mul-low
overflow_mul-low c = omega (arith, low_fits c.args.num c.args.den (search rules) (search rules))

pub overflow_mul-result : goal.overflow_mul-result
overflow_mul-result c = omega (arith, high_fits c.args.num c.args.den (search rules) (search rules))

pub overflow_add-result : goal.overflow_add-result
overflow_add-result c = omega (arith, high_fits c.args.num c.args.den (search rules) (search rules))

pub returns : goal.returns
returns c = record { digits = product_digits c.args.num c.args.den; low_digit = omega arith }
