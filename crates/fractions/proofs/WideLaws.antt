-- A number of up to 96 bits in two parts, and that such numbers compare part by part. Assumes nothing.
use Rattle.std.specs.Prelude.{ℕ, ◌+◌, ◌*◌, ◌/◌, ◌%◌, ◌<◌, ◌≡◌, ltb, eqb, ◌&&◌, Some}
use Rattle.std.proofs.Common.{ap, ◌∙◌, sym, arith, mul-le-mul_right, add-mul, mul_right_comm, div-add-mod'}
use Rattle.std.specs.Ordering.{is_lt, is_some_and, partial_ordering_then, nat_cmp}
use Rattle.std.proofs.lemmas.Grind.{common_steps}
use Rattle.std.proofs.lemmas.Bool.Decides.{nat_tests}
use Rattle.fractions.specs.declared.Wide.{Wide}
use Rattle.fractions.specs.Wide.{base, TwoDigits}

-- ---- the product of a number of two digits and one of one digit

pub product_digits : (num den : ℕ)
    → (num / base * den + num % base * den / base) * base + num % base * den % base ≡ num * den
product_digits num den =
    let whole : num * den ≡ num / base * base * den + num % base * den =
    ap (λ (n : ℕ). n * den) (sym (div-add-mod' num base)) ∙ add-mul (num / base * base) (num % base) den in
    omega (arith, mul_right_comm (num / base) base den)

module _ (num den : ℕ) (wide : num < base * base) (narrow : den < base) where
  pub low_fits : num % base * den < base * base
  low_fits = omega (arith, mul-le-mul_right {m = num % base} {n = base} den (omega arith))

  pub high_fits : num / base * den + num % base * den / base < base * base
  high_fits = omega (arith, product_digits num den, mul-le-mul_right {m = num} {n = base * base} den (omega arith))

-- ---- comparing

-- the code's order of two numbers: the high parts decide, and where they are equal the low parts do
module _ {m n : ℕ} {v w : Wide} (a : TwoDigits m v) (b : TwoDigits n w) where
  pub less_wide : is_some_and is_lt (partial_ordering_then (Some (nat_cmp v.high w.high)) (Some (nat_cmp v.low w.low))) ≡ ltb m n
  less_wide = grind (arith, nat_tests, common_steps)

  pub same_wide : eqb v.high w.high && eqb v.low w.low ≡ eqb m n
  same_wide = grind (arith, nat_tests, common_steps)
