-- `packed::is_packed`: the tests of question 15. Assumes nothing.
use Rattle.packed.specs.Packed.{is_packed}
use Rattle.packed.proofs.is_packed.Goals as goal

pub returns : goal.returns
unfolding is_packed
returns c =
    let at-is-minus = c in
    let at-is-last = at-is-minus in
    let at-are-digits2 = at-is-last in
    let at-are-digits = at-are-digits2 in
    rw (at-are-digits.are_digits.ensures, at-are-digits2.are_digits-2.ensures, at-is-last.is_last.ensures, at-is-minus.is_minus.ensures, c.magnitude.ensures)
