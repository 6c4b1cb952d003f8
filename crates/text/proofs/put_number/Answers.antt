-- `text::put_number`: the digits that the library writes, and a byte behind them. Assumes nothing.
use Rattle.std.proofs.Common.{◌≡◌, ◌∙◌, arith}
use Rattle.text.specs.Text.{decimal}
use Rattle.text.proofs.Laws.{decimal_bound, decimal_written, wrote_copy, wrote_byte, wrote_then}
use Rattle.text.proofs.put_number.Goals as goal

pub returns : goal.returns
returns c =
    let a = c.args in
    let digits : c.as_bytes-digits.result.now ≡ decimal a.v =
    c.as_bytes-digits.ensures.value ∙ c.format.ensures.text ∙ decimal_written a.v c.ranges.v.fits in
    rw (c.copy_from_slice.ensures.after, digits)
    (wrote_then (wrote_copy a.out.now a.at (decimal a.v) _ (omega (arith, decimal_bound a.v, c.requires)) (omega arith)) (wrote_byte _ _ _))
