-- `contents::has_codes` meets its contract: the codes in the array are the sheet's. Assumes nothing.
use mathlib.Core.Path.{sym, ap, ◌∙◌}
use lib.Seq.{length-take-le}
use Rattle.contents.specs.Questions.{codes_right}
use native.Mathlib.Omega.{arith}
use Rattle.contents.proofs.has_codes.Goals as goal

pub slice_bounds-codes_right-end : goal.slice_bounds-codes_right-end
slice_bounds-codes_right-end c = sym (length-take-le c.count_at-count.result c.codes_of-codes.result (omega (arith, c.codes_of-codes.ensures.0, c.count_at-count.ensures, c.requires.few)))

pub returns : goal.returns
returns c =
    let count = c.count_at-count.ensures in
    c.codes_right.ensures ∙ ap codes_right (rw count c.codes_of-codes.ensures.1)
