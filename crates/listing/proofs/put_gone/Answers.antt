-- `listing::put_gone` meets its contract: each number ends at most `number_room` bytes behind the last, so that there is room for five; together they
-- are the line. Assumes nothing.
use native.Mathlib.Omega.{arith}
use Rattle.listing.proofs.Laws.{number_ends, gone_line}
use Rattle.listing.proofs.put_gone.Goals as goal

-- Each next number starts at most `number_room` bytes behind the last.
pub put_number-third-requires : goal.put_number-third-requires
put_number-third-requires c =
    let e₁ = number_ends _ _ c.put_number-second.ensures in
    omega (arith, e₁.0, e₁.1, c.requires.0)

pub put_number-fourth-requires : goal.put_number-fourth-requires
put_number-fourth-requires c =
    let e₁ = number_ends _ _ c.put_number-second.ensures in
    let e₂ = number_ends _ _ c.put_number-third.ensures in
    omega (arith, e₁.0, e₁.1, e₂.0, e₂.1, c.requires.0)

pub put_number-fifth-requires : goal.put_number-fifth-requires
put_number-fifth-requires c =
    let e₁ = number_ends _ _ c.put_number-second.ensures in
    let e₂ = number_ends _ _ c.put_number-third.ensures in
    let e₃ = number_ends _ _ c.put_number-fourth.ensures in
    omega (arith, e₁.0, e₁.1, e₂.0, e₂.1, e₃.0, e₃.1, c.requires.0)

pub put_number-requires : goal.put_number-requires
put_number-requires c =
    let e₁ = number_ends _ _ c.put_number-second.ensures in
    let e₂ = number_ends _ _ c.put_number-third.ensures in
    let e₃ = number_ends _ _ c.put_number-fourth.ensures in
    let e₄ = number_ends _ _ c.put_number-fifth.ensures in
    omega (arith, e₁.0, e₁.1, e₂.0, e₂.1, e₃.0, e₃.1, e₄.0, e₄.1, c.requires.0)

pub returns : goal.returns
returns c =
    let last = rw c.zoom_nearest.ensures at c.put_number.ensures in
    gone_line _ _ _ c.put_number-second.ensures c.put_number-third.ensures c.put_number-fourth.ensures c.put_number-fifth.ensures last
