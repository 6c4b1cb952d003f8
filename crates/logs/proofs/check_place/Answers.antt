-- `logs::check_place`: 15 is asked first, and then 16 of the number that the bytes hold. Assumes nothing.
use Rattle.std.proofs.Common.{◌≡◌, sym, ◌∙◌}
use Rattle.contents.proofs.Laws.{none_asked, asked_yes, asked_no}
use Rattle.packed.specs.Packed.{coordinate_at, packed_at, is_place}
use Rattle.logs.proofs.check_place.Goals as goal

pub returns-then-not-is_packed : goal.returns-then-not-is_packed
returns-then-not-is_packed c =
    let packed : c.is_packed.result ≡ packed_at c.args.s.now c.args.at = rw c.coordinate.ensures at c.is_packed.ensures in
    sym (asked_no 15 _ (sym packed ∙ c.if-not-is_packed.true))

pub returns-then-not-is_place : goal.returns-then-not-is_place
returns-then-not-is_place c =
    let packed : c.is_packed.result ≡ packed_at c.args.s.now c.args.at = rw c.coordinate.ensures at c.is_packed.ensures in
    let place : c.is_place.result ≡ is_place (coordinate_at c.args.s.now c.args.at) = rw (c.is_minus.ensures, c.magnitude.ensures, c.coordinate.ensures) at c.is_place.ensures in
    sym (asked_yes 15 _ (sym packed ∙ c.if-not-is_packed.false) ∙ asked_no 16 _ (sym place ∙ c.if-not-is_place.true))

pub returns : goal.returns
returns c =
    let packed : c.is_packed.result ≡ packed_at c.args.s.now c.args.at = rw c.coordinate.ensures at c.is_packed.ensures in
    let place : c.is_place.result ≡ is_place (coordinate_at c.args.s.now c.args.at) = rw (c.is_minus.ensures, c.magnitude.ensures, c.coordinate.ensures) at c.is_place.ensures in
    sym (asked_yes 15 _ (sym packed ∙ c.if-not-is_packed.false) ∙ asked_yes 16 _ (sym place ∙ c.if-not-is_place.false) ∙ none_asked)
