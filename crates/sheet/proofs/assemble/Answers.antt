-- `sheet::assemble` meets its contract: the lemmas of Assembling answer each way out by the question that ended it. Assumes nothing.
use Prim.Native.Nat.{◌<◌}
use mathlib.Core.Path.{◌≡◌, sym, ◌∙◌}
use mathlib.Core.List.{map}
use mathlib.Core.Bool.{true}
use lib.ListN.{length, length-map}
use borrow.Author.Tests.{leb-true}
use Rattle.contents.specs.Contents.{codes_of, together, join}
use Rattle.contents.specs.Questions.{codes_right}
use Rattle.contents.proofs.Laws.{codes_some, codes_few, together_codes}
use Rattle.bodies.proofs.Laws.{fitting_iff, fitting_writable}
use Rattle.sheet.proofs.Lemmas.Assembling.{refused_bodies, no_room, written}
use Rattle.std.proofs.lemmas.Result.{err_from_is_err_and}
use native.Mathlib.Omega.{arith}
use Rattle.sheet.proofs.assemble.Goals as goal
use Rattle.sheet.proofs.assemble.Goals.{In_ok-check_bodies}

-- parts that pass 4 to 9 are small enough for the contents
small : (c : In_ok-check_bodies) → let a = c.args in
    length (join (together a.codes.now (map (λ x. x.now) a.bodies.now))) < 4294967296
small c =
    let codes = c.args.codes.now in
    let bodies = map (λ x. x.now) c.args.bodies.now in
    let same : length codes ≡ length bodies = rw length-map c.requires.0 in
    let right : codes_right (codes_of (together codes bodies)) ≡ true = rw (together_codes codes bodies same) c.requires.1 in
    let fits = (fitting_iff (together codes bodies)).0 (sym c.in_ok-check_bodies.ensures) in
    omega (arith, (fitting_writable (together codes bodies) fits right).size_fits)

pub check_bodies-requires : goal.check_bodies-requires
check_bodies-requires c =
    (c.requires.0, omega (arith, codes_some c.args.codes.now c.requires.1, c.requires.0), c.requires.1)

pub returns-in_err-check_bodies : goal.returns-in_err-check_bodies
returns-in_err-check_bodies c =
    let p = err_from_is_err_and c.from_residual.result c.from_residual.ensures.1 in
    rw (p.1, p.2) (refused_bodies _ _ c.in_err-check_bodies.field-0.0 c.in_err-check_bodies.ensures)

pub has_room-requires : goal.has_room-requires
has_room-requires c =
    (c.requires.0, omega (arith, codes_few c.args.codes.now c.requires.1, c.requires.0))

pub returns-then-not-has_room : goal.returns-then-not-has_room
returns-then-not-has_room c = no_room _ _ (sym c.in_ok-check_bodies.ensures) (sym c.has_room.ensures ∙ c.if-not-has_room.true)

pub put_parts-requires : goal.put_parts-requires
put_parts-requires c =
    let room = leb-true _ _ (sym c.has_room.ensures ∙ c.if-not-has_room.false) in
    record { codes_len = (c.requires.0, omega (arith, codes_few c.args.codes.now c.requires.1, c.requires.0)); bodies_in_bounds = (room, small (goal.at.put_parts-requires c).In_ok-check_bodies) }

pub overflow_cast-result : goal.overflow_cast-result
overflow_cast-result c = record { fits = omega (arith, c.put_parts.ensures.0, small (goal.at.overflow_cast-result c).In_ok-check_bodies) }

pub returns : goal.returns
returns c =
    written _ _ (sym c.in_ok-check_bodies.ensures) (sym c.has_room.ensures ∙ c.if-not-has_room.false) c.put_parts.ensures
