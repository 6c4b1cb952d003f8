-- `contents::body_under` meets its contract: the part of the first code that is this one. Assumes nothing.
use Rattle.std.proofs.Common.{ℕ, ◌<◌, ◌≡◌, true, false, eqb, get_or, map, length, arith, sym, ap, ◌∙◌}
use Rattle.std.specs.Prelude.{is_some}
use Rattle.std.proofs.lemmas.List.{length-map}
use Rattle.std.proofs.lemmas.List.Quantifiers.{position-Some}
use Rattle.std.proofs.Math.ListN.{get_or-map}
use Rattle.contents.proofs.Lemmas.Parts.{position_names, position_finds}
use Rattle.contents.proofs.body_under.Goals as goal
use Rattle.contents.proofs.body_under.Goals.{In_ok-i}

-- the place is that of the first code which is this one
first : (c : In_ok-i) → let codes = c.args.codes.now in
    (c.in_ok-i.i < length codes) × (eqb (get_or codes c.in_ok-i.i 0) c.args.code ≡ true) × ((k : ℕ) → k < c.in_ok-i.i → eqb (get_or codes k 0) c.args.code ≡ false)
first c = position-Some (λ x. eqb x c.args.code) c.args.codes.now c.in_ok-i.i 0 (sym c.position_of.ensures ∙ c.in_ok-i.was)

pub returns-in_err-i-clause-there : goal.returns-in_err-i-clause-there
returns-in_err-i-clause-there c =
    rw c.from_residual.ensures (ap is_some (sym c.in_err-i.was ∙ c.position_of.ensures) ∙ position_names c.args.codes.now c.args.code)

pub returns-clause-there : goal.returns-clause-there
returns-clause-there c = ap is_some (sym c.in_ok-i.was ∙ c.position_of.ensures) ∙ position_names c.args.codes.now c.args.code

pub bounds-bodies-i : goal.bounds-bodies-i
bounds-bodies-i c = omega (arith, (first c).0)

pub returns-clause-body : goal.returns-clause-body
returns-clause-body c =
    let f = first (goal.at.returns-clause-body c).In_ok-i in
    let bodies = map (λ x. x.now) c.args.bodies.now in
    sym (get_or-map (λ x. x.now) c.args.bodies.now c.in_ok-i.i _)
    ∙ position_finds c.args.codes.now bodies c.args.code c.in_ok-i.i f.0 (rw length-map (omega (arith, f.0))) f.1 f.2
