-- `assembly::assemble`: the number of parts, their codes, and then what putting the parts together answers. Assumes nothing.
use Prim.Native.Nat.{ℕ, ◌≤◌}
use Rattle.std.specs.Borrow.{Bor}
use mathlib.Core.Path.{◌≡◌, refl, sym, ap, ◌∙◌}
use mathlib.Core.Bool.{true}
use mathlib.Core.List.{List, map}
use lib.ListN.{length, take, length-map}
use lib.Seq.{length-take-le}
use borrow.Author.Tests.{leb-true}
use Rattle.lists.proofs.TestLaws.{both_iff}
use Rattle.contents.specs.Contents.{together}
use Rattle.contents.specs.Questions.{is_count}
use Rattle.jobs.specs.Jobs.{are_counted}
use Rattle.jobs.proofs.Theorems.{assemble_joins}
use Rattle.jobs.proofs.Laws.Given.{together_take, map_take}
use Rattle.jobs.proofs.Laws.Outcomes.{assemble_gives, assemble_uncounted, assemble_uncoded}
use Rattle.assembly.proofs.assemble.Goals as goal
use Rattle.assembly.proofs.assemble.Goals.{Else-not-are_counted}

-- the number of parts was taken, and there is a body for each code
counted : (c : Else-not-are_counted) → are_counted c.args.codes.now (map (λ x. x.now) c.args.bodies.now) ≡ true
counted c = rw (length-map c.args.bodies.now (λ x. x.now)) (sym c.are_counted.ensures ∙ c.if-not-are_counted.false)

enough : (c : Else-not-are_counted) → length c.args.codes.now ≤ length c.args.bodies.now
enough c = leb-true _ _ ((both_iff (is_count (length c.args.codes.now)) _).0 (sym c.are_counted.ensures ∙ c.if-not-are_counted.false)).1

pub returns-then-not-are_counted : goal.returns-then-not-are_counted
returns-then-not-are_counted c =
    let codes = c.args.codes.now in
    let bodies = map (λ x. x.now) c.args.bodies.now in
    let gives =
    assemble_uncounted codes bodies _ (rw (length-map c.args.bodies.now (λ x. x.now)) (sym c.are_counted.ensures ∙ c.if-not-are_counted.true)) refl in
    record { gives = gives; joins = assemble_joins codes bodies c.args.out.now gives }

pub returns-then-not-codes_right : goal.returns-then-not-codes_right
returns-then-not-codes_right c =
    let codes = c.args.codes.now in
    let bodies = map (λ x. x.now) c.args.bodies.now in
    let gives =
    assemble_uncoded codes bodies _ (counted (goal.at.returns-then-not-codes_right c).Else-not-are_counted) (sym c.codes_right.ensures ∙ c.if-not-codes_right.true)
    refl in
    record { gives = gives; joins = assemble_joins codes bodies c.args.out.now gives }

pub slice_bounds-assemble-end : goal.slice_bounds-assemble-end
slice_bounds-assemble-end c = sym (length-take-le _ _ (enough (goal.at.slice_bounds-assemble-end c).Else-not-are_counted))

pub assemble-requires : goal.assemble-requires
assemble-requires c =
    (sym (length-take-le _ _ (enough (goal.at.assemble-requires c).Else-not-are_counted)), sym c.codes_right.ensures ∙ c.if-not-codes_right.false)

-- the bodies that are lent are those that the codes name
lent : (codes : List ℕ) (bodies : List (Bor (List ℕ))) → together codes (map (λ x. x.now) (take (length codes) bodies)) ≡ together codes (map (λ x. x.now) bodies)
lent codes bodies = ap (together codes) (map_take (λ x. x.now) (length codes) bodies) ∙ together_take codes (map (λ x. x.now) bodies)

pub returns : goal.returns
returns c =
    let codes = c.args.codes.now in
    let bodies = map (λ x. x.now) c.args.bodies.now in
    let assembled = rw (lent codes c.args.bodies.now) at c.assemble.ensures in
    let gives = assemble_gives codes bodies _ _ _ (counted (goal.at.returns c).Else-not-are_counted) (sym c.codes_right.ensures ∙ c.if-not-codes_right.false) assembled in
    record { gives = gives; joins = assemble_joins codes bodies c.args.out.now gives }
