-- `marks::outranks` meets its contract: each way out has the tests of the definition decided. Assumes nothing.
use mathlib.Core.Path.{sym, ◌∙◌}
use mathlib.Core.Bool.{or-false}
use native.Mathlib.Nat.{le_of_eq}
use Rattle.std.specs.Prelude.{◌≡◌, ℕ, ltb, eqb, ◌||◌, ◌&&◌, Some}
use Rattle.std.specs.Ordering.{is_some_and, is_lt, partial_ordering_then, nat_cmp}
use Rattle.std.proofs.Common.{arith}
use Rattle.std.proofs.lemmas.Grind.{common_steps}
use Rattle.std.proofs.lemmas.Bool.Decides.{nat_tests}
use borrow.Author.Tests.{le-ltb, eq-eqb, ne_eqb}
use Rattle.marks.specs.Marks.{outranks}
use Rattle.marks.proofs.outranks.Goals as goal

-- a pair of numbers is below another by the first ones, and where these are equal by the second ones
pair_less : (v a u b : ℕ)
    → is_some_and is_lt (partial_ordering_then (Some (nat_cmp v u)) (Some (nat_cmp a b))) ≡ (ltb v u || (eqb u v && ltb a b))
pair_less v a u b = grind (arith, nat_tests, common_steps)

-- the priorities differ: they decide
pub returns-then-p-q : goal.returns-then-p-q
unfolding outranks
returns-then-p-q c =
    rw (← c.priority_at-p.ensures, ← c.priority_at-q.ensures)
    (rw (ne_eqb _ _ c.if-p-q.true) (sym (or-false _)))

-- they are equal: the radii decide, and then the numbers
pub returns : goal.returns
unfolding outranks
returns c =
    rw (← c.priority_at-p.ensures, ← c.priority_at-q.ensures, ← c.rank_radius-u.ensures, ← c.rank_radius-v.ensures)
    (rw (le-ltb _ _ (le_of_eq c.if-p-q.false), eq-eqb _ _ c.if-p-q.false) (c.lt.ensures ∙ pair_less c.rank_radius-v.result c.args.a c.rank_radius-u.result c.args.b))
