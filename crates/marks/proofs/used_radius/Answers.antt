-- `marks::used_radius` meets its contract: what `house_radius` answers tells the house radius. Assumes nothing.
use Prim.Native.Nat.{ℕ}
use mathlib.Core.Path.{◌≡◌, ◌∙◌}
use native.Mathlib.Decide.{dec_lt}
use native.Mathlib.Omega.{arith}
use borrow.Author.Tests.{lt-ltb, le-ltb, eq-eqb, ne_eqb}
use Rattle.std.specs.Option.{unwrap_or}
use Rattle.marks.specs.Marks.{kind_group, house_radius, house_of, used_radius}
use Rattle.marks.proofs.used_radius.Goals as goal

-- a kind that 5 refuses counts with the last group
house_or : (kind : ℕ) → unwrap_or (house_of kind) 200 ≡ house_radius kind
unfolding house_of house_radius kind_group
house_or kind =
    elim (dec_lt kind 200) [
      | yes l ↦ simp (lt-ltb kind 200 l)
      | no l ↦
          simp (le-ltb kind 200 (omega arith), le-ltb kind 10 (omega arith), le-ltb kind 50 (omega arith))
          (simp (le-ltb kind 100 (omega arith), le-ltb kind 150 (omega arith)))
    ]

pub returns-then-radius-ne0 : goal.returns-then-radius-ne0
unfolding used_radius
returns-then-radius-ne0 c = rw (ne_eqb c.args.radius 0 c.if-radius-ne0.true)

pub returns : goal.returns
unfolding used_radius
returns c =
    rw (eq-eqb _ 0 c.if-radius-ne0.false) (rw c.house_radius.ensures at c.unwrap_or.ensures ∙ house_or c.args.kind)
