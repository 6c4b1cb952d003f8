-- `marks::popup_at` meets its contract: part 5 is not there, or holds the popup. Assumes nothing.
use mathlib.Core.Path.{◌≡◌, sym}
use mathlib.Core.List.{List, [], ◌∷◌}
use Prim.Native.Nat.{ℕ, ◌≤◌}
use mathlib.Core.Logic.{◌⊎◌, inl, inr}
use native.Mathlib.Omega.{arith}
use lib.ListN.{length}
use borrow.Author.Rules.{rules}
use Rattle.std.proofs.lemmas.Bool.{eqb-true, eqb-false}
use Rattle.marks.specs.Pairs.{popup_at}
use Rattle.marks.proofs.PairLaws.{popup_none}
use Rattle.marks.proofs.popup_at.Goals as goal

nothing : (q : List ℕ) (m : ℕ) → length q ≡ 0 → 0 ≡ popup_at q m
nothing [] m h = sym (popup_none m)
nothing (x ∷ q) m h = absurd (omega arith)

there : {n a : ℕ} → (n ≡ 0) ⊎ (a ≤ n) → (n ≡ 0 → ⊥) → a ≤ n
there (inl e) h = absurd (h e)
there (inr l) h = l

pub returns-then-is_empty : goal.returns-then-is_empty
returns-then-is_empty c = nothing _ _ (eqb-true _ _ (sym c.if-is_empty.ensures))

pub overflow_mul-m : goal.overflow_mul-m
overflow_mul-m c =
    let h = there c.requires (eqb-false _ _ (sym c.if-is_empty.ensures)) in
    search (rules, h)

pub read_u32-requires : goal.read_u32-requires
read_u32-requires c = there c.requires (eqb-false _ _ (sym c.if-is_empty.ensures))

pub returns : goal.returns
returns c = c.read_u32.ensures
