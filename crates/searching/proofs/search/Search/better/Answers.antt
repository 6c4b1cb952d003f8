-- `searching::Search::better` meets its contract: a row takes the place of the best one if it goes before it and is removed later. Assumes nothing.
use native.Mathlib.Omega.{arith}
use mathlib.Core.Path.{◌≡◌, refl, sym, ◌∙◌}
use mathlib.Core.Bool.{Bool, true, false, ◌&&◌}
use mathlib.Core.Logic.{◌⊎◌, inl, inr}
use Rattle.lists.proofs.TestLaws.{both_iff}
use Rattle.fractions.proofs.Laws.{less_iff}
use Rattle.searching.proofs.Steps.{not_less, keep_behind, keep_gone, take}
use Rattle.searching.proofs.search.Search.better.Goals as goal

-- of two tests that do not both hold, one does not
not_both : (a b : Bool) → (a && b) ≡ false → (a ≡ false) ⊎ (b ≡ false)
not_both true b e = inr e
not_both false b e = inl e

pub returns-then-not-sooner : goal.returns-then-not-sooner
returns-then-not-sooner g c = (
  c.requires.1,
  keep_behind c.requires.0 c.pair_with-v.ensures.0 (rw (c.value.ensures, c.requires.2) at (sym c.precedes-sooner.ensures ∙ c.if-not-sooner.true)),
  inr refl,
)

pub returns-then-sooner-stands : goal.returns-then-sooner-stands
returns-then-sooner-stands g c =
    let both = (both_iff c.precedes-sooner.result c.less_small-stands.result).0 c.if-sooner-stands.true in (
      record { small = c.pair_with-v.ensures.1; inside = omega (arith, c.requires.0) },
      take c.requires.0 c.pair_with-v.ensures.0 (rw (c.value.ensures, c.requires.2) at (sym c.precedes-sooner.ensures ∙ both.0))
          (rw c.row_value.ensures at ((less_iff _ _).0 (sym c.less_small-stands.ensures ∙ both.1))),
      inl refl,
    )

pub returns : goal.returns
returns g c = (
  c.requires.1,
  elim (not_both c.precedes-sooner.result c.less_small-stands.result c.if-sooner-stands.false) [
    | inl n ↦ keep_behind c.requires.0 c.pair_with-v.ensures.0 (rw (c.value.ensures, c.requires.2) at (sym c.precedes-sooner.ensures ∙ n))
    | inr n ↦ keep_gone c.requires.0 c.pair_with-v.ensures.0 (λ l. not_less (sym c.less_small-stands.ensures ∙ n) (rw c.row_value.ensures l))
  ],
  inr refl,
)
