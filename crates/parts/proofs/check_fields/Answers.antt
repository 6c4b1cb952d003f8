-- `parts::check_fields` meets its contract: question 5 goes by whether there is a house radius. Assumes nothing.
use Prim.Native.Nat.{ℕ}
use mathlib.Core.Path.{◌≡◌, sym, ap, ◌∙◌}
use mathlib.Core.Bool.{Bool, not}
use borrow.Author.Tests.{le-leb, lt-leb}
use lib.Dec.{eqb}
use Rattle.std.specs.Option.{is_some}
use Rattle.std.specs.Prelude.{Option, Some, None}
use Rattle.marks.specs.Marks.{is_kind, is_radius, house_of, house_number}
use Rattle.contents.proofs.Laws.{none_asked, asked_yes, asked_no}
use Rattle.parts.proofs.check_fields.Goals as goal

-- what `is_none` said of the house radius
told : (kind : ℕ) {h : Option ℕ} (none : Bool) → h ≡ house_of kind → is_some h ≡ not none → is_kind kind ≡ not none
unfolding is_kind
told kind {h} none e f = go (house_of kind) (rw e at f)
  where
    go : (r : Option ℕ) → is_some r ≡ not none → eqb (house_number r) 0 ≡ not none
    go (Some radius) f = f
    go None f = f

pub returns-then-is_none : goal.returns-then-is_none
returns-then-is_none c = sym (asked_no 5 _ (told _ _ c.house_radius.ensures c.is_none.ensures ∙ ap not c.if-is_none.true))

pub returns-then-radius-gt-MOST_RADIUS : goal.returns-then-radius-gt-MOST_RADIUS
unfolding is_radius
returns-then-radius-gt-MOST_RADIUS c =
    sym (asked_yes 5 _ (told _ _ c.house_radius.ensures c.is_none.ensures ∙ ap not c.if-is_none.false) ∙ asked_no 6 _ (lt-leb _ _ c.if-radius-gt-MOST_RADIUS.true))

pub returns : goal.returns
unfolding is_radius
returns c =
    sym (asked_yes 5 _ (told _ _ c.house_radius.ensures c.is_none.ensures ∙ ap not c.if-is_none.false) ∙ asked_yes 6 _ (le-leb _ _ c.if-radius-gt-MOST_RADIUS.false) ∙ none_asked)
