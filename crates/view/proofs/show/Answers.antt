-- `view::show` meets its contract: the search of the whole index sets the shown marks' bits in a cleared map. Assumes nothing.
use Prim.Native.Nat.{ℕ}
use mathlib.Core.Path.{◌≡◌, subst, subst⁻¹}
use Rattle.bitmap.specs.Facts.{MapCleared}
use native.Mathlib.Omega.{arith}
use Rattle.bitmap.specs.Map.{map_size}
use borrow.Author.Rules.{rules}
use Rattle.reaching.specs.Turning.{Edged, shown_here}
use Rattle.reaching.proofs.Laws.{back_edged}
use Rattle.view.proofs.Lemmas.Views.{whole_searchable, viewed, viewed_back, count_fits}
use Rattle.view.proofs.show.Goals as goal
use Rattle.view.proofs.show.Goals.{After-turned_back-edges}

edged : (t : After-turned_back-edges) → Edged t.turned_back-edges.result
edged t = subst⁻¹ Edged t.turned_back-edges.ensures (back_edged t.args.window t.requires.window_value.0)

pub turned_back-edges-requires : goal.turned_back-edges-requires
turned_back-edges-requires c = c.requires.window_value.0

pub bounds_of-requires : goal.bounds_of-requires
bounds_of-requires c = (edged (goal.at.bounds_of-requires c).After-turned_back-edges, c.requires.viewable.1)

pub invariant_of-query : goal.invariant_of-query
invariant_of-query c =
    record {
      taken = c.requires.viewable.1;
      edged = edged (goal.at.invariant_of-query c).After-turned_back-edges;
    }

pub search-requires : goal.search-requires
search-requires c =
    whole_searchable c.requires.viewable.0 c.args.shape c.args.k c.turned_back-edges.result c.clear.ensures.long c.requires.viewable.1
    (rw c.widest_living.ensures at c.bounds_of.ensures)

pub count-requires : goal.count-requires
count-requires c = search (rules, c.requires.viewable.0.room, c.requires.viewable.0.whole.few)

pub overflow_cast-result : goal.overflow_cast-result
overflow_cast-result c =
    let e : c.div_ceil-size.result ≡ map_size c.args.n = omega (arith, c.div_ceil-size.ensures) in
    record { fits = count_fits c.search.new.map c.requires.viewable.0.whole.few (rw e at c.count.ensures) }

pub returns : goal.returns
returns c =
    let v = c.args in
    let e : c.div_ceil-size.result ≡ map_size v.n = omega (arith, c.div_ceil-size.ensures) in
    let cleared = subst (λ (i : ℕ). MapCleared i v.map.now c.clear.new.map) e c.clear.ensures in
    viewed_back v.shape v.marks.now v.schedule.now v.popups.now (λ i. (c.type_inv.marks i).fits) v.k v.window c.requires.window_value.0 c.requires.window_value.1 c.turned_back-edges.ensures
    (viewed c.requires.viewable.0 {shown = shown_here v.shape v.marks.now v.schedule.now v.popups.now v.k c.turned_back-edges.result} cleared c.search.ensures
    (search rules) (rw e at c.count.ensures))
