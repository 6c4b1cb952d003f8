-- `view::search` meets its contract: the bits of a block are those of its root and of its halves, as Lemmas/Search says. The measure is the size.
-- Assumes nothing.
use native.Mathlib.Omega.{arith}
use mathlib.Core.Path.{sym, ◌∙◌}
use mathlib.Core.Bool.{true, false}
use Rattle.view.proofs.Lemmas.Reaching.{living_shown}
use Rattle.view.proofs.Lemmas.Bits.{set_nothing, set_same}
use Rattle.view.proofs.Lemmas.Search.{root_fits, root_popup, all_marked, block_none, half_call, block_set}
use Rattle.view.proofs.+search.Goals as goal

pub returns-then-size-eq0 : goal.returns-then-size-eq0
returns-then-size-eq0 t c = rw c.if-size-eq0.true (set_nothing _ _)

pub value_at-requires : goal.value_at-requires
value_at-requires t c = (root_fits c.requires c.if-size-eq0.false c.entry-root.ensures.0).1

pub returns-then-not-lives : goal.returns-then-not-lives
returns-then-not-lives t c =
    let dead = sym (rw c.value_at.ensures at c.lives.ensures) ∙ c.if-not-lives.true in
    block_none c.requires c.if-size-eq0.false c.entry-root.ensures.0 dead

pub visit-requires : goal.visit-requires
visit-requires t c =
    let r = c.requires in
    let f = root_fits r c.if-size-eq0.false c.entry-root.ensures.0 in
    (f.0, root_popup r c.if-size-eq0.false c.entry-root.ensures.0, f.2)

pub size_to_search-left-requires : goal.size_to_search-left-requires
size_to_search-left-requires t c =
    (all_marked c.requires c.if-size-eq0.false, omega arith)

pub search-requires : goal.search-requires
search-requires t c =
    half_call c.requires c.if-size-eq0.false true c.size_to_search-left.ensures (omega arith) c.visit.ensures.long

pub size_to_search-right-requires : goal.size_to_search-right-requires
size_to_search-right-requires t c =
    (all_marked c.requires c.if-size-eq0.false, omega arith)

pub search-requires-2 : goal.search-requires-2
search-requires-2 t c =
    half_call c.requires c.if-size-eq0.false false c.size_to_search-right.ensures (omega arith)
    (c.search.ensures.long ∙ c.visit.ensures.long)

pub shape_of-map : goal.shape_of-map
shape_of-map t c =
    c.search-2.ensures.long ∙ c.search.ensures.long ∙ c.visit.ensures.long

pub returns : goal.returns
returns t c =
    let a = c.args in
    let alive = sym (rw c.value_at.ensures at c.lives.ensures) ∙ c.if-not-lives.false in
    let q = a.query.now in
    let same = living_shown q.shape q.marks.now q.schedule.now q.popups.now q.k q.edges _ alive in
    block_set c.requires c.if-size-eq0.false c.entry-root.ensures.0 (set_same _ same c.visit.ensures)
    c.size_to_search-left.ensures c.search.ensures
    c.size_to_search-right.ensures c.search-2.ensures
