-- `judging::trial::Trial::search` meets its contract: a block is clear where its root is over, or where its root and both halves are clear, as
-- Lemmas/Search says. The measure is the size. Assumes nothing.
use Prim.Native.Nat.{ℕ, ◌+◌, ◌/◌, ◌<◌}
use native.Mathlib.Omega.{arith}
use mathlib.Core.Path.{sym, subst, ◌∙◌}
use mathlib.Core.Bool.{Bool, true, false}
use borrow.Author.Tests.{eq-eqb}
use Rattle.elimination.specs.Lent.{lent}
use Rattle.judging.specs.Search.{Searched}
use Rattle.judging.proofs.Lemmas.Search.{still_there, searched_none, root_below, searched_over, searched_root, half_call, searched_half, searched_both}
use Rattle.judging.proofs.Lemmas.Listing.{indexed, judgeable}
use Rattle.judging.proofs.trial.Trial.+search.Goals as goal
use Rattle.judging.proofs.trial.Trial.+search.Goals.{After-entry-root, After-size_to_search-right, Joined-left-eq0, then-left-eq0, else-left-eq0}

-- the root is a mark
below : (t : ℕ) (h : After-entry-root t) → h.entry-root.result < h.args.self.now.proposal.reel.count
below t h =
    let tr = h.args.self.now in
    let judged = judgeable {r = lent tr.proposal.reel} tr.proposal.reel.good tr.proposal.passed tr.index_long tr.index_right in
    root_below h.requires h.if-size-eq0.false (indexed judged).below h.entry-root.ensures.0

-- what is said of these places, and so of the block by what is said of its halves
abbrev Said : (t : ℕ) → After-size_to_search-right t → ℕ → ℕ → Bool → Type 0
Said t h lo size b =
    let tr = h.args.self.now in
    Searched (lent tr.proposal.reel) tr.proposal.schedule.now tr.index.now h.args.q lo size b

whole : (t : ℕ) (h : After-size_to_search-right t) {b : Bool}
    → (let a = h.args in
    Said t h (a.lo + 1) h.size_to_search-left.result true → Said t h (a.lo + 1 + a.size / 2) h.size_to_search-right.result b → Said t h a.lo a.size b)
whole t h x y =
    searched_both h.requires h.if-size-eq0.false h.entry-root.ensures.0 (sym h.clashes_standing.ensures ∙ h.if-clashes_standing.false)
    h.size_to_search-left.ensures x h.size_to_search-right.ensures y

-- the left half is left out, or was searched
first : (t : ℕ) (c : Joined-left-eq0 t)
    → (let tr = c.args.self.now in
    Searched (lent tr.proposal.reel) tr.proposal.schedule.now tr.index.now c.args.q (c.args.lo + 1) c.size_to_search-left.result c.if-left-eq0.value)
first t c =
    let tr = c.args.self.now in
    let P = Searched (lent tr.proposal.reel) tr.proposal.schedule.now tr.index.now c.args.q (c.args.lo + 1) c.size_to_search-left.result in
    elim c.if-left-eq0.branch [
      | then-left-eq0 w ↦ subst P (sym (w.value-is ∙ eq-eqb _ _ w.if-left-eq0.true)) (searched_none w.if-left-eq0.true)
      | else-left-eq0 w ↦ rw w.value-is w.search.ensures
    ]

pub limit_at-w-requires : goal.limit_at-w-requires
limit_at-w-requires t c =
    omega (arith, below t (goal.at.limit_at-w-requires t c).After-entry-root, c.args.self.now.proposal.passed.schedule_long)

pub is_over-requires : goal.is_over-requires
is_over-requires t c =
    (rw c.limit_at-w.ensures (c.args.self.now.proposal.limits_small _ (below t (goal.at.is_over-requires t c).After-entry-root)), c.requires.fits.value_small)

pub returns-then-is_over : goal.returns-then-is_over
returns-then-is_over t c =
    searched_over c.requires c.if-size-eq0.false c.entry-root.ensures.0 c.limit_at-w.ensures (sym c.is_over.ensures ∙ c.if-is_over.true)

pub clashes_standing-requires : goal.clashes_standing-requires
clashes_standing-requires t c =
    let q = c.args.q in
    let still = still_there q.tight c.limit_at-w.result q.value (sym c.is_over.ensures ∙ c.if-is_over.false) in
    record {
      asked = (c.requires.subject, below t (goal.at.clashes_standing-requires t c).After-entry-root, c.requires.shape_is);
      w_value = (c.limit_at-w.ensures, still);
    }

pub returns-then-clashes_standing : goal.returns-then-clashes_standing
returns-then-clashes_standing t c =
    searched_root c.requires c.if-size-eq0.false c.entry-root.ensures.0 (sym c.clashes_standing.ensures ∙ c.if-clashes_standing.true)

pub search-requires : goal.search-requires
search-requires t c =
    half_call c.requires c.if-size-eq0.false true c.size_to_search-left.ensures (omega arith)

pub search-requires-else-right-eq0 : goal.search-requires-else-right-eq0
search-requires-else-right-eq0 t c =
    half_call c.requires c.if-size-eq0.false false c.size_to_search-right.ensures (omega arith)

pub returns-then-right-eq0 : goal.returns-then-right-eq0
returns-then-right-eq0 t c =
    whole t (goal.at.returns-then-right-eq0 t c).After-size_to_search-right (rw c.if-search.true at (first t (goal.at.returns-then-right-eq0 t c).Joined-left-eq0))
    (subst (Said t (goal.at.returns-then-right-eq0 t c).After-size_to_search-right (c.args.lo + 1 + c.args.size / 2) c.size_to_search-right.result) (sym (eq-eqb _ _ c.if-right-eq0.true)) (searched_none c.if-right-eq0.true))

pub returns-else-right-eq0 : goal.returns-else-right-eq0
returns-else-right-eq0 t c =
    whole t (goal.at.returns-else-right-eq0 t c).After-size_to_search-right (rw c.if-search.true at (first t (goal.at.returns-else-right-eq0 t c).Joined-left-eq0))
    c.search-else-right-eq0.ensures

pub returns-else-search : goal.returns-else-search
returns-else-search t c =
    rw c.if-search.false
    (searched_half c.requires c.if-size-eq0.false true c.size_to_search-left.ensures (rw c.if-search.false at (first t (goal.at.returns-else-search t c).Joined-left-eq0)))
