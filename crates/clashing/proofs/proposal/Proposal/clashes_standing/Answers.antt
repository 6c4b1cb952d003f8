-- `clashing::proposal::Proposal::clashes_standing` meets its contract: each test of the definition in its order, but for the one that is known. Assumes nothing.
use native.Mathlib.Omega.{arith}
use mathlib.Core.Path.{◌≡◌, refl, sym, ap, ◌∙◌}
use mathlib.Core.Bool.{Bool, true, false, not, ◌&&◌}
use borrow.Author.Tests.{eq-eqb, ne_eqb}
use Rattle.std.proofs.lemmas.Bool.{false≢true}
use Rattle.elimination.specs.Lent.{lent}
use Rattle.fractions.specs.Order.{less}
use Rattle.marks.specs.Marks.{outranks}
use Rattle.marks.specs.Pairs.{pair_value}
use Rattle.marks.proofs.PairLaws.{pairs_positive}
use Rattle.clashing.specs.Clash.{limit_at, clash}
use Rattle.clashing.proofs.Laws.Clash.{asked_of, tie_named}
use Rattle.clashing.proofs.proposal.Proposal.clashes_standing.Goals as goal
use Rattle.clashing.proofs.proposal.Proposal.clashes_standing.Goals.{Joined-less_small-2, then-not-less_small, else-not-less_small, then-less_small-2, else-less_small-2}

-- the last test counts where the three before it say yes
yes : (a b d : Bool) {e : Bool} → (a && b) && d ≡ true → e ≡ a && (b && (d && e))
yes true true true h = refl
yes true true false h = absurd (false≢true h)
yes true false d h = absurd (false≢true h)
yes false b d h = absurd (false≢true h)

no : (a b d e : Bool) → (a && b) && d ≡ false → false ≡ a && (b && (d && e))
no true true true e h = absurd (false≢true (sym h))
no true true false e h = refl
no true false d e h = refl
no false b d e h = refl

-- what the three tests before the last one come to
three : (h : Joined-less_small-2)
    → (let r = h.args.self.now.reel in
    h.if-less_small-2.value ≡ (not h.less_small-else-less_small.result && less h.pair_with-f.result h.args.w) && outranks r.edition r.marks.now h.args.g h.args.q.m)
three h =
    let first : h.if-not-less_small.value ≡ not h.less_small-else-less_small.result && less h.pair_with-f.result h.args.w =
    elim h.if-not-less_small.branch [
      | then-not-less_small w ↦ rw w.if-not-less_small.true (w.value-is ∙ w.less_small-then-not-less_small.ensures)
      | else-not-less_small w ↦ rw w.if-not-less_small.false (w.value-is ∙ ap not w.if-not-less_small.false)
    ] in
    rw (← first) (elim h.if-less_small-2.branch [
      | then-less_small-2 w ↦ rw w.if-less_small-2.true (w.value-is ∙ w.outranks.ensures)
      | else-less_small-2 w ↦ rw w.if-less_small-2.false (w.value-is ∙ w.if-less_small-2.false)
    ])

pub returns-then-g-q : goal.returns-then-g-q
unfolding clash
returns-then-g-q c = rw (eq-eqb _ _ c.if-g-q.true)

pub outranks-requires-then-outranks : goal.outranks-requires-then-outranks
outranks-requires-then-outranks c =
    let r = c.args.self.now.reel in
    let f = pair_value r.shape r.marks.now r.popups.now c.args.g c.args.q.m in
    let told : less f (limit_at c.args.self.now.schedule.now c.args.q.m) ≡ false = rw (← c.pair_with-f.ensures.0, ← c.requires.asked.0.value_is) (sym c.less_small.ensures ∙ c.if-less_small.false) in
    let asked = asked_of {r = lent r} r.good c.args.self.now.passed in
    let l = tie_named asked c.requires.asked.0.inside f (pairs_positive r.shape r.marks.now r.popups.now c.args.g c.args.q.m) told in
    (omega (arith, c.requires.asked.1, r.good.there), omega (arith, l, c.eliminator_at.ensures, r.good.there))

pub returns-then-less_small : goal.returns-then-less_small
unfolding clash
returns-then-less_small c =
    rw (ne_eqb _ _ c.if-g-q.false, ← c.requires.asked.0.value_is, ← c.requires.w_value.0, c.requires.w_value.1, ← c.pair_with-f.ensures.0, ← c.less_small.ensures, c.if-less_small.true)

pub returns-then-outranks : goal.returns-then-outranks
unfolding clash
returns-then-outranks c =
    let r = c.args.self.now.reel in
    let told = sym (three (goal.at.returns-then-outranks c).Joined-less_small-2) ∙ c.if-outranks.true in
    rw (
      ne_eqb _ _ c.if-g-q.false,
      ← c.requires.asked.0.value_is,
      ← c.requires.w_value.0,
      c.requires.w_value.1,
      ← c.pair_with-f.ensures.0,
      ← c.less_small.ensures,
      c.if-less_small.false,
      ← c.less_small-else-less_small.ensures,
      ← c.eliminator_at.ensures,
      ← c.outranks-then-outranks.ensures,
    )
    (yes (not c.less_small-else-less_small.result) (less c.pair_with-f.result c.args.w) (outranks r.edition r.marks.now c.args.g c.args.q.m) told)

pub returns-else-outranks : goal.returns-else-outranks
unfolding clash
returns-else-outranks c =
    let r = c.args.self.now.reel in
    let told = sym (three (goal.at.returns-else-outranks c).Joined-less_small-2) ∙ c.if-outranks.false in
    rw (
      ne_eqb _ _ c.if-g-q.false,
      ← c.requires.asked.0.value_is,
      ← c.requires.w_value.0,
      c.requires.w_value.1,
      ← c.pair_with-f.ensures.0,
      ← c.less_small.ensures,
      c.if-less_small.false,
      ← c.less_small-else-less_small.ensures,
      c.if-outranks.false,
    )
    (no (not c.less_small-else-less_small.result) (less c.pair_with-f.result c.args.w) (outranks r.edition r.marks.now c.args.g c.args.q.m) _ told)
