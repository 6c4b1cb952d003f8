-- `index::check_block` meets its contract: what the check finds of a block is what it finds of its halves, joined under the root.
-- The measure is the size. Assumes nothing.
use native.Mathlib.Omega.{arith}
use mathlib.Core.Path.{◌∙◌}
use Rattle.index.specs.Valid.{valid, is_tree}
use Rattle.index.specs.Check.{keys_found, keys_of, span_of}
use Rattle.index.proofs.Lemmas.Findings.{then_some_is, none_heads, none_left, none_right, keys_made}
use Rattle.index.proofs.+check_block.Goals as goal

pub returns-then-size-eq0 : goal.returns-then-size-eq0
unfolding keys_found keys_of span_of is_tree valid
returns-then-size-eq0 t c = rw c.if-size-eq0.true

pub returns-then-not-beats_left-beats_right : goal.returns-then-not-beats_left-beats_right
returns-then-not-beats_left-beats_right t c =
    let a = c.args in
    none_heads a.marks.now a.schedule.now a.index.now (λ i. omega (arith, c.type_inv.index i)) a.axis a.lo a.size c.if-size-eq0.false
    c.entry-root.ensures.0 c.beats_head-beats_left.ensures c.beats_head-beats_right.ensures c.if-not-beats_left-beats_right.true

pub returns-in_err-left : goal.returns-in_err-left
returns-in_err-left t c =
    let a = c.args in
    c.from_residual.ensures
    ∙ none_left a.marks.now a.schedule.now a.index.now (λ i. omega (arith, c.type_inv.index i)) a.axis a.lo a.size c.if-size-eq0.false
    c.in_err-left.ensures

pub returns-in_err-right : goal.returns-in_err-right
returns-in_err-right t c =
    let a = c.args in
    c.from_residual-in_err-right.ensures
    ∙ none_right a.marks.now a.schedule.now a.index.now (λ i. omega (arith, c.type_inv.index i)) a.axis a.lo a.size c.if-size-eq0.false
    c.in_err-right.ensures

pub returns : goal.returns
returns t c =
    let a = c.args in
    let k = keys_made a.marks.now a.schedule.now a.index.now (λ i. omega (arith, c.type_inv.index i)) a.axis a.lo a.size c.if-size-eq0.false
    c.entry-root.ensures.0 c.in_ok-left.ensures c.in_ok-right.ensures c.beats_head-beats_left.ensures c.beats_head-beats_right.ensures
    c.if-not-beats_left-beats_right.false c.axis_key-kx.ensures.0 c.axis_key-ky.ensures.0 c.join-keys.ensures in
    c.then_some.ensures ∙ rw (c.side.ensures, c.side-2.ensures) (then_some_is _ _ ∙ k)
