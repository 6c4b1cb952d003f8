-- `searching::Search::pair_with` meets its contract: where no row has a popup the touching value is the pair value. Assumes nothing.
use native.Mathlib.Omega.{arith}
use mathlib.Core.Path.{◌≡◌, sym, ◌∙◌}
use Rattle.marks.proofs.PairLaws.{pair_none}
use Rattle.searching.specs.Rows.{row_popup, rows_touch}
use Rattle.searching.proofs.search.Search.pair_with.Goals as goal

pub returns-else-self : goal.returns-else-self
returns-else-self c =
    let s = c.args.self.now in
    let none = s.good.plain c.if-self.false in
    let q-none : row_popup s.w.now c.args.q ≡ 0 = none c.args.q (omega (arith, c.requires)) in
    let p-none : row_popup s.w.now s.p ≡ 0 = none s.p (omega arith) in
    let touch = rw (c.row_label.ensures, s.good.label_is) at c.touching_of-touch.ensures.0 in
    (touch ∙ rw (q-none, p-none) (sym (pair_none (rows_touch s.shape s.w.now c.args.q s.p))), c.touching_of-touch.ensures.1)
