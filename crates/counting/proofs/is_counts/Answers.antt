-- `counting::is_counts` meets its contract: the length is right, and the bytes are the same. Assumes nothing.
use Rattle.std.proofs.Common.{sym, ap, ◌∙◌, length}
use Rattle.std.proofs.lemmas.Bool.{false≢true}
use Rattle.std.proofs.lemmas.Bool.Decides.{Decides-eqb}
use Rattle.std.proofs.lemmas.Slice.Eq.{slice_eq-Decides}
use mathlib.Core.Bool.{false}
use borrow.Author.Tests.{ne_eqb}
use Rattle.lists.proofs.TestLaws.{same_test}
use Rattle.counting.specs.Counts.{is_counts}
use Rattle.counting.proofs.Lemmas.Bytes.{counts_length, is_counts_iff}
use Rattle.counting.proofs.is_counts.Goals as goal

pub returns-then-body-eq-COUNTS_SIZE : goal.returns-then-body-eq-COUNTS_SIZE
returns-then-body-eq-COUNTS_SIZE c =
    let a = c.args in
    let same = slice_eq-Decides Decides-eqb _ _ _ c.eq.ensures in
    let is = c.counts_of.ensures in
    let iff = is_counts_iff a.body.now a.marks.now a.schedule.now a.popups.now a.n in
    same_test c.eq.result (is_counts a.body.now a.marks.now a.schedule.now a.popups.now a.n) (λ e. iff.1 (same.0 e ∙ is)) (λ e. same.1 (iff.0 e ∙ sym is))

pub returns-else-body-eq-COUNTS_SIZE : goal.returns-else-body-eq-COUNTS_SIZE
returns-else-body-eq-COUNTS_SIZE c =
    let a = c.args in
    let iff = is_counts_iff a.body.now a.marks.now a.schedule.now a.popups.now a.n in
    let other = c.if-body-eq-COUNTS_SIZE.false in
    rw (ne_eqb _ _ other)
    (same_test false (is_counts a.body.now a.marks.now a.schedule.now a.popups.now a.n) (λ e. absurd (false≢true e))
    (λ e. absurd (other (ap length (iff.0 e) ∙ counts_length a.marks.now a.schedule.now a.popups.now a.n))))
