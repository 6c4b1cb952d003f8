-- `sheet::check` meets its contract: questions 1 to 3 end it, or else what is read off the sheet are its parts. Assumes nothing.
use Prim.Native.Nat.{ℕ, ◌≤◌}
use mathlib.Core.Path.{◌≡◌, sym, ap, ◌∙◌}
use mathlib.Core.List.{List, [], map}
use lib.ListN.{length, get_or, take}
use lib.Seq.{length-take-le}
use Rattle.contents.specs.Contents.{Part, codes_of, bodies_of, count_at, split}
use Rattle.contents.specs.Questions.{top_code, codes_right}
use Rattle.contents.specs.Asking.{answer}
use Rattle.contents.specs.Laid.{Laid}
use Rattle.std.proofs.lemmas.Result.{err_from_is_err_and}
use Rattle.contents.proofs.Laws.{laid_iff, numbered_from_one}
use Rattle.bodies.specs.Questions.{body_questions}
use Rattle.sheet.proofs.Lemmas.Accepting.{check_refused, check_laid}
use Rattle.sheet.proofs.Lemmas.Whole.{first_of, first_made, parts_read}
use Rattle.std.proofs.Common.{rules}
use borrow.Author.Tests.{tests}
use native.Mathlib.Omega.{arith}
use Rattle.std.proofs.iter.Serving.{serving}
use Rattle.sheet.proofs.check.Goals as goal
use Rattle.sheet.proofs.check.Goals.{After-from_fn-lent, In_ok-check_contents}

-- questions 1 to 3 were passed
laid : (c : In_ok-check_contents) → Laid c.args.s.now
laid c = (laid_iff _).0 (sym c.in_ok-check_contents.ensures)

-- so there are at most as many parts as codes
few : (s : List ℕ) (n : ℕ) → Laid s → n ≡ count_at s → n ≤ top_code
few s n l e = omega (arith, l.whole.few)

-- and that many are read
read : (s : List ℕ) (n : ℕ) (codes : List ℕ) → Laid s → n ≡ count_at s → length codes ≡ top_code → length (take n codes) ≡ n
read s n codes l e long = length-take-le n codes (omega (arith, few s n l e))

-- with the bodies of the sheet, one for each code
lent : (c : After-from_fn-lent) → map (λ x. x.now) c.from_fn-lent.result ≡ first_of (λ i. get_or (bodies_of (split c.args.s.now)) i []) top_code
lent c =
    let made = c.from_fn-lent.ensures.items in
    first_made (λ x. x.now) _ (λ i. get_or (bodies_of (split c.args.s.now)) i []) c.from_fn-lent.result top_code (λ x y q k. search (rules, tests)) made.long made.each

all_lent : (c : After-from_fn-lent) → c.count_at-count.result ≤ length c.from_fn-lent.result
all_lent c = omega (arith, c.from_fn-lent.ensures.items.long, few _ _ ((laid_iff _).0 (sym c.in_ok-check_contents.ensures)) c.count_at-count.ensures)

pub returns-in_err-check_contents : goal.returns-in_err-check_contents
returns-in_err-check_contents c =
    let r = c.in_err-check_contents.field-0.0 in
    let p = err_from_is_err_and c.from_residual.result c.from_residual.ensures.1 in
    rw (p.1, p.2) (c.in_err-check_contents.ensures ∙ sym (check_refused _ (omega (arith, c.in_err-check_contents.ensures, numbered_from_one r))))

pub count_at-count-requires : goal.count_at-count-requires
count_at-count-requires c = omega (arith, (laid (goal.at.count_at-count-requires c).In_ok-check_contents).whole.inside)

pub codes_of-codes-requires : goal.codes_of-codes-requires
codes_of-codes-requires c = (laid (goal.at.codes_of-codes-requires c).In_ok-check_contents).whole

pub from_fn-lent-requires : goal.from_fn-lent-requires
from_fn-lent-requires c = let l = laid (goal.at.from_fn-lent-requires c).In_ok-check_contents in (omega arith, grind serving)

pub slice_bounds-codes-end : goal.slice_bounds-codes-end
slice_bounds-codes-end c =
    omega (arith, c.codes_of-codes.ensures.0, few _ _ (laid (goal.at.slice_bounds-codes-end c).In_ok-check_contents) c.count_at-count.ensures)

pub slice_bounds-check_bodies-end : goal.slice_bounds-check_bodies-end
slice_bounds-check_bodies-end c = sym (read _ _ _ (laid (goal.at.slice_bounds-check_bodies-end c).In_ok-check_contents) c.count_at-count.ensures c.codes_of-codes.ensures.0)

pub slice_bounds-lent-end : goal.slice_bounds-lent-end
slice_bounds-lent-end c = all_lent (goal.at.slice_bounds-lent-end c).After-from_fn-lent

pub slice_bounds-check_bodies-end-2 : goal.slice_bounds-check_bodies-end-2
slice_bounds-check_bodies-end-2 c =
    sym (length-take-le c.count_at-count.result _ (all_lent (goal.at.slice_bounds-check_bodies-end-2 c).After-from_fn-lent))

pub check_bodies-requires : goal.check_bodies-requires
check_bodies-requires c =
    let l = laid (goal.at.check_bodies-requires c).In_ok-check_contents in
    let bodies = length-take-le c.count_at-count.result c.from_fn-lent.result (all_lent (goal.at.check_bodies-requires c).After-from_fn-lent) in
    let same : take c.count_at-count.result c.codes_of-codes.result ≡ codes_of (split c.args.s.now) = rw c.count_at-count.ensures c.codes_of-codes.ensures.1 in
    (read _ _ _ l c.count_at-count.ensures c.codes_of-codes.ensures.0 ∙ sym bodies, omega (arith, bodies, c.count_at-count.ensures, l.whole.some), ap codes_right same ∙ l.codes)

pub returns : goal.returns
returns c =
    let s = c.args.s.now in
    let l = laid (goal.at.returns c).In_ok-check_contents in
    c.check_bodies.ensures
    ∙ ap (λ (parts : List Part). answer (body_questions parts)) (parts_read (λ x. x.now) s l c.count_at-count.result c.codes_of-codes.result _ c.count_at-count.ensures c.codes_of-codes.ensures.1 (lent (goal.at.returns c).After-from_fn-lent))
    ∙ sym (check_laid s l)
