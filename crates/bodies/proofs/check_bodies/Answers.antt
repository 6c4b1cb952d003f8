-- `bodies::check_bodies` meets its contract: part 1 is asked about first, and the first 'no' is the answer. Assumes nothing.
use Prim.Native.Nat.{ℕ}
use mathlib.Core.Path.{◌≡◌, refl, sym, ap, ◌∙◌}
use mathlib.Core.List.{List, map}
use native.Mathlib.Omega.{arith}
use Rattle.std.proofs.lemmas.Result.{err_from_is_err_and}
use Rattle.contents.specs.Contents.{together, marks_part}
use Rattle.contents.specs.Asking.{answer}
use Rattle.contents.specs.Refusals.{told}
use Rattle.contents.proofs.Laws.{append_yes, append_no, numbered_from_one}
use Rattle.parts.specs.Questions.{part1_questions}
use Rattle.parts.proofs.Laws.{part1_numbered, part1_iff}
use Rattle.bodies.specs.Questions.{body_questions}
use Rattle.bodies.proofs.check_bodies.Goals as goal
use Rattle.bodies.proofs.check_bodies.Goals.{After-check_marks}

abbrev marks_of : After-check_marks → List ℕ
marks_of h = marks_part (together h.args.codes.now (map (λ x. x.now) h.args.bodies.now))

asked : (h : After-check_marks) → told h.check_marks.result ≡ answer (part1_questions (marks_of h))
asked h = h.check_marks.ensures ∙ ap (λ (s : List ℕ). answer (part1_questions s)) h.find-marks.ensures

pub returns-in_err-check_marks : goal.returns-in_err-check_marks
unfolding body_questions
returns-in_err-check_marks c =
    let h = (goal.at.returns-in_err-check_marks c).After-check_marks in
    let r = c.in_err-check_marks.field-0.0 in
    let e = sym (ap told c.in_err-check_marks.was) ∙ asked h in
    let p = err_from_is_err_and c.from_residual.result c.from_residual.ensures.1 in
    rw (p.1, p.2) (e ∙ sym (append_no (part1_questions (marks_of h)) _ (part1_numbered (marks_of h)) (omega (arith, e, numbered_from_one r))))

pub invariant_of-held : goal.invariant_of-held
invariant_of-held c =
    let h = (goal.at.invariant_of-held c).After-check_marks in
    let e = sym (asked h) ∙ ap told c.in_ok-check_marks.was in
    record { paired = c.requires.0; marked = rw h.find-marks.ensures (record { counted = refl; marks = ((part1_iff (marks_of h)).0 e).0 }) }

pub returns : goal.returns
unfolding body_questions
returns c =
    let h = (goal.at.returns c).After-check_marks in
    let e = sym (asked h) ∙ ap told c.in_ok-check_marks.was in
    c.check.ensures ∙ sym (append_yes (part1_questions (marks_of h)) _ (part1_numbered (marks_of h)) e)
