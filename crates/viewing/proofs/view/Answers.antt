-- `viewing::view`: each way out by the question that ended it. Assumes nothing.
use Prim.Native.Nat.{ℕ}
use mathlib.Core.Path.{◌≡◌, refl, sym, ap, ◌∙◌}
use mathlib.Core.Bool.{true}
use mathlib.Core.List.{List}
use native.Mathlib.Omega.{arith}
use Rattle.std.proofs.lemmas.Result.{err_from_is_err_and}
use Rattle.contents.specs.Asking.{answer}
use Rattle.contents.specs.Places.{cut_of, place_of}
use Rattle.contents.proofs.Laws.{numbered_from_one}
use Rattle.sheet.specs.Opened as Opened
use Rattle.sheet.specs.Opened.{Opening}
use Rattle.sheet.specs.Questions.{sheet_shape, indexed_questions}
use Rattle.sheet.proofs.Laws.{indexed_iff, indexed_number, indexed_layout, layout_part}
use Rattle.parts.specs.Questions.{choice_in}
use Rattle.zoom.proofs.Laws.{scale_most}
use Rattle.reaching.specs.Questions.{question20}
use Rattle.reaching.proofs.Laws.{taken_window}
use Rattle.jobs.proofs.Laws.Viewing.{view_refused, view_no_window, view_no_order, view_no_zoom, view_taken}
use Rattle.viewing.proofs.view.Goals as goal
use Rattle.viewing.proofs.view.Goals.{Else-not-is_ordered, In_ok-layout}

-- 1 to 10 were answered with yes
indexed : (c : In_ok-layout) → answer (indexed_questions c.args.sheet.now) ≡ 0
indexed c = sym (indexed_number _ c.in_ok-layout.ensures)

-- the shape is the sheet's
shape_is : (s : List ℕ) {found : Opening} → found ≡ Opened.indexed s → answer (indexed_questions s) ≡ 0
    → {shape : ℕ} {part : List ℕ} → shape ≡ choice_in part → part ≡ cut_of s (place_of found.layout 7) → shape ≡ sheet_shape s
shape_is s is ok e f = e ∙ ap choice_in (f ∙ layout_part _ ((indexed_iff _).0 ok).0 (indexed_layout _ is ok) 7)

-- 20 was answered with yes
taken : (c : Else-not-is_ordered) → question20 (sheet_shape c.args.sheet.now) c.args.window ≡ true
taken c =
    let ok = sym (indexed_number _ c.in_ok-layout.ensures) in
    rw (shape_is c.args.sheet.now c.in_ok-layout.ensures ok c.choice_of-shape.ensures c.cut.ensures) at (sym c.is_taken.ensures ∙ c.if-not-is_taken.false)

pub returns-in_err-layout : goal.returns-in_err-layout
returns-in_err-layout c =
    let out = err_from_is_err_and c.from_residual.result c.from_residual.ensures.1 in
    rw (out.1, out.2) (view_refused _ _ _ _ (indexed_number _ c.in_err-layout.ensures) (numbered_from_one _) refl)

pub returns-then-not-is_taken : goal.returns-then-not-is_taken
returns-then-not-is_taken c =
    let ok = indexed (goal.at.returns-then-not-is_taken c).In_ok-layout in
    view_no_window _ _ _ _ ok
    (rw (shape_is c.args.sheet.now c.in_ok-layout.ensures ok c.choice_of-shape.ensures c.cut.ensures) at (sym c.is_taken.ensures ∙ c.if-not-is_taken.true))
    refl

pub returns-then-not-is_ordered : goal.returns-then-not-is_ordered
returns-then-not-is_ordered c =
    let ok = indexed (goal.at.returns-then-not-is_ordered c).In_ok-layout in
    view_no_order _ _ _ _ ok
    (rw (shape_is c.args.sheet.now c.in_ok-layout.ensures ok c.choice_of-shape.ensures c.cut.ensures) at (sym c.is_taken.ensures ∙ c.if-not-is_taken.false))
    (sym c.is_ordered.ensures ∙ c.if-not-is_ordered.true) refl

pub invariant_of-accepted : goal.invariant_of-accepted
invariant_of-accepted c =
    let ok = sym (indexed_number _ c.in_ok-layout.ensures) in
    record { passed = ((indexed_iff _).0 ok).0; laid = indexed_layout _ c.in_ok-layout.ensures ok }

pub view_at-requires : goal.view_at-requires
view_at-requires c =
    let e = indexed (goal.at.view_at-requires c).In_ok-layout in
    let o = (goal.at.view_at-requires c).Else-not-is_ordered in
    let most = scale_most _ c.in-Some.k (sym c.scale_of.ensures ∙ c.in-Some.is) in
    record {
      sheet_value = (((indexed_iff _).0 e).1, omega (arith, most));
      shape_value =
          (shape_is c.args.sheet.now c.in_ok-layout.ensures e c.choice_of-shape.ensures c.cut.ensures, taken_window _ _ (taken o), sym c.is_ordered.ensures ∙ c.if-not-is_ordered.false);
    }

pub returns-in_default : goal.returns-in_default
returns-in_default c =
    view_no_zoom _ _ _ _ (indexed (goal.at.returns-in_default c).In_ok-layout) (taken (goal.at.returns-in_default c).Else-not-is_ordered) (sym c.is_ordered.ensures ∙ c.if-not-is_ordered.false)
    (sym c.scale_of.ensures ∙ c.in_default.is) refl

pub returns : goal.returns
returns c =
    rw (view_taken _ _ _ _ (indexed (goal.at.returns c).In_ok-layout) (taken (goal.at.returns c).Else-not-is_ordered) (sym c.is_ordered.ensures ∙ c.if-not-is_ordered.false)
    c.in-Some.k (sym c.scale_of.ensures ∙ c.in-Some.is)) c.view_at.ensures
