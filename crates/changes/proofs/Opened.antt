-- A sheet that was opened is accepted, and its parts lie where it says. Assumes nothing.
use Rattle.std.specs.Prelude.{ℕ, ◌≡◌, List, Ok}
use Rattle.std.proofs.Common.{sym}
use Rattle.contents.specs.declared.Layout.{Layout}
use Rattle.contents.specs.Asking.{answer}
use Rattle.contents.specs.Places.{layout_of}
use Rattle.sheet.specs.Opened.{opened, indexed, found_of}
use Rattle.sheet.specs.Questions.{check, indexed_questions}
use Rattle.sheet.proofs.Laws.{found_number, found_layout, indexed_iff, indexed_number, indexed_layout}

module _ (s : List ℕ) {layout : Layout} where
  pub opened_laid : found_of (Ok layout) ≡ opened s → (check s ≡ 0) × (layout ≡ layout_of s)
  opened_laid is = let ok = sym (found_number s is) in (ok, found_layout s is ok)

  pub indexed_passed : found_of (Ok layout) ≡ indexed s → answer (indexed_questions s) ≡ 0
  indexed_passed is = sym (indexed_number s is)

  pub indexed_laid : found_of (Ok layout) ≡ indexed s → (check s ≡ 0) × (layout ≡ layout_of s)
  indexed_laid is = let passed = indexed_passed is in (((indexed_iff s).0 passed).0, indexed_layout s is passed)
