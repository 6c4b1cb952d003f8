-- What putting together answers, from the questions in the order in which they are asked.
use Rattle.std.specs.Prelude.{ℕ, ◌≡◌, true, false, List, leb, length}
use Rattle.std.proofs.Math.Path.{sym}
use Rattle.std.proofs.Common.{◌∙◌, arith}
use Rattle.std.proofs.lemmas.List.Edits.{sets}
use borrow.Author.Tests.{leb-true, ne_eqb}
use Rattle.lists.proofs.StoreLaws.{over_sets}
use Rattle.contents.specs.Contents.{Part, join}
use Rattle.contents.specs.Asking.{answer}
use Rattle.contents.proofs.Laws.{none_asked, asked_yes, asked_no, append_yes, append_no}
use Rattle.bodies.specs.Questions.{body_questions}
use Rattle.bodies.proofs.Laws.{bodies_numbered}
use Rattle.std.specs.Prelude.{Ok, Err}
use Rattle.contents.specs.declared.Refusal.{Refusal}
use Rattle.contents.specs.declared.Refusal.TheVariants.{Room}
use Rattle.contents.specs.Refusals.{number}
use Rattle.contents.proofs.Laws.{numbered_from_one}
use Rattle.sheet.specs.Questions.{parts_questions}
use Rattle.sheet.specs.Assembled.{Assembling}

module _ (parts : List Part) (before : List ℕ) where
  -- a 'no' writes nothing
  refused : (r : Refusal) → number r ≡ answer (parts_questions parts (length before)) → Assembling parts before (Err r) before
  refused r e =
      let n = ne_eqb (number r) 0 (omega (arith, numbered_from_one r)) in
      record { number = e; size = rw n; bytes = rw n }

  pub refused_bodies : (r : Refusal) → number r ≡ answer (body_questions parts) → Assembling parts before (Err r) before
  unfolding parts_questions
  refused_bodies r e = refused r (e ∙ sym (append_no (body_questions parts) _ (bodies_numbered parts) (omega (arith, numbered_from_one r))))

  module _ (fitting : answer (body_questions parts) ≡ 0) where
    pub no_room : leb (length (join parts)) (length before) ≡ false → Assembling parts before (Err Room) before
    unfolding parts_questions
    no_room e = refused Room (sym (append_yes (body_questions parts) _ (bodies_numbered parts) fitting ∙ asked_no 13 _ e))

    pub written : {size : ℕ} {after : List ℕ} → leb (length (join parts)) (length before) ≡ true
        → (size ≡ length (join parts)) × (after ≡ sets before 0 (join parts)) → Assembling parts before (Ok size) after
    unfolding parts_questions
    written e p =
        record {
          number = sym (append_yes (body_questions parts) _ (bodies_numbered parts) fitting ∙ asked_yes 13 _ e ∙ none_asked);
          size = p.0;
          bytes = p.1 ∙ over_sets (join parts) before (leb-true _ _ e);
        }
