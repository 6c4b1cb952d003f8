-- What filling writes is what Filled claims. Assumes nothing.
use Rattle.std.specs.Prelude.{ℕ, ◌+◌, ◌*◌, ◌≤◌, ◌≡◌}
use Rattle.std.proofs.Math.Path.{refl, sym}
use Rattle.std.proofs.Common.{◌∙◌, arith}
use Rattle.std.proofs.Math.Bool.{true}
use mathlib.Core.List.{List, [], ◌∷◌}
use Rattle.std.proofs.Math.Dec.{leb}
use borrow.Author.Tests.{le-leb}
use Rattle.std.proofs.Math.ListN.{length, length-append}
use Rattle.contents.specs.Contents.{◌holds◌, chain, join}
use Rattle.contents.specs.Asking.{◌asks◌, answer}
use Rattle.contents.specs.Questions.{codes_right}
use Rattle.contents.proofs.Laws.{asked_yes, append_yes, join_length}
use Rattle.parts.specs.Questions.{mark_count, part1_questions}
use Rattle.parts.proofs.Laws.{part1_numbered, part1_iff}
use Rattle.filling.specs.Filling.{filled, fill_questions}
use Rattle.filling.proofs.Theorems.{filled_length, filled_count, filled_accepted, filled_some, filled_used, filled_again}
use Rattle.sheet.proofs.Laws.{parts_iff}
use Rattle.jobs.specs.declared.Answer.{Answer}
use Rattle.jobs.specs.Jobs.{are_counted, assemble_questions, assemble_job, fill_job}
use Rattle.jobs.specs.Answers.{Gives}
use Rattle.jobs.specs.Filled.{Filled, MeetsFilling}
use Rattle.jobs.proofs.Laws.Outcomes.{outcome_number, outcome_same}
use Rattle.jobs.proofs.Laws.Rooms.{passed, counted}
use Rattle.jobs.proofs.Laws.Kept.{kept_none, alone_fits}

module _ (s : List ℕ) (ok : answer (part1_questions s) ≡ 0) where
  again : (room : ℕ) → fill_job (filled s) room ≡ fill_job s room
  unfolding fill_job fill_questions
  again room =
      let n = mark_count s in
      let rest = (13 asks leb (11 * n) room) ∷ [] in
      let first = append_yes (part1_questions (filled s)) rest (part1_numbered (filled s)) (filled_accepted s ok) in
      let second = append_yes (part1_questions s) rest (part1_numbered s) ok in
      rw (filled_count s ok, filled_again s ok) (outcome_same _ _ (11 * n) (filled s) (first ∙ sym second))

  afresh : (further : List (List ℕ)) (room : ℕ) → length (filled s) + 12 ≤ room → (assemble_job (1 ∷ []) (filled s ∷ further) room).number ≡ 0
  unfolding assemble_job assemble_questions chain codes_right
  afresh further room h =
      let w = filled s in
      let parts = (1 holds w) ∷ [] in
      let chained : length (chain (w ∷ [])) ≡ length w = simp length-append (omega arith) in
      let long : length (join parts) ≤ room = omega (arith, join_length parts) in
      let good = (part1_iff w).0 (filled_accepted s ok) in
      let count : are_counted (1 ∷ []) (w ∷ further) ≡ true = le-leb 1 (length (w ∷ further)) (omega arith) in
      outcome_number (assemble_questions (1 ∷ []) (w ∷ further) room) _ _
      ∙ asked_yes 1 _ count ∙ asked_yes 2 _ refl ∙ (parts_iff parts room).1 (alone_fits w [] good.0 good.1 (kept_none _), long)

  filled_is : Filled s (filled s)
  filled_is =
      record {
        count = filled_count s ok;
        accepted = filled_accepted s ok;
        no_zero = filled_some s ok;
        used = filled_used s ok;
        again = again;
        afresh = afresh;
      }

-- and so of what the call answers and leaves
pub fill_meets : (s before : List ℕ) {r : Answer} {out : List ℕ} → Gives (fill_job s (length before)) before r out → MeetsFilling s r out
unfolding fill_job fill_questions
fill_meets s before gives =
    record {
      filled = λ z.
          (let ok = passed (part1_questions s) (part1_numbered s) (11 * mark_count s) (filled s) before gives z in
          let w = counted (part1_questions s) (part1_numbered s) (11 * mark_count s) (filled s) before gives z (sym (filled_length s ok)) in
          rw w (filled_is s ok));
    }

pub fill_whole : {s before : List ℕ} {r : Answer} {out : List ℕ} → Gives (fill_job s (length before)) before r out
    → Gives (fill_job s (length before)) before r out × MeetsFilling s r out
fill_whole {s} {before} gives = (gives, fill_meets s before gives)
