-- A job whose questions but 13 are answered with yes: 13, and what is written where there is room. Assumes nothing.
use Rattle.std.specs.Prelude.{ℕ, ◌<◌, ◌≤◌, ◌≡◌, List, [], ◌∷◌, ◌++◌, Result, Ok, Err, leb, length}
use Rattle.std.specs.Result.{MatchResult}
use Rattle.std.proofs.Math.Path.{ap}
use Rattle.std.proofs.lemmas.List.Edits.{sets}
use Rattle.contents.specs.declared.Refusal.{Refusal}
use Rattle.contents.specs.declared.Refusal.TheVariants.{Room}
use Rattle.contents.specs.Refusals.{number}
use Rattle.contents.specs.Asking.{Question, ◌asks◌, answer}
use Rattle.contents.proofs.Laws.{Numbered}
use Rattle.jobs.specs.Jobs.{outcome}
use Rattle.jobs.specs.Answers.{refusal, answer_to, Gives}
use Rattle.jobs.proofs.Laws.Rooms.{no_room, wrote}

-- what `written` ensures, of a closure that ends in `Done`, is what such a job gives
pub rest_gives : (checks : List Question) → Numbered checks → (size : ℕ) (w before : List ℕ) → answer checks ≡ 0 → size ≡ length w
    → {Done : Type 0} {left : List ℕ} → (Done → left ≡ sets before 0 w) → (r : Result ℕ Refusal)
    → MatchResult r (λ n. (size ≤ length before) × (n ≡ size) × Done) (λ e. (length before < size) × (e ≡ Room) × (left ≡ before))
    → Gives (outcome (checks ++ ((13 asks leb size (length before)) ∷ [])) size w) before (answer_to r) left
rest_gives checks numbered size w before ok long done (Ok n) m =
    wrote checks numbered size w before ok m.0 long (ap (λ (v : ℕ). record { number = 0; value = v }) m.1) (done m.2)
rest_gives checks numbered size w before ok long done (Err e) m =
    rw m.2 (no_room checks numbered size w before ok m.0 (ap (λ (q : Refusal). refusal (number q)) m.1))
