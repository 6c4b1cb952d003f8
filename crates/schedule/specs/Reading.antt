-- What the program makes of reading its input. No contract of the kit says which bytes a call of the system moves: what is said here is how
-- many may have come, and what is printed for them.
use Rattle.std.specs.Prelude.{ℕ, ◌<◌, ◌≤◌, ◌≡◌, ◌⊎◌, List, Result, Ok, Err, length, take}
use Rattle.report.specs.Text.{longest_input}
use Rattle.report.specs.Printing.{Prints}

-- "A longer input gets 14 before all else": bytes that fill the room, so that more may follow, are already too many.
abbrev pub Told : {E : Type 0} → Result ℕ E → List ℕ → Type 0
Told (Ok n) room = (n ≤ length room) × ((n < length room) ⊎ (longest_input < n))
Told (Err e) room = Unit {0}

-- What printing answers, `r`, and leaves in the buffers: the text of the bytes that were read; where a read failed, nothing.
unfoldable pub Reported : {E : Type 0} → Result ℕ E → (input work schedule out : List ℕ) → ℕ → (work-after schedule-after out-after : List ℕ) → Type 0
Reported (Ok n) input work schedule out r work-after schedule-after out-after =
    Prints (take n input) work schedule out r work-after schedule-after out-after
Reported (Err e) input work schedule out r work-after schedule-after out-after =
    (r ≡ 0) × (work-after ≡ work) × (schedule-after ≡ schedule) × (out-after ≡ out)
