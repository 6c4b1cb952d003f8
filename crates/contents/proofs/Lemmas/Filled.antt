-- An array that is filled from the front.
use Rattle.std.specs.Prelude.{ℕ, ◌+◌, ◌<◌, ◌≡◌, List, length, get_or, set, take}
use Rattle.std.proofs.Common.{add-one, take-suc, take-suc-set}

-- one turn of a loop that fills an array: v is what it is filled with
pub fill_turn : {A : Type 0} (d : A) (l v : List A) (i : ℕ) (a : A) → i < length l → i < length v → a ≡ get_or v i d → take i l ≡ take i v
    → take (i + 1) (set l i a) ≡ take (i + 1) v
fill_turn d l v i a h k e f = rw (add-one i, take-suc-set l i a h, take-suc v i d k, e, f)
