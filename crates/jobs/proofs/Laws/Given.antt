-- The bodies that are put together: those that the codes name, and no further ones. Assumes nothing.
use Rattle.std.specs.Prelude.{ℕ, zero, suc, ◌≤◌, ◌≡◌, refl, List, [], ◌∷◌, map, length, take}
use Rattle.std.proofs.Common.{ap, arith}
use Rattle.contents.specs.Contents.{◌holds◌, codes_of, together}

-- Further bodies are ignored.
pub together_take : (codes : List ℕ) (bodies : List (List ℕ)) → together codes (take (length codes) bodies) ≡ together codes bodies
together_take [] bodies = refl
together_take (code ∷ codes) [] = refl
together_take (code ∷ codes) (body ∷ bodies) = ap (λ l. (code holds body) ∷ l) (together_take codes bodies)

pub map_take : {A B : Type 0} (f : A → B) (k : ℕ) (l : List A) → map f (take k l) ≡ take k (map f l)
map_take f zero l = refl
map_take f (suc k) [] = refl
map_take f (suc k) (a ∷ l) = ap (λ m. f a ∷ m) (map_take f k l)

-- Where there is a body for each code, the parts have these codes.
pub together_named : (codes : List ℕ) (bodies : List (List ℕ)) → length codes ≤ length bodies → codes_of (together codes bodies) ≡ codes
together_named [] bodies h = refl
together_named (code ∷ codes) [] h = absurd (omega arith)
together_named (code ∷ codes) (body ∷ bodies) h = ap (λ l. code ∷ l) (together_named codes bodies (omega arith))
