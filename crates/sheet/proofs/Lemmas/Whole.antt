-- The codes and bodies that are read off a sheet, as many as there are, are its parts.
use Rattle.std.specs.Prelude.{ℕ, zero, suc, ◌+◌, ◌<◌, ◌≤◌, ◌≡◌, refl, List, [], ◌∷◌, map, length, get_or, take}
use Rattle.std.specs.Array.{IsFromFnResultFrom}
use Rattle.std.specs.Fn.{Called}
use Rattle.std.proofs.Common.{ap, ap₂, subst, ◌∙◌, arith, add-zero, zero-add}
use denote.Param.Members.{Mut}
use Rattle.std.proofs.lemmas.List.{length-map}
use Rattle.contents.specs.Contents.{Part, codes_of, bodies_of, count_at, split, together}
use Rattle.contents.specs.Questions.{top_code}
use Rattle.contents.specs.Laid.{Laid}
use Rattle.contents.proofs.Laws.{split_length, together_parts}

-- the first n of what f counts
abbrev pub first_of : {A : Type 0} → (ℕ → A) → ℕ → List A
first_of f zero = []
first_of f (suc n) = f 0 ∷ first_of (λ i. f (suc i)) n

-- elements that give what h gives, one by one
in_order : {A C : Type 0} (v : A → C) (h : ℕ → C) (made : List A) (n : ℕ) → length made ≡ n → ((k : ℕ) (d : A) → k < n → v (get_or made k d) ≡ h k) → map v made ≡ first_of h n
in_order v h [] zero l e = refl
in_order v h [] (suc n) l e = absurd (omega arith)
in_order v h (y ∷ made) zero l e = absurd (omega arith)
in_order v h (y ∷ made) (suc n) l e = ap₂ ◌∷◌ (e 0 y (omega arith)) (in_order v (λ i. h (suc i)) made n (omega arith) (λ k d b. e (suc k) d (omega arith)))

-- What `array::from_fn` made, where each call of its closure gives what h gives: its clause says which calls there were.
module _ {F A C : Type 0} {g : Mut F (ℕ × Unit {0}) A} (v : A → C) (f : F) where
  each_made : (h : ℕ → C) → ((x : ℕ) (y : A) (q : F) → Called g f (x, tt) y q → (q ≡ f) × (v y ≡ h x)) → (made : List A) (i n : ℕ)
      → IsFromFnResultFrom g f made i n → (k : ℕ) (d : A) → k < n → v (get_or made (i + k) d) ≡ h (i + k)
  each_made h called made i zero r k d l = absurd (omega arith)
  each_made h called made i (suc n) r zero d l =
      let (q, y, is, call, rest) = r in
      rw add-zero (ap v (is.1 d) ∙ (called i y q call).1)
  each_made h called made i (suc n) r (suc k) d l =
      let (q, y, is, call, rest) = r in
      let step : i + 1 + k ≡ i + suc k = omega arith in
      rw (← step) (each_made h called made (i + 1) n (subst (λ (p : F). IsFromFnResultFrom g p made (i + 1) n) (called i y q call).0 rest) k d (omega arith))

  pub first_made : (h : ℕ → C) (made : List A) (n : ℕ) → ((x : ℕ) (y : A) (q : F) → Called g f (x, tt) y q → (q ≡ f) × (v y ≡ h x))
      → length made ≡ n → IsFromFnResultFrom g f made 0 n → map v made ≡ first_of h n
  first_made h made n called long r = in_order v h made n long (λ k d l. rw zero-add at (each_made h called made 0 n r k d l))

-- Of the first n bodies, some of which are not there, those that are there are all, where there are at most n.
all_bodies : (n : ℕ) (bodies : List (List ℕ)) → length bodies ≤ n → take (length bodies) (first_of (λ i. get_or bodies i []) n) ≡ bodies
all_bodies n [] h = refl
all_bodies zero (b ∷ bodies) h = absurd (omega arith)
all_bodies (suc n) (b ∷ bodies) h = ap (λ (t : List (List ℕ)). b ∷ t) (all_bodies n bodies (omega arith))

-- what lies behind the first n of a list
pub map_take : {A B : Type 0} (f : A → B) (n : ℕ) (l : List A) → map f (take n l) ≡ take n (map f l)
map_take f zero l = refl
map_take f (suc n) [] = refl
map_take {B = B} f (suc n) (x ∷ l) = ap (λ (t : List B). f x ∷ t) (map_take f n l)

-- bodies that lie behind those lent, one for each code
pub parts_read : {A : Type 0} (f : A → List ℕ) (s : List ℕ) → Laid s → (count : ℕ) (codes : List ℕ) (lent : List A) → count ≡ count_at s
    → take (count_at s) codes ≡ codes_of (split s) → map f lent ≡ first_of (λ i. get_or (bodies_of (split s)) i []) top_code
    → together (take count codes) (map f (take count lent)) ≡ split s
parts_read f s laid count codes lent count_is codes-are lent-are =
    ap₂ together codes_all bodies_are ∙ together_parts (split s)
  where
    codes_all : take count codes ≡ codes_of (split s)
    codes_all = rw count_is codes-are

    many : length (bodies_of (split s)) ≡ count_at s
    many = length-map (split s) (λ (p : Part). p.body) ∙ split_length s

    bodies_are : map f (take count lent) ≡ bodies_of (split s)
    bodies_are =
        map_take f count lent
        ∙ rw (lent-are, count_is, ← many) (all_bodies top_code (bodies_of (split s)) (rw many laid.whole.few))
