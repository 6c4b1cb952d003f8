-- Parts as a list: what stands at a place of `split` and of `chain`, and under a code.
use Rattle.std.specs.Prelude.{ℕ, zero, suc, ◌+◌, ◌*◌, ◌<◌, ◌≤◌, ◌≡◌, refl, Bool, true, false, cond, ◌||◌, is_some, Some, List, [], ◌∷◌, ◌++◌, ltb, eqb, length, get_or, take, drop}
use Rattle.std.proofs.Common.{sym, ap, ◌∙◌, mul-suc, arith, ltb-true, eqb-true, eq-eqb, ne_eqb, length-append, drop-cons}
use Rattle.std.proofs.Math.Decide.{dec_lt}
use Rattle.std.proofs.Math.ListN.{get_or-append}
use Rattle.std.proofs.Math.Seq.{drop-append-add, take-append_seam}
use Rattle.std.proofs.lemmas.List.{get_or_at}
use Rattle.std.specs.List.{list_any, position, position_from}
use Rattle.std.proofs.lemmas.Iterator.Adapters.{position_from-zero}
use Rattle.lists.proofs.TestLaws.{by_cases}
use Rattle.numbers.specs.Little.{Bytes}
use Rattle.numbers.proofs.Laws.{bytes_take, bytes_drop}
use Rattle.contents.specs.Contents.{Part, ◌holds◌, codes_of, bodies_of, find, names, has, with_part, count_at, code_at, offset_at, length_at, body_at, first_parts, split, chain, together}

-- ---- `split`

first_length : (s : List ℕ) (k : ℕ) → length (first_parts s k) ≡ k
first_length s zero = refl
first_length s (suc k) = simp length-append (omega (arith, first_length s k))

first_at : (s : List ℕ) (k i : ℕ) → i < k → get_or (first_parts s k) i (0 holds []) ≡ (code_at s i holds body_at s i)
first_at s zero i l = absurd (omega arith)
first_at s (suc k) i l =
    elim (dec_lt i k) [
      | yes b ↦ get_or-append (first_parts s k) _ (0 holds []) i (rw (first_length s k) b) ∙ first_at s k i b
      | no b ↦ (let q : i ≡ k = omega arith in rw q (get_or_at (first_parts s k) (code_at s k holds body_at s k) [] (0 holds []) k (first_length s k)))
    ]

pub split_length : (s : List ℕ) → length (split s) ≡ count_at s
unfolding split
split_length s = first_length s (count_at s)

pub split_at : (s : List ℕ) (i : ℕ) → i < count_at s → get_or (split s) i (0 holds []) ≡ (code_at s i holds body_at s i)
unfolding split
split_at s i l = first_at s (count_at s) i l

-- the parts from part i on
pub split_from : (s : List ℕ) (i : ℕ) → i < count_at s → drop i (split s) ≡ (code_at s i holds body_at s i) ∷ drop (suc i) (split s)
split_from s i l =
    drop-cons (split s) i (0 holds []) (rw (split_length s) l) ∙ ap (λ (p : Part). p ∷ drop (suc i) (split s)) (split_at s i l)

-- ---- `chain`

-- the bodies before body i, and body i
pub chain_more : (bodies : List (List ℕ)) (i : ℕ) → i < length bodies
    → length (chain (take (suc i) bodies)) ≡ length (chain (take i bodies)) + length (get_or bodies i [])
unfolding chain
chain_more [] i l = absurd (omega arith)
chain_more (b ∷ bodies) zero l = simp length-append (omega arith)
chain_more (b ∷ bodies) (suc i) l = simp length-append (omega (arith, chain_more bodies i (omega arith)))

pub chain_at : (bodies : List (List ℕ)) (i : ℕ) → i < length bodies
    → take (length (get_or bodies i [])) (drop (length (chain (take i bodies))) (chain bodies)) ≡ get_or bodies i []
unfolding chain
chain_at [] i l = absurd (omega arith)
chain_at (b ∷ bodies) zero l = take-append_seam b (chain bodies)
chain_at (b ∷ bodies) (suc i) l =
    rw (length-append b (chain (take i bodies)), drop-append-add b (chain bodies) (length (chain (take i bodies))))
    (chain_at bodies i (omega arith))

-- bodies of at most `most` bytes each
pub chain_most : (most : ℕ) (bodies : List (List ℕ)) → ((i : ℕ) → i < length bodies → length (get_or bodies i []) ≤ most)
    → length (chain bodies) ≤ most * length bodies
unfolding chain
chain_most most [] h = omega arith
chain_most most (b ∷ bodies) h =
    rw (length-append b (chain bodies), mul-suc most (length bodies))
    (omega (arith, h 0 (omega arith), chain_most most bodies (λ i l. h (suc i) (omega arith))))

-- ---- codes and bodies, apart and together

pub together_codes : (codes : List ℕ) (bodies : List (List ℕ)) → length codes ≡ length bodies → codes_of (together codes bodies) ≡ codes
together_codes [] bodies e = refl
together_codes (c ∷ codes) [] e = absurd (omega arith)
together_codes (c ∷ codes) (b ∷ bodies) e = ap (λ (l : List ℕ). c ∷ l) (together_codes codes bodies (omega arith))

pub together_bodies : (codes : List ℕ) (bodies : List (List ℕ)) → length codes ≡ length bodies → bodies_of (together codes bodies) ≡ bodies
together_bodies [] [] e = refl
together_bodies [] (b ∷ bodies) e = absurd (omega arith)
together_bodies (c ∷ codes) [] e = absurd (omega arith)
together_bodies (c ∷ codes) (b ∷ bodies) e = ap (λ (l : List (List ℕ)). b ∷ l) (together_bodies codes bodies (omega arith))

pub together_parts : (parts : List Part) → together (codes_of parts) (bodies_of parts) ≡ parts
together_parts [] = refl
together_parts (p ∷ parts) = ap (λ (l : List Part). p ∷ l) (together_parts parts)

pub together_length : (codes : List ℕ) (bodies : List (List ℕ)) → length codes ≡ length bodies → length (together codes bodies) ≡ length codes
together_length [] bodies e = refl
together_length (c ∷ codes) [] e = absurd (omega arith)
together_length (c ∷ codes) (b ∷ bodies) e = ap suc (together_length codes bodies (omega arith))

-- ---- one part of a list

pub part_at : (parts : List Part) (i : ℕ) → i < length parts
    → get_or parts i (0 holds []) ≡ (get_or (codes_of parts) i 0 holds get_or (bodies_of parts) i [])
part_at [] i l = absurd (omega arith)
part_at (p ∷ parts) zero l = refl
part_at (p ∷ parts) (suc i) l = part_at parts i (omega arith)

pub split_code : (s : List ℕ) (i : ℕ) → i < count_at s → get_or (codes_of (split s)) i 0 ≡ code_at s i
split_code s i l =
    ap (λ (p : Part). p.code) (sym (part_at (split s) i (rw (split_length s) l)) ∙ split_at s i l)

pub split_body : (s : List ℕ) (i : ℕ) → i < count_at s → get_or (bodies_of (split s)) i [] ≡ body_at s i
split_body s i l =
    ap (λ (p : Part). p.body) (sym (part_at (split s) i (rw (split_length s) l)) ∙ split_at s i l)

-- ---- the part of a code, by the place of the first code that is this one

pub position_names : (codes : List ℕ) (code : ℕ) → is_some (position (λ c. eqb c code) codes) ≡ names codes code
position_names codes code = ap is_some (position_from-zero (λ c. eqb c code) codes) ∙ from 0 codes
  where
    from : (i : ℕ) (codes : List ℕ) → is_some (position_from (λ c. eqb c code) i codes) ≡ names codes code
    from i [] = refl
    from i (c ∷ codes) = go (from (i + 1) codes) (eqb c code)
      where
        go : is_some (position_from (λ c. eqb c code) (i + 1) codes) ≡ names codes code
            → (b : Bool) → is_some (cond b (Some i) (position_from (λ c. eqb c code) (i + 1) codes)) ≡ b || names codes code
        go rest true = refl
        go rest false = rest

pub position_finds : (codes : List ℕ) (bodies : List (List ℕ)) (code i : ℕ) → i < length codes → i < length bodies → eqb (get_or codes i 0) code ≡ true
    → ((k : ℕ) → k < i → eqb (get_or codes k 0) code ≡ false) → get_or bodies i [] ≡ find (together codes bodies) code
position_finds [] bodies code i h k e before = absurd (omega arith)
position_finds (c ∷ codes) [] code i h k e before = absurd (omega arith)
position_finds (c ∷ codes) (b ∷ bodies) code zero h k e before = rw e
position_finds (c ∷ codes) (b ∷ bodies) code (suc i) h k e before =
    rw (before 0 (omega arith)) (position_finds codes bodies code i (omega arith) (omega arith) e (λ k l. before (suc k) (omega arith)))

-- a code among codes
pub any_names : (codes : List ℕ) (code : ℕ) → list_any (λ c. eqb c code) codes ≡ names codes code
any_names [] code = refl
any_names (c ∷ codes) code = ap (λ (b : Bool). eqb c code || b) (any_names codes code)

-- ---- one part more

pub has_more : (parts : List Part) (p : Part) (code : ℕ) → has (parts ++ (p ∷ [])) code ≡ has parts code || eqb p.code code
has_more [] p code = or_false (eqb p.code code)
  where
    or_false : (b : Bool) → b || false ≡ b
    or_false true = refl
    or_false false = refl
has_more (q ∷ parts) p code = go (eqb q.code code) (has_more parts p code)
  where
    go : (b : Bool) → has (parts ++ (p ∷ [])) code ≡ has parts code || eqb p.code code
        → b || has (parts ++ (p ∷ [])) code ≡ (b || has parts code) || eqb p.code code
    go true e = refl
    go false e = e

pub find_more : (parts : List Part) (p : Part) (code : ℕ) → find (parts ++ (p ∷ [])) code ≡ cond (has parts code) (find parts code) (cond (eqb p.code code) p.body [])
find_more [] p code = refl
find_more (q ∷ parts) p code = go (eqb q.code code) (find_more parts p code)
  where
    go : (b : Bool) → find (parts ++ (p ∷ [])) code ≡ cond (has parts code) (find parts code) (cond (eqb p.code code) p.body [])
        → cond b q.body (find (parts ++ (p ∷ [])) code) ≡ cond (b || has parts code) (cond b q.body (find parts code)) (cond (eqb p.code code) p.body [])
    go true e = refl
    go false e = e

pub find_none : (parts : List Part) (code : ℕ) → has parts code ≡ false → find parts code ≡ []
find_none [] code e = refl
find_none (p ∷ parts) code e = go (eqb p.code code) (find_none parts code) e
  where
    go : (b : Bool) → (has parts code ≡ false → find parts code ≡ []) → b || has parts code ≡ false → cond b p.body (find parts code) ≡ []
    go true none e = absurd (let z : ◌≡◌ {A = ℕ} 0 1 = cc in omega arith)
    go false none e = none e

-- ---- a body under a code

module _ (code : ℕ) (body : List ℕ) where
  pub with_found : (parts : List Part) → find (with_part code body parts) code ≡ body
  with_found [] = rw (eq-eqb code code refl)
  with_found (p ∷ parts) =
      by_cases (ltb p.code code)
      (λ b. rw (b, ne_eqb p.code code (λ e. omega (arith, ltb-true p.code code b))) (with_found parts))
      (λ b. rw (b, eq-eqb code code refl))

  pub with_there : (parts : List Part) → has (with_part code body parts) code ≡ true
  with_there [] = rw (eq-eqb code code refl)
  with_there (p ∷ parts) =
      by_cases (ltb p.code code)
      (λ b. rw (b, ne_eqb p.code code (λ e. omega (arith, ltb-true p.code code b))) (with_there parts))
      (λ b. rw (b, eq-eqb code code refl))

  -- another code: a part that gives way has this one
  module _ (other : ℕ) (apart : eqb code other ≡ false) where
    gone : (p : Part) → eqb p.code code ≡ true → eqb p.code other ≡ false
    gone p e = rw (eqb-true p.code code e) apart

    pub with_other_found : (parts : List Part) → find (with_part code body parts) other ≡ find parts other
    with_other_found [] = rw apart
    with_other_found (p ∷ parts) =
        by_cases (ltb p.code code)
        (λ b. rw (b, with_other_found parts))
        (λ b. by_cases (eqb p.code code) (λ e. rw (b, apart, e, gone p e)) (λ e. rw (b, apart, e)))

    pub with_other_there : (parts : List Part) → has (with_part code body parts) other ≡ has parts other
    with_other_there [] = rw apart
    with_other_there (p ∷ parts) =
        by_cases (ltb p.code code)
        (λ b. rw (b, with_other_there parts))
        (λ b. by_cases (eqb p.code code) (λ e. rw (b, apart, e, gone p e)) (λ e. rw (b, apart, e)))

-- ---- the parts of a list of bytes

parts_bytes : (s : List ℕ) → Bytes s → (k code : ℕ) → Bytes (find (first_parts s k) code)
parts_bytes s b zero code = λ i. omega arith
parts_bytes s b (suc k) code =
    rw (find_more (first_parts s k) (code_at s k holds body_at s k) code) (go (has (first_parts s k) code) (eqb (code_at s k) code) (parts_bytes s b k code))
  where
    go : (old new : Bool) → Bytes (find (first_parts s k) code) → Bytes (cond old (find (first_parts s k) code) (cond new (body_at s k) []))
    go true new h = h
    go false true h = bytes_take (length_at s k) (drop (offset_at s k) s) (bytes_drop (offset_at s k) s b)
    go false false h = λ i. omega arith

pub find_bytes : (s : List ℕ) → Bytes s → (code : ℕ) → Bytes (find (split s) code)
unfolding split
find_bytes s b = parts_bytes s b (count_at s)
