-- Parts that may be there or not, one after another: their codes, their sizes, their bytes, and counts in between. Assumes nothing.
use Rattle.std.specs.Prelude.{ℕ, zero, suc, ◌+◌, ◌*◌, ◌≤◌, ◌≡◌, refl, Bool, true, false, cond, List, [], ◌∷◌, ◌++◌, length, get_or}
use Rattle.std.proofs.Common.{sym, ap, ap₂, ◌∙◌, append-nil, append_assoc, arith, length-append}
use Rattle.std.proofs.lemmas.List.{map-append}
use Rattle.numbers.specs.Little.{Bytes}
use Rattle.contents.specs.Contents.{Part, ◌holds◌, codes_of, bodies_of, sizes_of, with_part, chain}
use Rattle.jobs.specs.Jobs.{part_if, kept_size, with_counts}
use Rattle.jobs.specs.Steps.{if_any, codes_from, sizes_from}

-- ---- of parts one after another

codes_append : (a b : List Part) → codes_of (a ++ b) ≡ codes_of a ++ codes_of b
codes_append a b = map-append (λ (p : Part). p.code) a b

pub bodies_append : (a b : List Part) → bodies_of (a ++ b) ≡ bodies_of a ++ bodies_of b
bodies_append a b = map-append (λ (p : Part). p.body) a b

sizes_append : (a b : List Part) → sizes_of (bodies_of (a ++ b)) ≡ sizes_of (bodies_of a) ++ sizes_of (bodies_of b)
sizes_append a b = ap sizes_of (bodies_append a b) ∙ map-append length (bodies_of a) (bodies_of b)

pub chain_append : (l m : List (List ℕ)) → chain (l ++ m) ≡ chain l ++ chain m
unfolding chain
chain_append [] m = refl
chain_append (x ∷ l) m = rw (chain_append l m) (sym (append_assoc x (chain l) (chain m)))

pub parts_chain : (a b : List Part) → chain (bodies_of (a ++ b)) ≡ chain (bodies_of a) ++ chain (bodies_of b)
parts_chain a b = ap chain (bodies_append a b) ∙ chain_append (bodies_of a) (bodies_of b)

pub size_append : (a b : List Part) → kept_size (a ++ b) ≡ kept_size a + kept_size b
size_append a b =
    omega (arith, length-append a b, ap length (parts_chain a b), length-append (chain (bodies_of a)) (chain (bodies_of b)))

pub append_bytes : (a b : List Part) → ((i : ℕ) → Bytes (get_or (bodies_of a) i [])) → ((i : ℕ) → Bytes (get_or (bodies_of b) i []))
    → (i : ℕ) → Bytes (get_or (bodies_of (a ++ b)) i [])
append_bytes [] b first last i = last i
append_bytes (p ∷ a) b first last zero = first 0
append_bytes (p ∷ a) b first last (suc i) = append_bytes a b (λ j. first (suc j)) last i

-- ---- of a part that may be there

codes_if : (there : Bool) (code : ℕ) (body : List ℕ) → codes_of (part_if there code body) ≡ if_any there code
codes_if true code body = refl
codes_if false code body = refl

sizes_if : (there : Bool) (code : ℕ) (body : List ℕ) {size : ℕ} → (there ≡ true → length body ≡ size) → sizes_of (bodies_of (part_if there code body)) ≡ if_any there size
sizes_if true code body h = rw (h refl)
sizes_if false code body h = refl

pub chain_if : (there : Bool) (code : ℕ) (body : List ℕ) → chain (bodies_of (part_if there code body)) ≡ cond there body []
unfolding chain
chain_if true code body = append-nil body
chain_if false code body = refl

pub size_if : (there : Bool) (code : ℕ) (body : List ℕ) → kept_size (part_if there code body) ≡ cond there (10 + length body) 0
unfolding chain
size_if true code body = omega (arith, length-append body [])
size_if false code body = refl

pub if_bytes : (there : Bool) (code : ℕ) (body : List ℕ) → Bytes body → (i : ℕ) → Bytes (get_or (bodies_of (part_if there code body)) i [])
if_bytes true code body b zero = b
if_bytes true code body b (suc i) = λ j. omega arith
if_bytes false code body b i = λ j. omega arith

-- ---- parts 4, 5, 6 and 7

module _ (e p v : Bool) (x y z w : List ℕ) where
  past_4 : (e : Bool) (l : List Part) → with_part 6 z (part_if e 4 x ++ l) ≡ part_if e 4 x ++ with_part 6 z l
  past_4 true l = refl
  past_4 false l = refl

  past_5 : (p : Bool) (l : List Part) → with_part 6 z (part_if p 5 y ++ l) ≡ part_if p 5 y ++ with_part 6 z l
  past_5 true l = refl
  past_5 false l = refl

  before_7 : (v : Bool) → with_part 6 z (part_if v 7 w) ≡ (6 holds z) ∷ part_if v 7 w
  before_7 true = refl
  before_7 false = refl

  -- the counts stand between parts 5 and 7
  pub counts_between : (counted : Bool)
      → with_counts counted z (part_if e 4 x ++ (part_if p 5 y ++ part_if v 7 w)) ≡ part_if e 4 x ++ (part_if p 5 y ++ (part_if counted 6 z ++ part_if v 7 w))
  counts_between true = past_4 e _ ∙ ap (λ (l : List Part). part_if e 4 x ++ l) (past_5 p _ ∙ ap (λ (l : List Part). part_if p 5 y ++ l) (before_7 v))
  counts_between false = refl

-- ---- parts 1 and 2, and those of 3 to 7 that are there

module _ (a b x y z u w : List ℕ) (i e p c v : Bool) where
  abbrev pub listed : List Part
  listed = (1 holds a) ∷ (2 holds b) ∷ (part_if i 3 x ++ (part_if e 4 y ++ (part_if p 5 z ++ (part_if c 6 u ++ part_if v 7 w))))

  -- five lists, one behind another, from the left and from the right
  regrouped : (l m n o q r : List ℕ) → l ++ (m ++ (n ++ (o ++ (q ++ r)))) ≡ ((((l ++ m) ++ n) ++ o) ++ q) ++ r
  regrouped l m n o q r = simp append_assoc

  pub listed_codes : codes_of listed ≡ codes_from i e p c v
  listed_codes =
      ap (λ (l : List ℕ). 1 ∷ 2 ∷ l)
      (codes_append (part_if i 3 x) _
      ∙ ap₂ ◌++◌ (codes_if i 3 x)
      (codes_append (part_if e 4 y) _
      ∙ ap₂ ◌++◌ (codes_if e 4 y)
      (codes_append (part_if p 5 z) _
      ∙ ap₂ ◌++◌ (codes_if p 5 z) (codes_append (part_if c 6 u) _ ∙ ap₂ ◌++◌ (codes_if c 6 u) (codes_if v 7 w)))))
      ∙ regrouped (1 ∷ 2 ∷ []) (if_any i 3) (if_any e 4) (if_any p 5) (if_any c 6) (if_any v 7)

  pub listed_sizes : (n : ℕ) → length a ≡ 11 * n → length b ≡ 14 * n → (i ≡ true → length x ≡ 2 * n) → (e ≡ true → length y ≡ 1)
      → (p ≡ true → length z ≡ 4 * n) → (c ≡ true → length u ≡ 170) → (v ≡ true → length w ≡ 1) → sizes_of (bodies_of listed) ≡ sizes_from n i e p c v
  listed_sizes n ha hb hx hy hz hu hw =
      ap₂ (λ (s t : ℕ). s ∷ t ∷ sizes_of (bodies_of (part_if i 3 x ++ (part_if e 4 y ++ (part_if p 5 z ++ (part_if c 6 u ++ part_if v 7 w)))))) ha hb
      ∙ ap (λ (l : List ℕ). 11 * n ∷ 14 * n ∷ l)
      (sizes_append (part_if i 3 x) _
      ∙ ap₂ ◌++◌ (sizes_if i 3 x hx)
      (sizes_append (part_if e 4 y) _
      ∙ ap₂ ◌++◌ (sizes_if e 4 y hy)
      (sizes_append (part_if p 5 z) _
      ∙ ap₂ ◌++◌ (sizes_if p 5 z hz) (sizes_append (part_if c 6 u) _ ∙ ap₂ ◌++◌ (sizes_if c 6 u hu) (sizes_if v 7 w hw)))))
      ∙ regrouped (11 * n ∷ 14 * n ∷ []) (if_any i (2 * n)) (if_any e 1) (if_any p (4 * n)) (if_any c 170) (if_any v 1)

-- there are at most seven
pub few_listed : (i e p c v : Bool) → length (codes_from i e p c v) ≤ 7
few_listed i e p c v = simp length-append (omega (arith, few i 3, few e 4, few p 5, few c 6, few v 7))
  where
    few : (there : Bool) (x : ℕ) → length (if_any there x) ≤ 1
    few true x = omega arith
    few false x = omega arith

-- and as many sizes as codes
pub same_many : (n : ℕ) (i e p c v : Bool) → length (codes_from i e p c v) ≡ length (sizes_from n i e p c v)
same_many n i e p c v =
    simp length-append
    (rw (one i 3 (2 * n), one e 4 1, one p 5 (4 * n), one c 6 170, one v 7 1))
  where
    one : (there : Bool) (x y : ℕ) → length (if_any there x) ≡ length (if_any there y)
    one true x y = refl
    one false x y = refl
