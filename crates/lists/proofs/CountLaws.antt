-- Laws of counting, each by adding up over the list. Assumes nothing.
use Rattle.std.specs.Prelude.{ℕ, suc, ◌+◌, ◌≤◌, ◌≡◌, refl, Bool, true, false, not, cond, ◌&&◌, List, [], ◌∷◌, ◌++◌, length, take, drop, eqb}
use Rattle.std.proofs.Common.{arith, sym, ap, ◌∙◌, take-append-drop, eqb-true, eq-eqb, ltb-true, lt-ltb}
use Rattle.std.proofs.lemmas.Bool.{eqb-false, not-true}
use Rattle.lists.specs.Tests.{bit}
use Rattle.lists.proofs.TestLaws.{by_cases, and_left, and_right, and_both, bit_true, bit_false, bit_not, bit_le, bit_split}
use Rattle.lists.specs.Counting.{count, ◌≈◌, times, without, non, both, under, keyed}

-- ---- counts

pub count_append : (p : ℕ → Bool) (l m : List ℕ) → count p (l ++ m) ≡ count p l + count p m
count_append p [] m = omega arith
count_append p (x ∷ l) m = omega (arith, count_append p l m)

pub count_cut : (p : ℕ → Bool) (h : ℕ) (l : List ℕ) → count p l ≡ count p (take h l) + count p (drop h l)
count_cut p h l = ap (count p) (sym (take-append-drop h l)) ∙ count_append p (take h l) (drop h l)

-- a test that passes less often counts less
pub count_le : (p q : ℕ → Bool) → ((y : ℕ) → p y ≡ true → q y ≡ true) → (l : List ℕ) → count p l ≤ count q l
count_le p q h [] = omega arith
count_le p q h (x ∷ l) = omega (arith, bit_le (p x) (q x) (h x), count_le p q h l)

pub count_not : (p : ℕ → Bool) (l : List ℕ) → count p l + count (non p) l ≡ length l
count_not p [] = refl
count_not p (x ∷ l) = omega (arith, bit_not (p x), count_not p l)

pub count_split : (p q : ℕ → Bool) (l : List ℕ) → count p l ≡ count (both q p) l + count (both (non q) p) l
count_split p q [] = refl
count_split p q (x ∷ l) = omega (arith, bit_split (q x) (p x), count_split p q l)

-- both tests pass no more often than the first
pub both_le : (p q : ℕ → Bool) (l : List ℕ) → count (both p q) l ≤ count p l
both_le p q l = count_le (both p q) p (λ y e. and_left (p y) (q y) e) l

count_never : (l : List ℕ) → count (λ y. false) l ≡ 0
count_never [] = refl
count_never (x ∷ l) = omega (arith, count_never l)

-- a member that passes counts
pub times_le : (p : ℕ → Bool) (x : ℕ) → p x ≡ true → (l : List ℕ) → times x l ≤ count p l
times_le p x h l = count_le (eqb x) p (λ y e. ap p (sym (eqb-true x y e)) ∙ h) l

pub times_self : (x : ℕ) → bit (eqb x x) ≡ 1
times_self x = bit_true (eq-eqb x x refl)

pub alike_length : (l m : List ℕ) → l ≈ m → length l ≡ length m
alike_length l m h = omega (arith, h (λ y. true), h (λ y. false), count_not (λ y. true) l, count_not (λ y. true) m)

-- ---- a list without a number

pub without_count : (p : ℕ → Bool) (b : ℕ) (l : List ℕ) → count p (without b l) ≡ count (both (non (eqb b)) p) l
without_count p b [] = refl
without_count p b (x ∷ l) = go (eqb b x) (without_count p b l)
  where
    go : (c : Bool) → count p (without b l) ≡ count (both (non (eqb b)) p) l
        → count p (cond c (without b l) (x ∷ without b l)) ≡ bit (not c && p x) + count (both (non (eqb b)) p) l
    go true e = omega arith
    go false e = omega arith

pub without_length : (b : ℕ) (l : List ℕ) → length l ≡ times b l + length (without b l)
without_length b [] = refl
without_length b (x ∷ l) = go (eqb b x) (without_length b l)
  where
    go : (c : Bool) → length l ≡ times b l + length (without b l)
        → suc (length l) ≡ bit c + times b l + length (cond c (without b l) (x ∷ without b l))
    go true e = omega arith
    go false e = omega arith

pub without_le : (p : ℕ → Bool) (b : ℕ) (l : List ℕ) → count p (without b l) ≤ count p l
without_le p b l = omega (arith, without_count p b l, count_split p (eqb b) l)

-- what stands in l once comes out and goes in front
pub without_alike : (b : ℕ) (l : List ℕ) → times b l ≡ 1 → l ≈ b ∷ without b l
without_alike b l h p = omega (arith, count_split p (eqb b) l, without_count p b l, by_cases (p b) passes fails)
  where
    -- the test at b
    at_b : (y : ℕ) → eqb b y ≡ true → p b ≡ p y
    at_b y q = ap p (eqb-true b y q)

    passes : p b ≡ true → count (both (eqb b) p) l ≡ bit (p b)
    passes e =
        omega (
          arith,
          bit_true e,
          both_le (eqb b) p l,
          count_le (eqb b) (both (eqb b) p) (λ y q. and_both q (sym (at_b y q) ∙ e)) l,
        )

    fails : p b ≡ false → count (both (eqb b) p) l ≡ bit (p b)
    fails e =
        omega (
          arith,
          bit_false e,
          count_never l,
          count_le (both (eqb b) p) (λ y. false) (λ y q. sym e ∙ at_b y (and_left (eqb b y) (p y) q) ∙ and_right (eqb b y) (p y) q) l,
        )

-- ---- keys below a bound

module _ (k : ℕ → ℕ) where
  pub under_le : (t u : ℕ) → t ≤ u → (l : List ℕ) → count (under k t) l ≤ count (under k u) l
  under_le t u h = count_le (under k t) (under k u) (λ y e. lt-ltb (k y) u (omega (arith, ltb-true (k y) t e)))

  pub over_le : (t u : ℕ) → t ≤ u → (l : List ℕ) → count (non (under k u)) l ≤ count (non (under k t)) l
  over_le t u h l = omega (arith, under_le t u h l, count_not (under k t) l, count_not (under k u) l)

  pub under_zero : (l : List ℕ) → count (under k 0) l ≡ 0
  under_zero l =
      omega (arith, count_never l, count_le (under k 0) (λ y. false) (λ y e. absurd (omega (arith, ltb-true (k y) 0 e))) l)

  -- what is below v + 1 is below v, or is v
  pub under_more : (v : ℕ) (l : List ℕ) → count (under k (suc v)) l ≤ count (under k v) l + count (keyed k v) l
  under_more v l =
      omega (
        arith,
        count_split (under k (suc v)) (keyed k v) l,
        both_le (keyed k v) (under k (suc v)) l,
        count_le (both (non (keyed k v)) (under k (suc v))) (under k v) less l,
      )
    where
      less : (y : ℕ) → both (non (keyed k v)) (under k (suc v)) y ≡ true → under k v y ≡ true
      less y h =
          lt-ltb (k y) v
          (omega (
            arith,
            eqb-false v (k y) (not-true (eqb v (k y)) (and_left (non (keyed k v) y) (under k (suc v) y) h)),
            ltb-true (k y) (suc v) (and_right (non (keyed k v) y) (under k (suc v) y) h),
          ))
