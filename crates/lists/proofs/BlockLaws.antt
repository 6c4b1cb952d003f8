-- Laws of blocks: their parts, and how many of their numbers pass a test. Assumes nothing.
use Rattle.std.specs.Prelude.{ℕ, zero, suc, ◌+◌, ◌-◌, ◌≤◌, ◌<◌, ◌≡◌, refl, Bool, true, false, not, ◌≢◌, List, [], ◌∷◌, ◌++◌, length, get_or, take, drop, eqb, ltb}
use Rattle.std.proofs.Common.{arith, zero-add, add-zero, suc-add, sym, ap, ap₂, ◌∙◌, take_at, drop_at, ltb-true, ltb-false, eqb-true, lt-ltb, eq-eqb, le-ltb, ne_eqb}
use Rattle.std.proofs.lemmas.Bool.{eqb-false, not-true}
use Rattle.lists.specs.Tests.{bit}
use Rattle.lists.proofs.TestLaws.{by_cases, and_left, and_right, bit_true, bit_false, bit_not_true, bit_not_zero, bit_small}
use Rattle.lists.specs.Counting.{count, ◌≈◌, times, Distinct, without, non, both, below, keyed}
use Rattle.lists.proofs.CountLaws.{count_append, count_le, without_count, without_length, without_le, without_alike}
use Rattle.lists.specs.Blocks.{block, up_to}

-- ---- the places

-- equal at every place
pub block_same : (e f : ℕ → ℕ) (lo at m : ℕ) → ((i : ℕ) → i < m → e (lo + i) ≡ f (at + i)) → block e lo m ≡ block f at m
block_same e f lo at zero h = refl
block_same e f lo at (suc m) h =
    ap₂ ◌∷◌ (simp add-zero at (h 0 (omega arith))) (block_same e f (suc lo) (suc at) m (λ i g. next i (h (suc i) (omega arith))))
  where
    next : (i : ℕ) → e (lo + suc i) ≡ f (at + suc i) → e (suc lo + i) ≡ f (suc at + i)
    next i q =
        let a : suc lo + i ≡ lo + suc i = omega arith in
        let b : suc at + i ≡ at + suc i = omega arith in
        rw (a, b) q

module _ (e : ℕ → ℕ) where
  pub block_length : (lo m : ℕ) → length (block e lo m) ≡ m
  block_length lo zero = refl
  block_length lo (suc m) = ap suc (block_length (suc lo) m)

  pub block_append : (lo h m : ℕ) → block e lo (h + m) ≡ block e lo h ++ block e (lo + h) m
  block_append lo zero m = rw (zero-add m, add-zero lo)
  block_append lo (suc h) m =
      let a : lo + suc h ≡ suc lo + h = omega arith in
      rw (suc-add h m, a) (ap (◌∷◌ (e lo)) (block_append (suc lo) h m))

  module _ (lo m h : ℕ) (g : h ≤ m) where
    pub block_parts : block e lo m ≡ block e lo h ++ block e (lo + h) (m - h)
    block_parts = let a : m ≡ h + (m - h) = omega arith in ap (block e lo) a ∙ block_append lo h (m - h)

    pub block_take : take h (block e lo m) ≡ block e lo h
    block_take = ap (take h) block_parts ∙ take_at (block e lo h) (block e (lo + h) (m - h)) h (block_length lo h)

    pub block_drop : drop h (block e lo m) ≡ block e (lo + h) (m - h)
    block_drop = ap (drop h) block_parts ∙ drop_at (block e lo h) (block e (lo + h) (m - h)) h (block_length lo h)

  -- a list with these members is the block
  pub block_is : (lo : ℕ) (l : List ℕ) → ((i : ℕ) → i < length l → e (lo + i) ≡ get_or l i 0) → block e lo (length l) ≡ l
  block_is lo [] h = refl
  block_is lo (x ∷ l) h =
      ap₂ ◌∷◌ (simp add-zero at (h 0 (omega arith)))
      (block_is (suc lo) l (λ i g. let a : suc lo + i ≡ lo + suc i = omega arith in rw a (h (suc i) (omega arith))))

-- ---- counts of the parts

module _ (p : ℕ → Bool) (e : ℕ → ℕ) where
  pub block_cut : (lo m h : ℕ) → h ≤ m → count p (block e lo m) ≡ count p (block e lo h) + count p (block e (lo + h) (m - h))
  block_cut lo m h g = ap (count p) (block_parts e lo m h g) ∙ count_append p (block e lo h) (block e (lo + h) (m - h))

  pub block_more : (lo m : ℕ) → count p (block e lo (m + 1)) ≡ count p (block e lo m) + bit (p (e (lo + m)))
  block_more lo m = ap (count p) (block_append e lo m 1) ∙ omega (arith, count_append p (block e lo m) (block e (lo + m) 1))

  -- what stands before a part, the part, and what stands behind it
  pub block_three : (lo m at size : ℕ) → lo ≤ at → at + size ≤ lo + m
      → count p (block e lo m) ≡ count p (block e lo (at - lo)) + count p (block e at size) + count p (block e (at + size) (lo + m - (at + size)))
  block_three lo m at size h g =
      let a : lo + (at - lo) ≡ at = omega arith in
      let b : m - (at - lo) - size ≡ lo + m - (at + size) = omega arith in
      let first : count p (block e lo m) ≡ count p (block e lo (at - lo)) + count p (block e at (m - (at - lo))) =
      rw a at (block_cut lo m (at - lo) (omega arith)) in
      let rest = rw b at (block_cut at (m - (at - lo)) size (omega arith)) in
      omega arith

  -- ---- who passes, and where

  module _ (lo m : ℕ) where
    pub block_has : (i : ℕ) → lo ≤ i → i < lo + m → p (e i) ≡ true → 0 < count p (block e lo m)
    block_has i a b h = omega (arith, block_three lo m i 1 a (omega arith), bit_true h)

    -- two places
    pub block_twice : (i j : ℕ) → lo ≤ i → i < j → j < lo + m → p (e i) ≡ true → p (e j) ≡ true → 1 < count p (block e lo m)
    block_twice i j a b c h g =
        let k : ℕ = suc i - lo in
        let s : lo + k ≡ suc i = omega arith in
        let right : count p (block e lo m) ≡ count p (block e lo k) + count p (block e (suc i) (m - k)) = rw s at (block_cut lo m k (omega arith)) in
        omega (arith, left, right, other)
      where
        left : 0 < count p (block e lo (suc i - lo))
        left = omega (arith, block_three lo (suc i - lo) i 1 a (omega arith), bit_true h)

        other : 0 < count p (block e (suc i) (m - (suc i - lo)))
        other = omega (arith, block_three (suc i) (m - (suc i - lo)) j 1 b (omega arith), bit_true g)

  pub block_find : (lo m : ℕ) → 0 < count p (block e lo m) → (i : ℕ) × (lo ≤ i) × (i < lo + m) × (p (e i) ≡ true)
  block_find lo zero h = absurd (omega arith)
  block_find lo (suc m) h =
      by_cases (p (e lo)) (λ q. (lo, omega arith, omega arith, q))
      (λ q. let (i, a, b, c) = block_find (suc lo) m (omega (arith, bit_false q)) in (i, omega arith, omega arith, c))

  -- a test that every member passes counts none that fail, and the reverse
  pub block_all : (lo m : ℕ) → ((i : ℕ) → lo ≤ i → i < lo + m → p (e i) ≡ true) → count (non p) (block e lo m) ≡ 0
  block_all lo zero h = refl
  block_all lo (suc m) h =
      omega (
        arith,
        bit_not_true (h lo (omega arith) (omega arith)),
        block_all (suc lo) m (λ i a b. h i (omega arith) (omega arith)),
      )

  pub all_block : (lo m : ℕ) → count (non p) (block e lo m) ≡ 0 → (i : ℕ) → lo ≤ i → i < lo + m → p (e i) ≡ true
  all_block lo zero h i a b = absurd (omega arith)
  all_block lo (suc m) h i a b =
      by_cases (eqb lo i) (λ q. rw (← eqb-true lo i q) (bit_not_zero (p (e lo)) (omega arith)))
      (λ q. all_block (suc lo) m (omega arith) i (omega (arith, eqb-false lo i q)) (omega arith))

  -- ---- how many pass

  few : (lo m : ℕ) → count p (block e lo m) ≤ m
  few lo zero = omega arith
  few lo (suc m) = omega (arith, bit_small (p (e lo)), few (suc lo) m)

  pub none_pass : (lo m : ℕ) → ((i : ℕ) → lo ≤ i → i < lo + m → p (e i) ≡ false) → count p (block e lo m) ≡ 0
  none_pass lo zero h = refl
  none_pass lo (suc m) h = omega (arith, bit_false (h lo (omega arith) (omega arith)), none_pass (suc lo) m (λ i a b. h i (omega arith) (omega arith)))

  all_pass : (lo m : ℕ) → ((i : ℕ) → lo ≤ i → i < lo + m → p (e i) ≡ true) → count p (block e lo m) ≡ m
  all_pass lo zero h = refl
  all_pass lo (suc m) h = omega (arith, bit_true (h lo (omega arith) (omega arith)), all_pass (suc lo) m (λ i a b. h i (omega arith) (omega arith)))

  -- none from the h-th on pass
  pub at_most_lem : (lo m h : ℕ) → h ≤ m → ((i : ℕ) → lo + h ≤ i → i < lo + m → p (e i) ≡ false) → count p (block e lo m) ≤ h
  at_most_lem lo m h g out = omega (arith, block_cut lo m h g, few lo h, none_pass (lo + h) (m - h) (λ i a b. out i a (omega arith)))

  -- the first h pass
  pub at_least : (lo m h : ℕ) → h ≤ m → ((i : ℕ) → lo ≤ i → i < lo + h → p (e i) ≡ true) → h ≤ count p (block e lo m)
  at_least lo m h g pass = omega (arith, block_cut lo m h g, all_pass lo h pass)

-- ---- from one block to another

-- numbers that pass the same tests
pub block_count : (p q : ℕ → Bool) (e f : ℕ → ℕ) (lo at m : ℕ) → ((i : ℕ) → i < m → p (e (lo + i)) ≡ q (f (at + i)))
    → count p (block e lo m) ≡ count q (block f at m)
block_count p q e f lo at zero h = refl
block_count p q e f lo at (suc m) h =
    omega (arith, ap bit first, block_count p q e f (suc lo) (suc at) m (λ i g. next i (h (suc i) (omega arith))))
  where
    first : p (e lo) ≡ q (f at)
    first = simp add-zero at (h 0 (omega arith))

    next : (i : ℕ) → p (e (lo + suc i)) ≡ q (f (at + suc i)) → p (e (suc lo + i)) ≡ q (f (suc at + i))
    next i r =
        let a : suc lo + i ≡ lo + suc i = omega arith in
        let b : suc at + i ≡ at + suc i = omega arith in
        rw (a, b) r

-- f is e but at i: the value that goes and the one that comes change a count
pub block_put : (p : ℕ → Bool) (e f : ℕ → ℕ) (lo m i : ℕ) → lo ≤ i → i < lo + m → ((j : ℕ) → j ≢ i → f j ≡ e j)
    → count p (block f lo m) + bit (p (e i)) ≡ count p (block e lo m) + bit (p (f i))
block_put p e f lo m i a b same =
    omega (
      arith,
      block_three p e lo m i 1 a (omega arith),
      block_three p f lo m i 1 a (omega arith),
      ap (count p) (block_same f e lo lo (i - lo) (λ j g. same (lo + j) (λ z. omega arith))),
      ap (count p) (block_same f e (i + 1) (i + 1) (lo + m - (i + 1)) (λ j g. same (i + 1 + j) (λ z. omega arith))),
    )

-- what stands in one of two alike blocks stands in the other
pub alike_find : (e f : ℕ → ℕ) (n : ℕ) → block e 0 n ≈ block f 0 n → (q : ℕ) → q < n → (i : ℕ) × (i < n) × (f i ≡ e q)
alike_find e f n same q h =
    let here = block_has (eqb (e q)) e 0 n q (omega arith) (omega arith) (eq-eqb (e q) (e q) refl) in
    let (i, a, b, c) = block_find (eqb (e q)) f 0 n (omega (arith, same (eqb (e q)))) in
    (i, omega arith, sym (eqb-true (e q) (f i) c))

-- a key that tells the places apart takes each value at most once
pub block_once : (k e : ℕ → ℕ) (lo m : ℕ) → ((a b : ℕ) → lo ≤ a → a < b → b < lo + m → k (e a) ≡ k (e b) → ⊥)
    → (v : ℕ) → count (keyed k v) (block e lo m) ≤ 1
block_once k e lo zero differ v = omega arith
block_once k e lo (suc m) differ v =
    by_cases (eqb v (k (e lo)))
    (λ q. omega (arith, bit_small (eqb v (k (e lo))), none_pass (keyed k v) e (suc lo) m (λ i a b. ne_eqb v (k (e i)) (λ z. clash q i a b z))))
    (λ q. omega (arith, bit_false q, block_once k e (suc lo) m (λ a b c d f. differ a b (omega arith) d (omega arith)) v))
  where
    clash : eqb v (k (e lo)) ≡ true → (i : ℕ) → suc lo ≤ i → i < suc lo + m → v ≡ k (e i) → ⊥
    clash q i a b z = differ lo i (omega arith) a (omega arith) (sym (eqb-true v (k (e lo)) q) ∙ z)

-- ---- the numbers below n

pub up_to_below : (n t : ℕ) → n ≤ t → count (non (below t)) (up_to n) ≡ 0
up_to_below n t h = block_all (below t) (λ i. i) 0 n (λ i a b. lt-ltb i t (omega arith))

-- each of them once
pub up_to_times : (n m : ℕ) → m < n → times m (up_to n) ≡ 1
up_to_times n m h =
    omega (
      arith,
      block_has (eqb m) (λ i. i) 0 n m (omega arith) (omega arith) (eq-eqb m m refl),
      block_once (λ i. i) (λ i. i) 0 n (λ a b c d f e. omega arith) m,
    )

up_to_more : (n : ℕ) → up_to (suc n) ≡ up_to n ++ (n ∷ [])
up_to_more n =
    let a : suc n ≡ n + 1 = omega arith in
    ap up_to a ∙ block_append (λ i. i) 0 n 1 ∙ ap (λ (z : ℕ). up_to n ++ (z ∷ [])) (zero-add n)

-- n different numbers below n are the numbers below n, in some order: taking out n leaves at most n others, by induction

-- what is neither n nor below n is not below n + 1
beyond : (n y : ℕ) → both (non (eqb n)) (non (below n)) y ≡ true → non (below (suc n)) y ≡ true
beyond n y h = ap not (le-ltb y (suc n) (omega (arith, other, least)))
  where
    other : n ≡ y → ⊥
    other = eqb-false n y (not-true (eqb n y) (and_left (not (eqb n y)) (not (ltb y n)) h))

    least : n ≤ y
    least = ltb-false y n (not-true (ltb y n) (and_right (not (eqb n y)) (not (ltb y n)) h))

module _ (n : ℕ) (l : List ℕ) where
  below_without : count (non (below (suc n))) l ≡ 0 → count (non (below n)) (without n l) ≡ 0
  below_without a =
      let p = non (below n) in
      omega (arith, without_count p n l, count_le (both (non (eqb n)) p) (non (below (suc n))) (beyond n) l)

  distinct_without : Distinct l → Distinct (without n l)
  distinct_without d x = omega (arith, d x, without_le (eqb x) n l)

below_few : (n : ℕ) (l : List ℕ) → Distinct l → count (non (below n)) l ≡ 0 → length l ≤ n
below_few zero [] d a = omega arith
below_few zero (x ∷ l) d a =
    let b : x < 0 = ltb-true x 0 (bit_not_zero (ltb x 0) (omega arith)) in
    absurd (omega arith)
below_few (suc n) l d a = omega (arith, without_length n l, d n, below_few n (without n l) (distinct_without n l d) (below_without n l a))

pub all_numbers : (n : ℕ) (l : List ℕ) → Distinct l → length l ≡ n → count (non (below n)) l ≡ 0 → l ≈ up_to n
all_numbers zero [] d len a p = refl
all_numbers zero (x ∷ l) d len a p = absurd (omega arith)
all_numbers (suc n) l d len a p =
    omega (
      arith,
      without_alike n l once p,
      all_numbers n (without n l) (distinct_without n l d) rest (below_without n l a) p,
      count_append p (up_to n) (n ∷ []),
      ap (count p) (up_to_more n),
    )
  where
    most : length (without n l) ≤ n
    most = below_few n (without n l) (distinct_without n l d) (below_without n l a)

    once : times n l ≡ 1
    once = omega (arith, without_length n l, d n, most)

    rest : length (without n l) ≡ n
    rest = omega (arith, without_length n l, d n, most)

-- the places in another order: what stands at n different places below n is what stands at all of them
pub block_permuted : (e order : ℕ → ℕ) (n : ℕ) → ((q : ℕ) → q < n → order q < n) → ((q p : ℕ) → q < p → p < n → order q ≡ order p → ⊥)
    → block (λ q. e (order q)) 0 n ≈ block e 0 n
block_permuted e order n inside differ p =
    block_count p (λ m. p (e m)) (λ q. e (order q)) order 0 0 n (λ i h. refl)
    ∙ all_numbers n (block order 0 n) once (block_length order 0 n) small (λ m. p (e m))
    ∙ sym (block_count p (λ m. p (e m)) e (λ i. i) 0 0 n (λ i h. refl))
  where
    once : Distinct (block order 0 n)
    once = block_once (λ x. x) order 0 n (λ q p c d f. differ q p d (omega arith))

    small : count (non (below n)) (block order 0 n) ≡ 0
    small = block_all (below n) order 0 n (λ i a b. lt-ltb (order i) n (inside i (omega arith)))
