-- What the machine's or, trailing zeros and count of ones say of single bits. Assumes nothing.
use Prim.Native.Nat.{ℕ, zero, suc, ◌+◌, ◌-◌, ◌*◌, ◌/◌, ◌%◌, ◌^◌, ◌≤◌, ◌<◌, max, suc-le-suc}
use mathlib.Core.Path.{◌≡◌, refl, sym, ap, ◌∙◌}
use mathlib.Core.List.{List}
use mathlib.Core.Logic.{dite, ◌≢◌}
use native.Mathlib.Nat.{one-mul, div_self, mod-eq_of_lt, zero-lt-suc, le_of_suc-le-suc, lt_irrefl}
use native.Mathlib.Decide.{ℕ_discrete, dec_lt}
use native.Mathlib.Omega.{arith}
use lib.Bits.{bit_or, or_shr, or_step}
use lib.Count.{ones, ones_step, count_trailing_zeros, under}
use lib.ListN.{length, get_or, set, length-set}
use lib.Pow.{pow_pos, pow-lt, pow_mono, shr_lt}
use lib.Seq.{get_or-set_same, get_or-set_other}
use Rattle.bitmap.specs.Map.{bit_at}
use Rattle.bitmap.specs.Facts.{bit_of, count_bits, BitSet, NextBit}
use Rattle.bitmap.proofs.Lemmas.Bits.{bit_shift, bit_half, bit_low, bit_past, no_bit, half_small}

-- ---- `set_bit`: the bits of an or, and of a power of two

bit_or_lem : (a b i : ℕ) → bit_of (bit_or a b) i ≡ max (bit_of a i) (bit_of b i)
bit_or_lem a b i = ap (λ (x : ℕ). x % 2) (or_shr a b i) ∙ low (a / 2 ^ i) (b / 2 ^ i)
  where
    low : (a b : ℕ) → bit_or a b % 2 ≡ max (a % 2) (b % 2)
    low a b = ap (λ (x : ℕ). x % 2) (or_step a b) ∙ omega arith

power_on : (j : ℕ) → bit_of (2 ^ j) j ≡ 1
power_on j = ap (λ (x : ℕ). x % 2) (div_self (pow_pos j))

power_off : (j i : ℕ) → i ≢ j → bit_of (2 ^ j) i ≡ 0
power_off j i h =
    let e : 2 ^ j ≡ 0 + 1 * 2 ^ j = omega arith in
    dite (dec_lt i j)
    (λ l. ap (λ (x : ℕ). bit_of x i) e ∙ bit_low j 0 1 i l ∙ no_bit 0 i refl)
    (λ l. bit_past (2 ^ j) (suc j) i (pow-lt (omega arith)) (omega arith))

-- the mask of one bit loses nothing in a byte
mask : (m : ℕ) → 1 * 2 ^ (m % 8) % 256 ≡ 2 ^ (m % 8)
mask m =
    let h : 2 ^ (m % 8) ≤ 2 ^ 7 = pow_mono {i = m % 8} {j = 7} (omega arith) in
    rw (one-mul (2 ^ (m % 8))) (mod-eq_of_lt (omega arith))

module _ (map : List ℕ) (m : ℕ) (inside : m / 8 < length map) where
  old : ℕ
  old = get_or map (m / 8) 0

  new : ℕ
  unfolding old
  new = bit_or old (2 ^ (m % 8))

  -- a bit of the byte that is written
  new_bit : (i : ℕ) → bit_of (get_or (set map (m / 8) new) (m / 8) 0) i ≡ max (bit_of old i) (bit_of (2 ^ (m % 8)) i)
  unfolding old new
  new_bit i = ap (λ (x : ℕ). bit_of x i) (get_or-set_same map (m / 8) new 0 inside) ∙ bit_or_lem old (2 ^ (m % 8)) i

  rest : (k : ℕ) → k ≢ m → bit_at (set map (m / 8) new) k ≡ bit_at map k
  unfolding old new
  rest k h =
      dite (ℕ_discrete (k / 8) (m / 8))
      (λ e.
      let off = power_off (m % 8) (k % 8) (omega arith) in
      rw e (omega (arith, new_bit (k % 8), off)))
      (λ n. ap (λ (x : ℕ). bit_of x (k % 8)) (get_or-set_other map (m / 8) (k / 8) new 0 n))

  pub bit_set : BitSet map m (set map (m / 8) (bit_or (get_or map (m / 8) 0) (1 * 2 ^ (m % 8) % 256)))
  unfolding old new
  bit_set =
      rw (mask m)
      (record {
        on = omega (arith, new_bit (m % 8), power_on (m % 8));
        rest = rest;
        others = λ i n. get_or-set_other map (m / 8) i new 0 n;
        long = length-set map (m / 8) new;
      })

-- ---- `next_in`: the zeros below the lowest set bit, and that bit

zeros_below : (k n i : ℕ) → i < count_trailing_zeros k n → bit_of n i ≡ 0
unfolding count_trailing_zeros
zeros_below zero n i h = absurd (omega arith)
zeros_below (suc k) n i h = go (zeros_below k (n / 2)) (n % 2) refl i h
  where
    go : ((i : ℕ) → i < count_trailing_zeros k (n / 2) → bit_of (n / 2) i ≡ 0) → (d : ℕ) → n % 2 ≡ d
        → (i : ℕ) → i < under d (count_trailing_zeros k (n / 2)) → bit_of n i ≡ 0
    go f zero e zero h = omega arith
    go f zero e (suc i) h = sym (bit_half n i) ∙ f i (le_of_suc-le-suc h)
    go f (suc d) e i h = absurd (omega arith)

one_above : (k n : ℕ) → count_trailing_zeros k n < k → bit_of n (count_trailing_zeros k n) ≡ 1
unfolding count_trailing_zeros
one_above zero n h = absurd (omega arith)
one_above (suc k) n h = go (one_above k (n / 2)) (n % 2) refl h
  where
    go : (count_trailing_zeros k (n / 2) < k → bit_of (n / 2) (count_trailing_zeros k (n / 2)) ≡ 1) → (d : ℕ) → n % 2 ≡ d
        → under d (count_trailing_zeros k (n / 2)) < suc k → bit_of n (under d (count_trailing_zeros k (n / 2))) ≡ 1
    go f zero e h = sym (bit_half n (count_trailing_zeros k (n / 2))) ∙ f (le_of_suc-le-suc h)
    go f (suc d) e h = omega arith

-- a number below 2 ^ j that is not 0 has a set bit below j
zeros_few : (k j n : ℕ) → n < 2 ^ j → 0 < n → count_trailing_zeros k n < j
unfolding count_trailing_zeros
zeros_few k zero n h p = absurd (omega arith)
zeros_few zero (suc j) n h p = zero-lt-suc j
zeros_few (suc k) (suc j) n h p = go (zeros_few k j (n / 2) (half_small j n h)) (n % 2) refl
  where
    go : (0 < n / 2 → count_trailing_zeros k (n / 2) < j) → (d : ℕ) → n % 2 ≡ d → under d (count_trailing_zeros k (n / 2)) < suc j
    go f zero e = suc-le-suc (f (omega arith))
    go f (suc d) e = zero-lt-suc j

module _ (n from : ℕ) (small : n < 2 ^ 64) (inside : from < 64) where
  shifted : (k : ℕ) → from ≤ k → bit_of n k ≡ bit_of (n / 2 ^ from) (k - from)
  shifted k h = let e : k ≡ from + (k - from) = omega arith in ap (bit_of n) e ∙ sym (bit_shift n from (k - from))

  pub no_next : n / 2 ^ from ≡ 0 → NextBit n from 64
  no_next z =
      record {
        after = omega arith;
        within = omega arith;
        skipped = λ k h l. shifted k h ∙ no_bit (n / 2 ^ from) (k - from) z;
        found = λ h. absurd (lt_irrefl 64 h);
      }

  pub next_inside : n / 2 ^ from ≢ 0 → from + count_trailing_zeros 64 (n / 2 ^ from) < 64
  next_inside nz =
      let w = n / 2 ^ from in
      let e : 64 - from + from ≡ 64 = omega arith in
      let small-w : w < 2 ^ (64 - from) = shr_lt (64 - from) from (rw e small) in
      omega (arith, zeros_few 64 (64 - from) w small-w (omega arith))

  pub is_next : n / 2 ^ from ≢ 0 → NextBit n from (from + count_trailing_zeros 64 (n / 2 ^ from))
  is_next nz =
      let w = n / 2 ^ from in
      let few = next_inside nz in
      record {
        after = omega arith;
        within = omega arith;
        skipped = λ k h l. shifted k h ∙ zeros_below 64 w (k - from) (omega arith);
        found = λ h. sym (bit_shift n from (count_trailing_zeros 64 w)) ∙ one_above 64 w (omega arith);
      }

-- ---- `ones_in`: the machine's count takes the lowest bit off first, `count_bits` the highest

lowest_first : (k n : ℕ) → count_bits (bit_of n) (suc k) ≡ n % 2 + count_bits (bit_of (n / 2)) k
unfolding count_bits
lowest_first zero n = omega arith
lowest_first (suc k) n = omega (arith, lowest_first k n, bit_half n k)

pub ones_are : (k n : ℕ) → n < 2 ^ k → ones n ≡ count_bits (bit_of n) k
unfolding ones count_bits
ones_are zero n h = let z : n ≡ 0 = omega arith in ap ones z
ones_are (suc k) n h = ones_step n ∙ omega (arith, ones_are k (n / 2) (half_small k n h), lowest_first k n)
