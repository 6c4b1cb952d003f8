-- The bits of a word of map bytes are the marks' bits. Assumes nothing.
use Prim.Native.Nat.{ℕ, zero, suc, ◌+◌, ◌-◌, ◌*◌, ◌/◌, ◌%◌, ◌≤◌, ◌<◌}
use mathlib.Core.Path.{◌≡◌, refl, sym, ap, ◌∙◌}
use mathlib.Core.List.{List}
use mathlib.Core.Logic.{dite}
use native.Mathlib.Nat.{mul_comm}
use native.Mathlib.Decide.{dec_lt}
use native.Mathlib.Omega.{arith}
use lib.ListN.{length, get_or, take, length-take, get_or-eq_default}
use lib.Seq.{get_or-take}
use Rattle.numbers.specs.Little.{le_at, Bytes}
use Rattle.numbers.proofs.Laws.{le_take}
use Rattle.bitmap.specs.Map.{bit_at}
use Rattle.bitmap.specs.Facts.{bit_of}
use Rattle.bitmap.proofs.Lemmas.Bits.{no_bit, bit_low, bit_high}

-- the bits of a number of w bytes are those of the bytes
number_bit : (w : ℕ) (s : List ℕ) (q i : ℕ) → Bytes s → i < 8 * w → bit_of (le_at w s q) i ≡ bit_at s (8 * q + i)
unfolding le_at
number_bit zero s q i b h = absurd (omega arith)
number_bit (suc w) s q i b h =
    let lo = get_or s q 0 in
    let hi = le_at w s (suc q) in
    rw (mul_comm 256 hi)
    (dite (dec_lt i 8)
    (λ l.
    let d : (8 * q + i) / 8 ≡ q = omega arith in
    let r : (8 * q + i) % 8 ≡ i = omega arith in
    rw (d, r) (bit_low 8 lo hi i l))
    (λ l.
    let e : i ≡ 8 + (i - 8) = omega arith in
    let f : 8 * suc q + (i - 8) ≡ 8 * q + i = omega arith in
    ap (bit_of (lo + hi * 256)) e
    ∙ bit_high 8 lo hi (i - 8) (b q)
    ∙ number_bit w s (suc q) (i - 8) b (omega arith)
    ∙ ap (bit_at s) f))

-- ---- the part of a map before byte `end`, as if the bytes from there on were 0

module _ (s : List ℕ) (end : ℕ) where
  past_end : (i : ℕ) → end ≤ i → get_or (take end s) i 0 ≡ 0
  past_end i h = get_or-eq_default (take end s) 0 (omega (arith, length-take end s))

  pub bit_inside : (m : ℕ) → m < 8 * end → bit_at (take end s) m ≡ bit_at s m
  bit_inside m h = ap (λ (x : ℕ). bit_of x (m % 8)) (get_or-take end s (m / 8) 0 (omega arith))

  pub bit_outside : (m : ℕ) → 8 * end ≤ m → bit_at (take end s) m ≡ 0
  bit_outside m h = no_bit (get_or (take end s) (m / 8) 0) (m % 8) (past_end (m / 8) (omega arith))

  bytes_before : Bytes s → Bytes (take end s)
  bytes_before b i =
      dite (dec_lt i end)
      (λ l. rw (get_or-take end s i 0 l) (b i))
      (λ l. rw (past_end i (omega arith)) (omega arith))

  -- the word of 8 bytes from byte q on, bit by bit
  pub word_bit : (q : ℕ) → Bytes s → (i : ℕ) → i < 64 → bit_of (le_at 8 (take end s) q) i ≡ bit_at (take end s) (8 * q + i)
  word_bit q b i l = number_bit 8 (take end s) q i (bytes_before b) l

-- ---- what `word_at` reads: bytes past the end of a list add nothing to a number

nothing_past : (w : ℕ) (s : List ℕ) (at : ℕ) → length s ≤ at → le_at w s at ≡ 0
unfolding le_at
nothing_past zero s at h = refl
nothing_past (suc w) s at h = omega (arith, get_or-eq_default s 0 h, nothing_past w s (suc at) (omega arith))

longer : (v w : ℕ) (s : List ℕ) (at : ℕ) → w ≤ v → length s ≤ at + w → le_at w s at ≡ le_at v s at
unfolding le_at
longer v zero s at l h = sym (nothing_past v s at (omega arith))
longer zero (suc w) s at l h = absurd (omega arith)
longer (suc v) (suc w) s at l h = omega (arith, longer v w s (suc at) (omega arith) (omega arith))

pub word_whole : (s : List ℕ) (q end : ℕ) → 8 ≤ end - q → le_at 8 s q ≡ le_at 8 (take end s) q
word_whole s q end h = sym (le_take 8 end s q (omega arith))

pub word_short : (s : List ℕ) (q end : ℕ) → q ≤ end → end - q < 8 → le_at (end - q) s q ≡ le_at 8 (take end s) q
word_short s q end h l =
    sym (le_take (end - q) end s q (omega arith))
    ∙ longer 8 (end - q) (take end s) q (omega arith) (omega (arith, length-take end s))
