-- What the loops of `count` and `walk` keep, where they begin, over one turn and where they end. Assumes nothing.
use Prim.Native.Nat.{ℕ, ◌+◌, ◌-◌, ◌*◌, ◌/◌, ◌%◌, ◌≤◌, ◌<◌}
use mathlib.Core.Path.{◌≡◌, refl, sym, ap, ◌∙◌}
use mathlib.Core.List.{List}
use mathlib.Core.Logic.{dite}
use native.Mathlib.Decide.{dec_lt}
use native.Mathlib.Omega.{arith}
use lib.ListN.{take}
use Rattle.numbers.specs.Little.{le_at, Bytes}
use Rattle.bitmap.specs.Map.{map_size, bit_at, walk}
use Rattle.bitmap.specs.Facts.{bit_of, count_bits, NextBit}
use Rattle.bitmap.proofs.Laws.{walked_is}
use Rattle.bitmap.proofs.Lemmas.Counts.{count_bits_same, count_bits_add, count_bits_past, count_bits_le}
use Rattle.bitmap.proofs.Words.{bit_inside, bit_outside, word_bit}

-- ---- `count`: the sum is the count of the bits before byte q, where the bytes from `size` on count as 0

pub record Counting (map : List ℕ) (size sum q : ℕ) : Type 0 where
  pub value : sum ≡ count_bits (bit_at (take size map)) (8 * q)

pub count_bits_none : (map : List ℕ) (size : ℕ) → Counting map size 0 0
unfolding count_bits
count_bits_none map size = record { value = refl }

module _ {map : List ℕ} {size sum q : ℕ} (c : Counting map size sum q) where
  part : ℕ → ℕ
  part = bit_at (take size map)

  pub count_room : sum ≤ 8 * q
  unfolding part
  count_room = rw c.value (count_bits_le part (8 * q) (λ m. omega arith))

  pub count_more : {word r : ℕ} → Bytes map → word ≡ le_at 8 (take size map) q → r ≡ count_bits (bit_of word) 64
      → Counting map size (sum + r) (q + 8)
  unfolding part
  count_more b is ones =
      let e : 8 * (q + 8) ≡ 8 * q + 64 = omega arith in
      let more = count_bits_same _ (λ i. part (8 * q + i)) 64 (word_bit map size q b) in
      record { value = rw (ones, is, e, count_bits_add part (8 * q) 64, more, c.value) }

  pub count_all : size ≤ q → sum ≡ count_bits (bit_at map) (8 * size)
  unfolding part
  count_all h =
      c.value
      ∙ count_bits_past part (8 * size) (8 * q) (omega arith) (λ m l _. bit_outside map size m l)
      ∙ count_bits_same part (bit_at map) (8 * size) (bit_inside map size)

-- ---- `walk`: no bit from `start` up to i is set

pub record Walking (map : List ℕ) (n start i : ℕ) : Type 0 where
  pub from : start ≤ i
  pub skipped : (k : ℕ) → start ≤ k → k < n → k < i → bit_at map k ≡ 0

pub walk_none : (map : List ℕ) (n start : ℕ) → Walking map n start start
walk_none map n start = record { from = omega arith; skipped = λ k a b c. absurd (omega arith) }

module _ {map : List ℕ} {n start i : ℕ} (few : n ≤ 4096) (w : Walking map n start i) where
  walk_here : i < n → bit_at map i ≡ 1 → i ≡ walk map n start
  walk_here h e = walked_is few (record { found = λ _. (w.from, e); skipped = w.skipped; none = λ l. absurd (omega arith) })

  pub walk_end : n ≤ i → 65535 ≡ walk map n start
  walk_end h =
      walked_is few
      (record { found = λ l. absurd (omega arith); skipped = λ k a b _. w.skipped k a b (omega arith); none = λ _. refl })

-- the number whose bit is the first of i's word
abbrev word_start : ℕ → ℕ
word_start i = i / 64 * 8 * 8

-- what a turn at i finds, where t is the next set bit of i's word, or 64
pub record Turned (map : List ℕ) (n start i t : ℕ) : Type 0 where
  pub found : t < 64 → word_start i + t < n → word_start i + t ≡ walk map n start
  pub past : n ≤ word_start i + t → 65535 ≡ walk map n start
  pub more : 64 ≤ t → Walking map n start (word_start i + 64)

module _ {map : List ℕ} {n start i word t : ℕ} (few : n ≤ 4096) (w : Walking map n start i) (b : Bytes map)
    (is : word ≡ le_at 8 (take (map_size n) map) (i / 64 * 8)) (next : NextBit word (i % 64) t) where
  in_word : (k : ℕ) → i ≤ k → k < word_start i + 64 → k < n → bit_at map k ≡ bit_of word (k - word_start i)
  in_word k h l m =
      let j = k - word_start i in
      let e : k ≡ 8 * (i / 64 * 8) + j = omega arith in
      sym (bit_inside map (map_size n) k (omega arith))
      ∙ ap (bit_at (take (map_size n) map)) e
      ∙ sym (word_bit map (map_size n) (i / 64 * 8) b j (omega arith))
      ∙ ap (λ (x : ℕ). bit_of x j) (sym is)

  zero_bit : (k : ℕ) → i ≤ k → k < word_start i + t → k < n → bit_at map k ≡ 0
  zero_bit k h l m = in_word k h (omega arith) m ∙ next.skipped (k - word_start i) (omega arith) (omega arith)

  one_bit : t < 64 → word_start i + t < n → bit_at map (word_start i + t) ≡ 1
  one_bit h l =
      let e : word_start i + t - word_start i ≡ t = omega arith in
      in_word (word_start i + t) (omega arith) (omega arith) l ∙ ap (bit_of word) e ∙ next.found h

  walk_on : Walking map n start (word_start i + t)
  walk_on =
      record {
        from = omega arith;
        skipped = λ k a m p. dite (dec_lt k i) (w.skipped k a m) (λ g. zero_bit k (omega arith) p m);
      }

  pub walk_turn : Turned map n start i t
  walk_turn =
      record {
        found = λ h l. walk_here few walk_on l (one_bit h l);
        past = walk_end few walk_on;
        more = λ h. let e : t ≡ 64 = omega arith in rw e at walk_on;
      }
