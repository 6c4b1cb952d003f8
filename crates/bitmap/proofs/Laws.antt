-- What the other crates cite of maps, the count and the walk. Their proofs are in Lemmas.
use Prim.Native.Nat.{ℕ, suc, ◌-◌, ◌*◌, ◌/◌, ◌%◌, ◌≤◌, ◌<◌}
use Rattle.std.specs.Prelude.{◌≡◌, refl, Bool, true, false, List, ◌++◌, eqb, length, get_or, drop}
use native.Mathlib.Omega.{arith}
use Rattle.lists.specs.Tests.{bit}
use Rattle.lists.proofs.TestLaws.{many_same}
use Rattle.numbers.specs.Little.{Bytes}
use Rattle.bitmap.specs.Map.{map_size, map_bytes, count_shown, bit_at, is_set, next_set, walk}
use Rattle.bitmap.specs.Facts.{Shows, MapCleared, Walked, count_bits}
use Rattle.bitmap.proofs.Lemmas.Bits.{no_bit}
use Rattle.bitmap.proofs.Lemmas.Counts as Counts
use Rattle.bitmap.proofs.Lemmas.Maps as Maps
use Rattle.bitmap.proofs.Lemmas.Walks as Walks

-- ---- the map

module _ (shown : ℕ → Bool) (n : ℕ) where
  -- The definition's bytes show the marks, whatever stands after them.
  pub map_shows : (rest : List ℕ) → Shows shown n (map_bytes shown n ++ rest)
  map_shows = Maps.map_shows shown n

  pub map_length : length (map_bytes shown n) ≡ map_size n
  map_length = Maps.map_length shown n

-- Tests that agree on the numbers have the same map.
pub map_same : (p q : ℕ → Bool) (n : ℕ) → ((m : ℕ) → m < n → p m ≡ q m) → map_bytes p n ≡ map_bytes q n
map_same = Maps.map_same

-- and the same count
pub count_same : (p q : ℕ → Bool) (n : ℕ) → ((m : ℕ) → m < n → p m ≡ q m) → count_shown p n ≡ count_shown q n
unfolding count_shown
count_same = many_same

-- A list of bytes that shows the marks, and is `before` from the map's end on, is the definition's.
pub map_is : {shown : ℕ → Bool} {n : ℕ} {after : List ℕ} → Shows shown n after → Bytes after
    → (before : List ℕ) → map_size n ≤ length before → length after ≡ length before
    → ((i : ℕ) → map_size n ≤ i → get_or after i 0 ≡ get_or before i 0)
    → after ≡ map_bytes shown n ++ drop (map_size n) before
map_is = Maps.map_is

-- After clearing, the bits of the cleared bytes are 0.
pub cleared_bit : {size : ℕ} {before after : List ℕ} → MapCleared size before after
    → (m : ℕ) → m < 8 * size → bit_at after m ≡ 0
cleared_bit {after = after} c m h = no_bit (get_or after (m / 8) 0) (m % 8) (c.zeros (m / 8) (omega arith))

-- ---- the count

-- Of a map that shows the marks, the set bits of its bytes are as many as the shown marks.
pub count_shown_lem : {shown : ℕ → Bool} {n : ℕ} {map : List ℕ} → Shows shown n map
    → count_bits (bit_at map) (8 * map_size n) ≡ count_shown shown n
count_shown_lem {shown} {n} {map} s = Counts.count_shown_lem shown n map s

-- Of n bits at most n are set.
pub count_bits_le : (map : List ℕ) (n : ℕ) → count_bits (bit_at map) n ≤ n
count_bits_le map n = Counts.count_bits_le (bit_at map) n (λ i. omega arith)

-- ---- the walk

-- The walk keeps its rule, wherever it starts: from 0 on it hands out exactly the numbers below n with a set bit, rising.
pub walked : (map : List ℕ) (n start : ℕ) → n ≤ 4096 → Walked map n start (walk map n start)
walked map n start few = Walks.walked map n few start

-- A walk by its first number: none is left, or its bit is set, or the walk is that from the next number.
pub walk_end : (map : List ℕ) (n start : ℕ) → n ≤ start → walk map n start ≡ 65535
unfolding walk next_set
walk_end map n start h = let z : n - start ≡ 0 = omega arith in rw z

module _ (map : List ℕ) (n start : ℕ) (inside : start < n) where
  pub walk_here : is_set map start ≡ true → walk map n start ≡ start
  unfolding walk next_set
  walk_here e = let l : n - start ≡ suc (n - suc start) = omega arith in rw (l, e)

  pub walk_past : is_set map start ≡ false → walk map n start ≡ walk map n (suc start)
  unfolding walk next_set
  walk_past e = let l : n - start ≡ suc (n - suc start) = omega arith in rw (l, e)

-- A map that shows the marks has set exactly the bits of those shown.
pub shown_set : {shown : ℕ → Bool} {n : ℕ} {map : List ℕ} → Shows shown n map → (m : ℕ) → m < n → is_set map m ≡ shown m
shown_set {shown} s m h = rw (s.bits m h) (go (shown m))
  where
    go : (b : Bool) → eqb (bit b) 1 ≡ b
    go true = refl
    go false = refl

-- The rule leaves one answer: what keeps it is the walk's.
pub walked_is : {map : List ℕ} {n start r : ℕ} → n ≤ 4096 → Walked map n start r → r ≡ walk map n start
walked_is {map} {n} {start} few w = Walks.walked_same w (walked map n start few)
