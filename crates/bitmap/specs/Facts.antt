-- What the contracts and the laws say of maps, in the words of Map.
use Rattle.std.specs.Prelude.{ℕ, zero, suc, ◌+◌, ◌*◌, ◌/◌, ◌%◌, ◌^◌, ◌≤◌, ◌<◌, ◌≡◌, Bool, List, ◌≢◌, length, get_or}
use Rattle.lists.specs.Tests.{bit}
use Rattle.bitmap.specs.Map.{map_size, bit_at}

-- ---- maps

-- the map shows what `shown` says of the marks below n, and the unused bits of its last byte are 0
pub record Shows (shown : ℕ → Bool) (n : ℕ) (map : List ℕ) : Type 0 where
  pub bits : (m : ℕ) → m < n → bit_at map m ≡ bit (shown m)
  pub unused : (m : ℕ) → n ≤ m → m < 8 * map_size n → bit_at map m ≡ 0

-- mark m's bit is set: the bits of the other marks, the other bytes and the length are as they were
pub record BitSet (before : List ℕ) (m : ℕ) (after : List ℕ) : Type 0 where
  pub on : bit_at after m ≡ 1
  pub rest : (k : ℕ) → k ≢ m → bit_at after k ≡ bit_at before k
  pub others : (i : ℕ) → i ≢ m / 8 → get_or after i 0 ≡ get_or before i 0
  pub long : length after ≡ length before

-- the first `size` bytes are 0: the other bytes and the length are as they were
pub record MapCleared (size : ℕ) (before after : List ℕ) : Type 0 where
  pub zeros : (i : ℕ) → i < size → get_or after i 0 ≡ 0
  pub rest : (i : ℕ) → size ≤ i → get_or after i 0 ≡ get_or before i 0
  pub long : length after ≡ length before

-- r is the least number with a set bit at or after `start` and below n, else 65,535
pub record Walked (map : List ℕ) (n start r : ℕ) : Type 0 where
  pub found : r < n → (start ≤ r) × (bit_at map r ≡ 1)
  pub skipped : (k : ℕ) → start ≤ k → k < n → k < r → bit_at map k ≡ 0
  pub none : n ≤ r → r ≡ 65535

-- ---- numbers

-- bit i of a number
abbrev pub bit_of : ℕ → ℕ → ℕ
bit_of n i = n / 2 ^ i % 2

-- r is the least set bit of n at or after `from`, else 64
pub record NextBit (n from r : ℕ) : Type 0 where
  pub after : from ≤ r
  pub within : r ≤ 64
  pub skipped : (k : ℕ) → from ≤ k → k < r → bit_of n k ≡ 0
  pub found : r < 64 → bit_of n r ≡ 1

-- how many of the first n bits are set, where `is m` is bit m of a number or a map
unfoldable pub count_bits : (ℕ → ℕ) → ℕ → ℕ
count_bits is zero = 0
count_bits is (suc n) = count_bits is n + is n
