-- 01, "The view and its map": the map of one bit a mark, the count, and the walk.
use Rattle.std.specs.Prelude.{ℕ, zero, suc, ◌+◌, ◌-◌, ◌*◌, ◌/◌, ◌%◌, ◌^◌, Bool, cond, ◌&&◌, List, [], ◌∷◌, ◌++◌, get_or, ltb, eqb}
use Rattle.lists.specs.Tests.{bit, how_many}

-- ---- the bytes that a view writes; `shown m` says whether mark m is shown

-- "bytes after the first ⌈n/8⌉ aren't touched"
abbrev pub map_size : ℕ → ℕ
map_size n = (n + 7) / 8

-- "mark m is bit m mod 8 of byte m / 8": the first `width` bits of the byte whose first mark is `from`
unfoldable pub map_byte : (ℕ → Bool) → ℕ → ℕ → ℕ
map_byte shown from zero = 0
map_byte shown from (suc width) = map_byte shown from width + bit (shown (from + width)) * 2 ^ width

-- the first `size` bytes
unfoldable pub map_part : (ℕ → Bool) → ℕ → List ℕ
map_part shown zero = []
map_part shown (suc size) = map_part shown size ++ (map_byte shown (8 * size) 8 ∷ [])

-- the map of n marks: "Unused bits of the last byte are 0."
unfoldable pub map_bytes : (ℕ → Bool) → ℕ → List ℕ
map_bytes shown n = map_part (λ m. ltb m n && shown m) (map_size n)

-- "The count is the number of shown marks."
unfoldable pub count_shown : (ℕ → Bool) → ℕ → ℕ
count_shown shown n = how_many shown n

-- ---- reading a map

-- mark m's bit
abbrev pub bit_at : List ℕ → ℕ → ℕ
bit_at bytes m = get_or bytes (m / 8) 0 / 2 ^ (m % 8) % 2

-- Is mark m's bit set?
abbrev pub is_set : List ℕ → ℕ → Bool
is_set bytes m = eqb (bit_at bytes m) 1

-- the least number with a set bit of the `left` numbers from m on, else 65,535
unfoldable pub next_set : List ℕ → ℕ → ℕ → ℕ
next_set bytes zero m = 65535
next_set bytes (suc left) m = cond (is_set bytes m) m (next_set bytes left (suc m))

-- "given a map, n and a start, the least shown number at or after the start and below n, else 65,535"
unfoldable pub walk : List ℕ → ℕ → ℕ → ℕ
walk bytes n start = next_set bytes (n - start) start
