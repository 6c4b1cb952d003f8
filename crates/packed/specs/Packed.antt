-- 02, request 3: "Packed decimal here is five digits, one a half-byte, highest first, the upper half of a byte before the lower, then a sign half-byte:
-- 12 plus, 13 minus." Read and written once, as three bytes a, b and c.
use Rattle.std.specs.Prelude.{ℕ, ◌+◌, ◌*◌, ◌/◌, ◌%◌, Bool, cond, not, ◌&&◌, ◌||◌, List, [], ◌∷◌, leb, eqb, ℤ, pos, negsuc, neg_ℤ, nat_abs, get_or}
use Rattle.std.specs.Int.Signed.{le_z}

-- ---- reading

abbrev pub upper : ℕ → ℕ
upper b = b / 16

abbrev pub lower : ℕ → ℕ
lower b = b % 16

-- "five digits, one a half-byte, highest first, the upper half of a byte before the lower"
unfoldable pub magnitude : ℕ → ℕ → ℕ → ℕ
magnitude a b c = 10000 * upper a + (1000 * lower a + (100 * upper b + (10 * lower b + upper c)))

-- "then a sign half-byte: 12 plus, 13 minus"
unfoldable pub is_minus : ℕ → Bool
is_minus c = eqb (lower c) 13

unfoldable pub with_sign : Bool → ℕ → ℤ
with_sign minus m = cond minus (neg_ℤ (pos m)) (pos m)

-- the number that the bytes hold
abbrev pub packed_value : ℕ → ℕ → ℕ → ℤ
packed_value a b c = with_sign (is_minus c) (magnitude a b c)

-- the coordinate whose three bytes stand at `at`
abbrev pub coordinate_at : List ℕ → ℕ → ℤ
coordinate_at s at = packed_value (get_or s at 0) (get_or s (at + 1) 0) (get_or s (at + 2) 0)

-- ---- the two questions

-- both halves are digits
unfoldable pub are_digits : ℕ → Bool
are_digits b = leb (upper b) 9 && leb (lower b) 9

-- a digit and a sign
unfoldable pub is_last : ℕ → Bool
is_last c = leb (upper c) 9 && (eqb (lower c) 12 || eqb (lower c) 13)

-- 15. "15 for a digit above 9, another sign or minus zero"
unfoldable pub is_packed : ℕ → ℕ → ℕ → Bool
is_packed a b c = (are_digits a && are_digits b) && (is_last c && not (is_minus c && eqb (magnitude a b c) 0))

-- the three bytes at `at` are packed decimal
abbrev pub packed_at : List ℕ → ℕ → Bool
packed_at s at = is_packed (get_or s at 0) (get_or s (at + 1) 0) (get_or s (at + 2) 0)

-- 16. "16 for a value outside -32,768 to 32,767" (`negsuc 32767` is -32,768)
unfoldable pub is_place : ℤ → Bool
is_place z = le_z (negsuc 32767) z && le_z z (pos 32767)

-- ---- writing

abbrev pub sign_of : ℤ → ℕ
sign_of (pos m) = 12
sign_of (negsuc m) = 13

-- the digits of m, and a sign
unfoldable pub packed_of : ℕ → ℕ → List ℕ
packed_of m sign =
    (16 * (m / 10000 % 10) + m / 1000 % 10) ∷ (16 * (m / 100 % 10) + m / 10 % 10) ∷ (16 * (m % 10) + sign) ∷ []

abbrev pub packed : ℤ → List ℕ
packed z = packed_of (nat_abs z) (sign_of z)
