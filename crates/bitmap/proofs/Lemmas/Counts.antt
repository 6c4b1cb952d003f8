-- How counts of bits add up, and the count of a map that shows the marks. Assumes nothing.
use Rattle.std.specs.Prelude.{ℕ, zero, suc, ◌+◌, ◌-◌, ◌*◌, ◌≤◌, ◌<◌, ◌≡◌, refl, Bool, List}
use Rattle.std.proofs.Common.{ap, ◌∙◌, add-zero, add-suc, arith}
use Rattle.lists.specs.Tests.{bit, how_many}
use Rattle.bitmap.specs.Map.{map_size, bit_at, count_shown}
use Rattle.bitmap.specs.Facts.{Shows, count_bits}

pub count_bits_same : (f g : ℕ → ℕ) (n : ℕ) → ((i : ℕ) → i < n → f i ≡ g i) → count_bits f n ≡ count_bits g n
unfolding count_bits
count_bits_same f g zero h = refl
count_bits_same f g (suc n) h = omega (arith, h n (omega arith), count_bits_same f g n (λ i l. h i (omega arith)))

pub count_bits_add : (f : ℕ → ℕ) (a b : ℕ) → count_bits f (a + b) ≡ count_bits f a + count_bits (λ i. f (a + i)) b
unfolding count_bits
count_bits_add f a zero = rw (add-zero a) (omega arith)
count_bits_add f a (suc b) = rw (add-suc a b) (omega (arith, count_bits_add f a b))

count_bits_none : (f : ℕ → ℕ) (n : ℕ) → ((i : ℕ) → i < n → f i ≡ 0) → count_bits f n ≡ 0
unfolding count_bits
count_bits_none f zero h = refl
count_bits_none f (suc n) h = omega (arith, h n (omega arith), count_bits_none f n (λ i l. h i (omega arith)))

-- bits that are 0 do not count
pub count_bits_past : (f : ℕ → ℕ) (a b : ℕ) → a ≤ b → ((i : ℕ) → a ≤ i → i < b → f i ≡ 0)
    → count_bits f b ≡ count_bits f a
count_bits_past f a b l h =
    let e : b ≡ a + (b - a) = omega arith in
    let z = count_bits_none (λ i. f (a + i)) (b - a) (λ i k. h (a + i) (omega arith) (omega arith)) in
    ap (count_bits f) e ∙ omega (arith, count_bits_add f a (b - a), z)

pub count_bits_le : (f : ℕ → ℕ) (n : ℕ) → ((i : ℕ) → f i ≤ 1) → count_bits f n ≤ n
unfolding count_bits
count_bits_le f zero h = omega arith
count_bits_le f (suc n) h = omega (arith, h n, count_bits_le f n h)

count_bits_marks : (shown : ℕ → Bool) (n : ℕ) → count_bits (λ m. bit (shown m)) n ≡ count_shown shown n
unfolding count_bits count_shown how_many
count_bits_marks shown zero = refl
count_bits_marks shown (suc n) = omega (arith, count_bits_marks shown n)

pub count_shown_lem : (shown : ℕ → Bool) (n : ℕ) (map : List ℕ) → Shows shown n map
    → count_bits (bit_at map) (8 * map_size n) ≡ count_shown shown n
count_shown_lem shown n map s =
    count_bits_past (bit_at map) n (8 * map_size n) (omega arith) s.unused
    ∙ count_bits_same (bit_at map) (λ m. bit (shown m)) n s.bits
    ∙ count_bits_marks shown n
