-- The bytes of a map, bit by bit, and that a list of bytes with these bits is the map. Assumes nothing.
use Prim.Native.Nat.{ℕ, zero, suc, ◌+◌, ◌-◌, ◌*◌, ◌/◌, ◌%◌, ◌^◌, ◌≤◌, ◌<◌}
use Rattle.std.specs.Prelude.{◌≡◌, Bool, true, false, ◌&&◌, List, [], ◌++◌}
use Rattle.std.proofs.Math.Path.{refl, sym, ap}
use Rattle.std.proofs.Common.{◌∙◌, pow-suc, lt-ltb, le-ltb, length-append, length-drop, get_or-append-add, get_or-drop}
use Rattle.std.proofs.Math.Logic.{dite}
use Rattle.std.proofs.Math.Decide.{dec_lt}
use native.Mathlib.Omega.{arith}
use Rattle.std.proofs.Math.Dec.{ltb}
use Rattle.std.proofs.Math.ListN.{length, get_or, drop, get_or-append}
use Rattle.std.proofs.Math.Seq.{ext_get_or}
use Rattle.std.proofs.lemmas.List.{get_or_at}
use Rattle.lists.specs.Tests.{bit}
use Rattle.lists.proofs.TestLaws.{bit_small}
use Rattle.numbers.specs.Little.{Bytes}
use Rattle.bitmap.specs.Map.{map_size, map_byte, map_part, map_bytes, bit_at}
use Rattle.bitmap.specs.Facts.{bit_of, Shows}
use Rattle.bitmap.proofs.Lemmas.Bits.{bit_low, bit_high, bits_same}

-- ---- one byte

byte_small : (shown : ℕ → Bool) (from width : ℕ) → map_byte shown from width < 2 ^ width
unfolding map_byte
byte_small shown from zero = omega arith
byte_small shown from (suc width) = rw (pow-suc 2 width) (more (shown (from + width)) (byte_small shown from width))
  where
    more : (b : Bool) → map_byte shown from width < 2 ^ width → map_byte shown from width + bit b * 2 ^ width < 2 ^ width * 2
    more true h = omega arith
    more false h = omega arith

byte_bit : (shown : ℕ → Bool) (from width i : ℕ) → i < width → bit_of (map_byte shown from width) i ≡ bit (shown (from + i))
unfolding map_byte
byte_bit shown from zero i h = absurd (omega arith)
byte_bit shown from (suc width) i h =
    let lo = map_byte shown from width in
    let hi = bit (shown (from + width)) in
    dite (dec_lt i width)
    (λ l. bit_low width lo hi i l ∙ byte_bit shown from width i l)
    (λ l.
    let e : i ≡ width + 0 = omega arith in
    let f : i ≡ width = omega arith in
    ap (bit_of (lo + hi * 2 ^ width)) e
    ∙ bit_high width lo hi 0 (byte_small shown from width)
    ∙ omega (arith, bit_small (shown (from + width)))
    ∙ ap (λ (x : ℕ). bit (shown (from + x))) (sym f))

-- ---- the bytes of a map

part_length : (shown : ℕ → Bool) (size : ℕ) → length (map_part shown size) ≡ size
unfolding map_part
part_length shown zero = refl
part_length shown (suc size) = simp length-append (omega (arith, part_length shown size))

part_byte : (shown : ℕ → Bool) (size i : ℕ) → i < size → get_or (map_part shown size) i 0 ≡ map_byte shown (8 * i) 8
unfolding map_part
part_byte shown zero i h = absurd (omega arith)
part_byte shown (suc size) i h =
    let long = part_length shown size in
    dite (dec_lt i size)
    (λ l. get_or-append (map_part shown size) _ 0 i (omega arith) ∙ part_byte shown size i l)
    (λ l.
    let e : size ≡ i = omega arith in
    get_or_at (map_part shown size) _ [] 0 i (long ∙ e) ∙ ap (λ (x : ℕ). map_byte shown (8 * x) 8) e)

module _ (shown : ℕ → Bool) (size : ℕ) (rest : List ℕ) where
  front_byte : (i : ℕ) → i < size → get_or (map_part shown size ++ rest) i 0 ≡ map_byte shown (8 * i) 8
  front_byte i h =
      let long = part_length shown size in
      get_or-append (map_part shown size) rest 0 i (omega arith) ∙ part_byte shown size i h

  front_bit : (m : ℕ) → m < 8 * size → bit_at (map_part shown size ++ rest) m ≡ bit (shown m)
  front_bit m h =
      let e : 8 * (m / 8) + m % 8 ≡ m = omega arith in
      ap (λ (x : ℕ). bit_of x (m % 8)) (front_byte (m / 8) (omega arith))
      ∙ byte_bit shown (8 * (m / 8)) 8 (m % 8) (omega arith)
      ∙ ap (λ (x : ℕ). bit (shown x)) e

-- ---- the map of n marks

module _ (shown : ℕ → Bool) (n : ℕ) where
  pub map_length : length (map_bytes shown n) ≡ map_size n
  unfolding map_bytes
  map_length = part_length _ (map_size n)

  pub map_shows : (rest : List ℕ) → Shows shown n (map_bytes shown n ++ rest)
  unfolding map_bytes
  map_shows rest =
      let at = front_bit (λ m. ltb m n && shown m) (map_size n) rest in
      record {
        bits = λ m h. at m (omega arith) ∙ ap (λ (t : Bool). bit (t && shown m)) (lt-ltb m n h);
        unused = λ m h l. at m l ∙ ap (λ (t : Bool). bit (t && shown m)) (le-ltb m n h);
      }

  map_small : (rest : List ℕ) (i : ℕ) → i < map_size n → get_or (map_bytes shown n ++ rest) i 0 < 256
  unfolding map_bytes
  map_small rest i h =
      rw (front_byte (λ m. ltb m n && shown m) (map_size n) rest i h) (byte_small (λ m. ltb m n && shown m) (8 * i) 8)

-- tests that agree have the same map
module _ (p q : ℕ → Bool) (same : (m : ℕ) → p m ≡ q m) where
  same_byte_of : (from width : ℕ) → map_byte p from width ≡ map_byte q from width
  unfolding map_byte
  same_byte_of from zero = refl
  same_byte_of from (suc width) = rw (same_byte_of from width, same (from + width))

  same_part : (size : ℕ) → map_part p size ≡ map_part q size
  unfolding map_part
  same_part zero = refl
  same_part (suc size) = rw (same_part size, same_byte_of (8 * size) 8)

pub map_same : (p q : ℕ → Bool) (n : ℕ) → ((m : ℕ) → m < n → p m ≡ q m) → map_bytes p n ≡ map_bytes q n
unfolding map_bytes
map_same p q n h = same_part (λ m. ltb m n && p m) (λ m. ltb m n && q m) agree (map_size n)
  where
    agree : (m : ℕ) → ltb m n && p m ≡ ltb m n && q m
    agree m = dite (dec_lt m n) (λ l. rw (h m l)) (λ l. rw (le-ltb m n (omega arith)))

-- two lists that show the same marks have the same bits below 8 * map_size n
same_bits : {shown : ℕ → Bool} {n : ℕ} {a b : List ℕ} → Shows shown n a → Shows shown n b
    → (m : ℕ) → m < 8 * map_size n → bit_at a m ≡ bit_at b m
same_bits {n = n} s t m h =
    dite (dec_lt m n)
    (λ l. s.bits m l ∙ sym (t.bits m l))
    (λ l. s.unused m (omega arith) h ∙ sym (t.unused m (omega arith) h))

-- and so the same bytes
same_byte : {shown : ℕ → Bool} {n : ℕ} {a b : List ℕ} (i : ℕ) → i < map_size n → get_or a i 0 < 256 → get_or b i 0 < 256
    → Shows shown n a → Shows shown n b → get_or a i 0 ≡ get_or b i 0
same_byte {a = a} {b = b} i h p q s t = bits_same 8 (get_or a i 0) (get_or b i 0) p q bits
  where
    bits : (j : ℕ) → j < 8 → bit_of (get_or a i 0) j ≡ bit_of (get_or b i 0) j
    bits j l =
        let d : (8 * i + j) / 8 ≡ i = omega arith in
        let r : (8 * i + j) % 8 ≡ j = omega arith in
        simp (d, r) at (same_bits s t (8 * i + j) (omega arith))

module _ {shown : ℕ → Bool} {n : ℕ} {after : List ℕ} (s : Shows shown n after) (small : Bytes after) (before : List ℕ)
    (room : map_size n ≤ length before) (long : length after ≡ length before)
    (rest : (i : ℕ) → map_size n ≤ i → get_or after i 0 ≡ get_or before i 0) where
  map : List ℕ
  map = map_bytes shown n ++ drop (map_size n) before

  same_length : length after ≡ length map
  unfolding map
  same_length = simp (length-append, length-drop) (omega (arith, map_length shown n))

  same_first : (i : ℕ) → i < map_size n → get_or after i 0 ≡ get_or map i 0
  unfolding map
  same_first i h =
      let tail = drop (map_size n) before in
      same_byte i h (small i) (map_small shown n tail i h) s (map_shows shown n tail)

  same_rest : (i : ℕ) → map_size n ≤ i → get_or after i 0 ≡ get_or map i 0
  unfolding map
  same_rest i h =
      let j = i - map_size n in
      let e : i ≡ length (map_bytes shown n) + j = omega (arith, map_length shown n) in
      let f : map_size n + j ≡ i = omega arith in
      rest i h
      ∙ sym (ap (λ (x : ℕ). get_or before x 0) f)
      ∙ sym (get_or-drop (map_size n) before j 0)
      ∙ sym (get_or-append-add (map_bytes shown n) (drop (map_size n) before) j 0)
      ∙ sym (ap (λ (x : ℕ). get_or map x 0) e)

  pub map_is : after ≡ map_bytes shown n ++ drop (map_size n) before
  unfolding map
  map_is =
      ext_get_or 0 after map same_length (λ i _. dite (dec_lt i (map_size n)) (same_first i) (λ l. same_rest i (omega arith)))
