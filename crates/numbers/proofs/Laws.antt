-- Laws on little-endian integers, each for any width. Assumes nothing.
use Rattle.std.specs.Prelude.{ℕ, zero, suc, ◌+◌, ◌*◌, ◌/◌, ◌%◌, ◌^◌, ◌-◌, ◌≤◌, ◌<◌, ◌≡◌, refl, List, ◌∷◌, ◌++◌, length, get_or, take, drop}
use Rattle.std.proofs.Common.{sym, ap, ap₂, ◌∙◌, add-zero, add-suc, suc-add, add_assoc, arith, length-append, length-take, pow-add, drop-cons, get_or-take, get_or-drop, get_or-append-add, length-take-le}
use Rattle.std.proofs.Math.Decide.{dec_lt}
use Rattle.std.proofs.Math.ListN.{get_or-append, get_or-eq_default}
use Rattle.std.proofs.lemmas.List.Edits.{sets, sets-eq}
use Rattle.std.specs.Int.{Width, w8, w16, w32, w64, w128}
use mir.Val.{Fits, SFits, bytes, to_z}
use Rattle.std.proofs.Math.Facts.{sfits_to_z}
use Rattle.lists.specs.Stores.{Clear, Kept}
use Rattle.lists.proofs.StoreLaws.{sets_append, kept_sets}
use Rattle.numbers.specs.Little.{le_at, le_bytes, signed, Bytes}

-- ---- how long and how large

pub le_length : (w v : ℕ) → length (le_bytes w v) ≡ w
unfolding le_bytes
le_length zero v = refl
le_length (suc w) v = ap suc (le_length w (v / 256))

-- one more byte multiplies the bound by 256
pub pow_byte : (w : ℕ) → 2 ^ (8 * suc w) ≡ 2 ^ (8 * w) * 256
pow_byte w = let e : 8 * suc w ≡ 8 * w + 8 = omega arith in rw (e, pow-add 2 (8 * w) 8)

pub le_bound : (w : ℕ) (s : List ℕ) (at : ℕ) → Bytes s → le_at w s at < 2 ^ (8 * w)
unfolding le_at
le_bound zero s at b = omega arith
le_bound (suc w) s at b = rw (pow_byte w) (omega (arith, b at, le_bound w s (suc at) b))

pub bytes_take : (k : ℕ) (s : List ℕ) → Bytes s → Bytes (take k s)
bytes_take k s b i =
    elim (dec_lt i k) [
      | yes h ↦ rw (get_or-take k s i 0 h) (b i)
      | no h ↦ (let l : length (take k s) ≤ i = omega (arith, length-take k s) in rw (get_or-eq_default (take k s) 0 l) (omega arith))
    ]

pub bytes_drop : (k : ℕ) (s : List ℕ) → Bytes s → Bytes (drop k s)
bytes_drop k s b i = rw (get_or-drop k s i 0) (b (k + i))

pub bytes_append : (s t : List ℕ) → Bytes s → Bytes t → Bytes (s ++ t)
bytes_append s t a b i =
    elim (dec_lt i (length s)) [
      | yes h ↦ rw (get_or-append s t 0 i h) (a i)
      | no h ↦ (let e : i ≡ length s + (i - length s) = omega arith in rw (e, get_or-append-add s t (i - length s) 0) (b (i - length s)))
    ]

-- what holds a number are bytes
pub le_bytes_lem : (w v : ℕ) → Bytes (le_bytes w v)
unfolding le_bytes
le_bytes_lem zero v i = omega arith
le_bytes_lem (suc w) v zero = omega arith
le_bytes_lem (suc w) v (suc i) = le_bytes_lem w (v / 256) i

-- ---- where a number stands

-- A number depends on its own bytes alone; the four laws below are cases of this one.
pub le_same : (w : ℕ) (s t : List ℕ) (a b : ℕ) → ((i : ℕ) → i < w → get_or s (a + i) 0 ≡ get_or t (b + i) 0)
    → le_at w s a ≡ le_at w t b
unfolding le_at
le_same zero s t a b h = refl
le_same (suc w) s t a b h =
    let here : get_or s a 0 ≡ get_or t b 0 = simp add-zero at (h 0 (omega arith)) in
    let rest = le_same w s t (suc a) (suc b) (λ i l. simp (suc-add, ← add-suc) (h (suc i) (omega arith))) in
    omega arith

pub le_drop : (w k : ℕ) (s : List ℕ) (at : ℕ) → le_at w (drop k s) at ≡ le_at w s (k + at)
le_drop w k s at = le_same w (drop k s) s at (k + at) (λ i l. rw (add_assoc k at i) (get_or-drop k s (at + i) 0))

pub le_take : (w k : ℕ) (s : List ℕ) (at : ℕ) → at + w ≤ k → le_at w (take k s) at ≡ le_at w s at
le_take w k s at h = le_same w (take k s) s at at (λ i l. get_or-take k s (at + i) 0 (omega arith))

pub le_append : (w : ℕ) (p q : List ℕ) (at : ℕ) → at + w ≤ length p → le_at w (p ++ q) at ≡ le_at w p at
le_append w p q at h = le_same w (p ++ q) p at at (λ i l. get_or-append p q 0 (at + i) (omega arith))

pub le_after : (w : ℕ) (p q : List ℕ) (at : ℕ) → le_at w (p ++ q) (length p + at) ≡ le_at w q at
le_after w p q at =
    le_same w (p ++ q) q (length p + at) at (λ i l. rw (add_assoc (length p) at i) (get_or-append-add p q (at + i) 0))

-- ---- what is written is read back, and the reverse

le_round : (w v : ℕ) → v < 2 ^ (8 * w) → le_at w (le_bytes w v) 0 ≡ v
unfolding le_at le_bytes
le_round zero v h = omega arith
le_round (suc w) v h =
    let k : v < 2 ^ (8 * w) * 256 = rw (pow_byte w) at h in
    omega (arith, le_drop w 1 (v % 256 ∷ le_bytes w (v / 256)) 0, le_round w (v / 256) (omega arith))

-- in a list of several fields, p before it and q after it
pub read_back : (w : ℕ) (p q : List ℕ) (v at : ℕ) → length p ≡ at → v < 2 ^ (8 * w)
    → le_at w (p ++ le_bytes w v ++ q) at ≡ v
read_back w p q v at e h =
    let l : length (p ++ le_bytes w v) ≡ at + w = simp (length-append, le_length, e) in
    let z : at ≡ length p + 0 = omega arith in
    le_append w (p ++ le_bytes w v) q at (omega arith) ∙ rw z (le_after w p (le_bytes w v) 0 ∙ le_round w v h)

-- in what `write` leaves
pub read_back_sets : (w : ℕ) (s : List ℕ) (at v : ℕ) → at + w ≤ length s → v < 2 ^ (8 * w)
    → le_at w (sets s at (le_bytes w v)) at ≡ v
read_back_sets w s at v h k =
    let room : at + length (le_bytes w v) ≤ length s = rw (le_length w v) h in
    rw (sets-eq (le_bytes w v) s at room)
    (read_back w (take at s) (drop (at + length (le_bytes w v)) s) v at (length-take-le at s (omega arith)) k)

pub write_back : (w : ℕ) (s : List ℕ) (at : ℕ) → Bytes s → at + w ≤ length s
    → le_bytes w (le_at w s at) ≡ take w (drop at s)
unfolding le_at le_bytes
write_back zero s at b h = refl
write_back (suc w) s at b h =
    let low : (get_or s at 0 + 256 * le_at w s (suc at)) % 256 ≡ get_or s at 0 = omega (arith, b at) in
    let high : (get_or s at 0 + 256 * le_at w s (suc at)) / 256 ≡ le_at w s (suc at) = omega (arith, b at) in
    rw (drop-cons s at 0 (omega arith), high) (ap₂ ◌∷◌ low (write_back w s (suc at) b (omega arith)))

-- ---- what a write leaves

-- a number off the range stays
pub number_kept : {s t : List ℕ} {a b : ℕ} → Kept s t a b → (w p : ℕ) → Clear p w a b → le_at w t p ≡ le_at w s p
number_kept {s} {t} k w p o = le_same w t s p p (λ i h. k.rest (p + i) (omega arith))

-- what `write` leaves
pub kept_write : (w : ℕ) (s : List ℕ) (i v : ℕ) → Kept s (sets s i (le_bytes w v)) i (i + w)
kept_write w s i v = rw (le_length w v) at (kept_sets (le_bytes w v) s i)

-- ---- signed numbers

-- `signed` is how the machine reads the same bits
pub signed_is : (w : Width) (u : ℕ) → signed (bytes w) u ≡ to_z w u
signed_is w8 u = refl
signed_is w16 u = refl
signed_is w32 u = refl
signed_is w64 u = refl
signed_is w128 u = refl

-- so it fits the signed type of that width, as the proofs of code that returns one need
pub signed_fits : (w : Width) (u : ℕ) → Fits w u → SFits w (signed (bytes w) u)
signed_fits w u h = rw (signed_is w u) (sfits_to_z h)

-- ---- numbers written one after the other

-- a number, and the rest behind it
pub write_then : (w v : ℕ) (s : List ℕ) (at : ℕ) (rest : List ℕ) → sets s at (le_bytes w v ++ rest) ≡ sets (sets s at (le_bytes w v)) (at + w) rest
write_then w v s at rest = sets_append s at (le_bytes w v) rest ∙ rw (le_length w v)

pub write_joined : (w v : ℕ) (s : List ℕ) (at : ℕ) (rest : List ℕ) {t u : List ℕ} {next : ℕ} → next ≡ at + w
    → t ≡ sets s at (le_bytes w v) → u ≡ sets t next rest → u ≡ sets s at (le_bytes w v ++ rest)
write_joined w v s at rest n e f =
    f ∙ ap₂ (λ l i. sets l i rest) e n ∙ sym (write_then w v s at rest)
