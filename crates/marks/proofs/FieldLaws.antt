-- Laws of places as two bytes and of marks that are given by their fields. Assumes nothing.
use Rattle.std.specs.Prelude.{ℕ, ◌+◌, ◌-◌, ◌*◌, ◌/◌, ◌%◌, ◌<◌, ◌≡◌, refl, List, ◌++◌, ℤ, pos, negsuc, length}
use Rattle.std.proofs.Math.Path.{ap}
use Rattle.std.proofs.Common.{◌∙◌, lt-ltb, le-ltb}
use Rattle.std.proofs.Math.Decide.{dec_lt}
use native.Mathlib.Omega.{arith}
use Rattle.std.specs.Int.Signed.{mag}
use Rattle.numbers.specs.Little.{le_at, le_bytes, signed, Bytes}
use Rattle.numbers.proofs.Laws.{le_after, le_bytes_lem, bytes_append}
use Rattle.marks.specs.declared.Mark.{Mark}
use Rattle.marks.specs.Marks.{mark_size, place_bits, mark_bytes}
use Rattle.marks.specs.Fields.{FieldsFit, HasFields}

-- ---- places

pub bits_bound : (z : ℤ) → mag z < 32768 → place_bits z < 65536
unfolding place_bits
bits_bound (pos n) h = omega arith
bits_bound (negsuc n) h = omega arith

-- The two bytes hold the place, and the reverse.
pub signed_bits : (z : ℤ) → mag z < 32768 → signed 2 (place_bits z) ≡ z
unfolding place_bits
signed_bits (pos n) h = rw (lt-ltb n 32768 h)
signed_bits (negsuc n) h = rw (le-ltb (65535 - n) 32768 (omega arith)) (ap negsuc (omega arith))

pub bits_signed : (u : ℕ) → u < 65536 → place_bits (signed 2 u) ≡ u
unfolding place_bits
bits_signed u h =
    elim (dec_lt u 32768) [
      | yes l ↦ rw (lt-ltb u 32768 l)
      | no l ↦ rw (le-ltb u 32768 (omega arith)) (omega arith)
    ]

-- ---- marks

pub mark_length : (a : Mark) → length (mark_bytes a) ≡ mark_size
unfolding le_bytes
mark_length a = refl

field : (w v : ℕ) (rest : List ℕ) → Bytes rest → Bytes (le_bytes w v ++ rest)
field w v rest b = bytes_append (le_bytes w v) rest (le_bytes_lem w v) b

pub mark_bytes_lem : (a : Mark) → Bytes (mark_bytes a)
mark_bytes_lem a =
    field 2 (place_bits a.x) _
    (field 2 (place_bits a.y) _ (field 2 a.radius _ (field 2 a.priority _ (field 1 a.kind (le_bytes 2 a.tag) (le_bytes_lem 2 a.tag)))))

two_bytes : (v : ℕ) → v < 65536 → v % 256 + 256 * (v / 256 % 256 + 256 * 0) ≡ v
two_bytes v h = omega arith

one_byte : (v : ℕ) → v < 256 → v % 256 + 256 * 0 ≡ v
one_byte v h = omega arith

-- A mark of these fields behind n marks is mark n, and has them.
module _ (p : List ℕ) (n : ℕ) (long : length p ≡ mark_size * n) (a : Mark) (fit : FieldsFit a) where
  behind : (w at : ℕ) → le_at w (p ++ mark_bytes a) (mark_size * n + at) ≡ le_at w (mark_bytes a) at
  behind w at = rw (← long) (le_after w p (mark_bytes a) at)

  pub mark_reads : HasFields (p ++ mark_bytes a) n a
  unfolding le_at le_bytes
  mark_reads =
      let none : mark_size * n ≡ mark_size * n + 0 = omega arith in
      record {
        x = ap (signed 2) (ap (le_at 2 (p ++ mark_bytes a)) none ∙ behind 2 0 ∙ two_bytes _ (bits_bound a.x fit.x_fits)) ∙ signed_bits a.x fit.x_fits;
        y = ap (signed 2) (behind 2 2 ∙ two_bytes _ (bits_bound a.y fit.y_fits)) ∙ signed_bits a.y fit.y_fits;
        radius = behind 2 4 ∙ two_bytes _ fit.radius_fits;
        priority = behind 2 6 ∙ two_bytes _ fit.priority_fits;
        kind = behind 1 8 ∙ one_byte _ fit.kind_fits;
        tag = behind 2 9 ∙ two_bytes _ fit.tag_fits;
      }
