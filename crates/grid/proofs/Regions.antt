-- A region's numbers, written one after the other and read back. Assumes nothing.
use Prim.Native.Nat.{ℕ, ◌+◌, ◌*◌, ◌^◌, ◌<◌, ◌≤◌}
use mathlib.Core.Path.{◌≡◌, refl, sym, ap, subst, ◌∙◌}
use mathlib.Core.List.{List, ◌++◌, append_assoc}
use native.Mathlib.Nat.{add-zero}
use native.Mathlib.Omega.{arith}
use lib.ListN.{length, length-append}
use lib.Seq.{sets}
use Rattle.lists.specs.Stores.{Kept}
use Rattle.lists.proofs.StoreLaws.{sets_append, kept_sets}
use Rattle.numbers.specs.Little.{le_at, le_bytes}
use Rattle.numbers.proofs.Laws.{le_length, write_joined}
use Rattle.numbers.proofs.Runs.{Stage, stage_start, stage_next, stage_read, stage_last}
use Rattle.grid.specs.declared.Region.{Region}
use Rattle.grid.specs.Table.{region_size, region_at, side_bytes, region_bytes}
use Rattle.grid.specs.Steps.{RegionPut}

-- ---- writing

pub sides_put : (s : List ℕ) (at : ℕ) (r : Region) {t u v w : List ℕ} → t ≡ sets s at (le_bytes 2 r.west)
    → u ≡ sets t (at + 2) (le_bytes 2 r.east) → v ≡ sets u (at + 4) (le_bytes 2 r.south) → w ≡ sets v (at + 6) (le_bytes 2 r.north)
    → w ≡ sets s at (side_bytes r)
unfolding side_bytes
sides_put s at r {t} {u} a b c d =
    write_joined 2 r.west s at _ refl a
    (write_joined 2 r.east t (at + 2) _ (omega arith) b (write_joined 2 r.south u (at + 4) _ (omega arith) c d))

pub side_length : (r : Region) → length (side_bytes r) ≡ 8
unfolding side_bytes
side_length r =
    simp length-append (omega (arith, le_length 2 r.west, le_length 2 r.east, le_length 2 r.south, le_length 2 r.north))

pub region_length : (r : Region) → length (region_bytes r) ≡ region_size
unfolding region_bytes
region_length r =
    simp length-append
    (omega (arith, side_length r, le_length 2 r.radius, le_length 2 r.last, le_length 8 r.latest.num, le_length 4 r.latest.den))

pub region_put : (s : List ℕ) (at : ℕ) (r : Region) {t u v w x : List ℕ} → t ≡ sets s at (side_bytes r)
    → u ≡ sets t (at + 8) (le_bytes 2 r.radius) → v ≡ sets u (at + 10) (le_bytes 2 r.last) → w ≡ sets v (at + 12) (le_bytes 8 r.latest.num)
    → x ≡ sets w (at + 20) (le_bytes 4 r.latest.den) → x ≡ sets s at (region_bytes r)
unfolding region_bytes
region_put s at r {t} {u} {v} {w} {x} a b c d e =
    rest ∙ ap (λ l. sets l (at + 8) behind) a ∙ sym (sets_append s at (side_bytes r) behind ∙ ap (λ i. sets (sets s at (side_bytes r)) (at + i) behind) (side_length r))
  where
    behind : List ℕ
    behind = le_bytes 2 r.radius ++ (le_bytes 2 r.last ++ (le_bytes 8 r.latest.num ++ le_bytes 4 r.latest.den))

    rest : x ≡ sets t (at + 8) behind
    rest =
        write_joined 2 r.radius t (at + 8) _ (omega arith) b
        (write_joined 2 r.last u (at + 10) _ (omega arith) c (write_joined 8 r.latest.num v (at + 12) _ (omega arith) d e))

-- ---- reading back

-- the numbers of a region have their widths
pub record Fitting (r : Region) : Type 0 where
  pub west : r.west < 65536
  pub east : r.east < 65536
  pub south : r.south < 65536
  pub north : r.north < 65536
  pub radius : r.radius < 65536
  pub last : r.last < 65536
  pub num : r.latest.num < 2 ^ 64
  pub den : r.latest.den < 4294967296

module _ (s : List ℕ) (at i : ℕ) (r : Region) (f : Fitting r) (room : at + region_size * i + region_size ≤ length s) where
  abbrev From : ℕ → List ℕ → Type 0
  From = Stage s (at + region_size * i) (region_bytes r)

  abbrev after : List ℕ
  after = sets s (at + region_size * i) (region_bytes r)

  -- from each number on
  b6 : List ℕ
  b6 = le_bytes 8 r.latest.num ++ le_bytes 4 r.latest.den

  b5 : List ℕ
  b5 = le_bytes 2 r.last ++ b6

  b4 : List ℕ
  b4 = le_bytes 2 r.radius ++ b5

  b3 : List ℕ
  b3 = le_bytes 2 r.north ++ b4

  b2 : List ℕ
  b2 = le_bytes 2 r.south ++ b3

  b1 : List ℕ
  b1 = le_bytes 2 r.east ++ b2

  whole : region_bytes r ≡ le_bytes 2 r.west ++ b1
  unfolding side_bytes region_bytes b1 b2 b3 b4 b5 b6
  whole = simp append_assoc

  f0 : From 0 (le_bytes 2 r.west ++ b1)
  f0 = subst (From 0) whole (stage_start s (at + region_size * i) (region_bytes r))

  f1 : From 2 b1
  f1 = stage_next s (at + region_size * i) (region_bytes r) 0 2 r.west b1 f0

  f2 : From 4 b2
  unfolding b1
  f2 = stage_next s (at + region_size * i) (region_bytes r) 2 2 r.east b2 f1

  f3 : From 6 b3
  unfolding b2
  f3 = stage_next s (at + region_size * i) (region_bytes r) 4 2 r.south b3 f2

  f4 : From 8 b4
  unfolding b3
  f4 = stage_next s (at + region_size * i) (region_bytes r) 6 2 r.north b4 f3

  f5 : From 10 b5
  unfolding b4
  f5 = stage_next s (at + region_size * i) (region_bytes r) 8 2 r.radius b5 f4

  f6 : From 12 b6
  unfolding b5
  f6 = stage_next s (at + region_size * i) (region_bytes r) 10 2 r.last b6 f5

  f7 : From 20 (le_bytes 4 r.latest.den)
  unfolding b6
  f7 = stage_next s (at + region_size * i) (region_bytes r) 12 8 r.latest.num (le_bytes 4 r.latest.den) f6

  abbrev read : (o w v : ℕ) (rest : List ℕ) → From o (le_bytes w v ++ rest) → at + region_size * i + o + w ≤ length s → v < 2 ^ (8 * w)
      → le_at w after (at + region_size * i + o) ≡ v
  read = stage_read s (at + region_size * i) (region_bytes r)

  pub region_back : region_at after at i ≡ r
  unfolding region_at b1 b2 b3 b4 b5 b6
  region_back =
      rw (
        ap (le_at 2 after) (sym (add-zero (at + region_size * i))) ∙ read 0 2 r.west b1 f0 (omega arith) f.west,
        read 2 2 r.east b2 f1 (omega arith) f.east,
        read 4 2 r.south b3 f2 (omega arith) f.south,
        read 6 2 r.north b4 f3 (omega arith) f.north,
        read 8 2 r.radius b5 f4 (omega arith) f.radius,
        read 10 2 r.last b6 f5 (omega arith) f.last,
        read 12 8 r.latest.num (le_bytes 4 r.latest.den) f6 (omega arith) f.num,
        stage_last s (at + region_size * i) (region_bytes r) 20 4 r.latest.den f7 (omega arith) f.den,
      )

-- ---- a region written

pub put_is : {s t : List ℕ} (at i : ℕ) (r : Region) → at + region_size * i + region_size ≤ length s → Fitting r
    → t ≡ sets s (at + region_size * i) (region_bytes r) → RegionPut s t at i r
put_is {s} {t} at i r room f e =
    record {
      kept = rw e
          (subst (λ (k : ℕ). Kept s (sets s (at + region_size * i) (region_bytes r)) (at + region_size * i) (at + region_size * i + k)) (region_length r)
          (kept_sets (region_bytes r) s (at + region_size * i)));
      here = rw e (region_back s at i r f room);
    }
