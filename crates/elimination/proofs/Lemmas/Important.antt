-- The marks of priority p and above are the highest-ranked of a reel, in either edition, and alike in two reels that hold the same.
use Rattle.std.specs.Prelude.{ℕ, ◌+◌, ◌-◌, ◌*◌, ◌<◌, ◌≤◌, ◌≡◌, refl, eqb}
use Rattle.std.proofs.Common.{sym, ap, add_assoc, zero-add, leb-true, le-leb}
use Rattle.std.proofs.Math.Path.{ap₂}
use Rattle.std.proofs.Math.Bool.{cond}
use Rattle.std.proofs.Math.Decide.{dec_lt, ℕ_discrete}
use native.Mathlib.Omega.{arith}
use Rattle.lists.proofs.TestLaws.{Passes, passing_is}
use Rattle.numbers.specs.Little.{le_at, signed, Bytes}
use Rattle.numbers.proofs.Laws.{le_same, le_bound}
use Rattle.marks.specs.Marks.{mark_size, radius_offset, priority_offset, y_offset, kind_offset, x_at, y_at, priority_at, used_radius, used_at, touching, rank_radius, rank_key}
use Rattle.marks.specs.Pairs.{pair_value}
use Rattle.elimination.specs.Reel.{Reel, marks_of}
use Rattle.elimination.specs.Alike.{Alike, among, Top}
use Rattle.elimination.specs.Important.{is_important, important, important_count, important_at, SameMark, SameImportant}

-- ---- in one reel

module _ (p : ℕ) (r : Reel) where
  open r use {marks as s, count as n, edition}

  important_is : Passes (is_important p r) 0 n (important p r)
  unfolding important
  important_is = rw (zero-add n) at (passing_is (is_important p r) n 0)

  rising_back : (i j : ℕ) → i < important_count p r → important_at p r i < important_at p r j → i < j
  rising_back i j hi o =
      elim (dec_lt i j) [
        | yes b ↦ b
        | no b ↦
            elim (ℕ_discrete i j)
            [ yes e ↦ absurd (let q = ap (important_at p r) e in omega arith) | no d ↦ absurd (omega (arith, important_is.rising j i (omega arith) hi)) ]
      ]

  pub important_top : n ≤ 4096 → Bytes s → Top (marks_of r) (important_count p r) (important_at p r)
  unfolding rank_key
  important_top few bytes = record { inside = λ i h. (important_is.inside i h).1; once = once; above = above }
    where
      once : (i j : ℕ) → i < important_count p r → j < important_count p r → important_at p r i ≡ important_at p r j → i ≡ j
      once i j hi hj e =
          elim (dec_lt i j) [
            | yes o ↦ absurd (omega (arith, important_is.rising i j o hj))
            | no o ↦ elim (dec_lt j i) [ yes k ↦ absurd (omega (arith, important_is.rising j i k hi)) | no k ↦ omega arith ]
          ]

      above : (i h : ℕ) → i < important_count p r → h < n → rank_key edition s h < rank_key edition s (important_at p r i)
          → (j : ℕ) × (j < important_count p r) × (important_at p r j ≡ h)
      above i h hi hh o =
          let m = important_at p r i in
          let b : m < n = (important_is.inside i hi).1 in
          let least : p ≤ priority_at s m = leb-true p (priority_at s m) (important_is.passed i hi) in
          let most : priority_at s m < 65536 = le_bound 2 s (mark_size * m + priority_offset) bytes in
          important_is.onto h (omega arith) hh (le-leb p (priority_at s h) (omega arith))

-- ---- in two

module _ {r : Reel} {a : ℕ} {q : Reel} {b : ℕ} (same : SameMark r a q b) where
  same_field : (w k : ℕ) → k + w ≤ mark_size → le_at w r.marks (mark_size * a + k) ≡ le_at w q.marks (mark_size * b + k)
  same_field w k h =
      le_same w r.marks q.marks (mark_size * a + k) (mark_size * b + k)
      (λ i l. rw (add_assoc (mark_size * a) k i, add_assoc (mark_size * b) k i) (same.bytes (k + i) (omega arith)))

  same_x : x_at r.marks a ≡ x_at q.marks b
  same_x = ap (signed 2) (le_same 2 r.marks q.marks (mark_size * a) (mark_size * b) (λ i l. same.bytes i (omega arith)))

  same_y : y_at r.marks a ≡ y_at q.marks b
  same_y = ap (signed 2) (same_field 2 y_offset (omega arith))

  same_used : used_at r.marks a ≡ used_at q.marks b
  same_used = ap₂ used_radius (same_field 2 radius_offset (omega arith)) (same_field 1 kind_offset (omega arith))

  same_priority : priority_at r.marks a ≡ priority_at q.marks b
  same_priority = same_field 2 priority_offset (omega arith)

  -- all of the rank key but the number
  same_rank : r.edition ≡ q.edition
      → (65535 - priority_at r.marks a) * 16384 + (16383 - rank_radius r.edition r.marks a)
      ≡ (65535 - priority_at q.marks b) * 16384 + (16383 - rank_radius q.edition q.marks b)
  unfolding rank_radius
  same_rank e =
      ap₂ (λ (v u : ℕ). (65535 - v) * 16384 + (16383 - u)) same_priority (ap₂ (λ (d u : ℕ). cond (eqb d 2) u 0) e same_used)

same_pair : {r q : Reel} {a b c d : ℕ} → r.shape ≡ q.shape → SameMark r a q c → SameMark r b q d
    → pair_value r.shape r.marks r.popups a b ≡ pair_value q.shape q.marks q.popups c d
unfolding pair_value touching
same_pair e x y = rw (e, same_x x, same_y x, same_used x, x.popup, same_x y, same_y y, same_used y, y.popup)

-- ranks that go by the same two first, and then by the numbers, which stand in one order in both
rank_like : {k l x y : ℕ} (a b c d : ℕ) → k ≡ x → l ≡ y → b < 4096 → c < 4096 → (a < b → c < d) → k * 4096 + a < l * 4096 + b → x * 4096 + c < y * 4096 + d
rank_like a b c d e f hb hc order h = elim (dec_lt a b) [ yes o ↦ omega (arith, order o) | no o ↦ omega arith ]

same_back : {p : ℕ} {r q : Reel} → SameImportant p r q → SameImportant p q r
same_back same =
    record {
      edition = sym same.edition;
      shape = sym same.shape;
      as_many = sym same.as_many;
      marks = λ i h. (let x = same.marks i (omega (arith, same.as_many)) in record { bytes = λ k l. sym (x.bytes k l); popup = sym x.popup });
    }

ranks_like : (p : ℕ) (r q : Reel) → r.count ≤ 4096 → q.count ≤ 4096 → SameImportant p r q → (i j : ℕ) → i < important_count p r → j < important_count p r
    → rank_key r.edition r.marks (important_at p r i) < rank_key r.edition r.marks (important_at p r j)
    → rank_key q.edition q.marks (important_at p q i) < rank_key q.edition q.marks (important_at p q j)
unfolding rank_key
ranks_like p r q r-few q-few same i j hi hj h =
    let b : important_at p r j < 4096 = omega (arith, ((important_is p r).inside j hj).1) in
    let c : important_at p q i < 4096 = omega (arith, ((important_is p q).inside i (omega (arith, same.as_many))).1) in
    rank_like (important_at p r i) (important_at p r j) (important_at p q i) (important_at p q j)
    (same_rank (same.marks i hi) same.edition) (same_rank (same.marks j hj) same.edition) b c
    (λ o. (important_is p q).rising i j (rising_back p r i j hi o) (omega (arith, same.as_many))) h

pub important_alike : (p : ℕ) (r q : Reel) → r.count ≤ 4096 → q.count ≤ 4096 → SameImportant p r q
    → Alike (among (marks_of r) (important_count p r) (important_at p r)) (among (marks_of q) (important_count p r) (important_at p q))
important_alike p r q r-few q-few same =
    record {
      counts = refl;
      ranks = λ i j hi hj. (
        ranks_like p r q r-few q-few same i j hi hj,
        ranks_like p q r q-few r-few (same_back same) i j (omega (arith, same.as_many)) (omega (arith, same.as_many)),
      );
      values = λ i j hi hj. same_pair same.shape (same.marks i hi) (same.marks j hj);
    }
