-- On an axis: no place of an interval is nearer than the gap, and one is that near. Assumes nothing.
use Rattle.std.specs.Prelude.{ℕ, suc, ◌+◌, ◌-◌, ◌<◌, ◌≤◌, ◌≡◌, true, false, ℤ, pos, negsuc}
use Rattle.std.proofs.Common.{arith, le-leb}
use Rattle.std.specs.Int.Signed.{mag, le_z}
use Rattle.lists.proofs.TestLaws.{by_cases}
use Rattle.marks.specs.Marks.{apart}
use Rattle.reaching.specs.Shown.{gap}
use Rattle.reaching.proofs.Lemmas.Places.{from, from_above, from_abs, from_le, from_lt}

le_self : (z : ℤ) → le_z z z ≡ true
le_self (pos a) = le-leb a a (omega arith)
le_self (negsuc a) = le-leb a a (omega arith)

-- a number below whose negative none of four places lies
abbrev beyond : ℤ → ℤ → ℤ → ℤ → ℕ
beyond a b c d = suc (mag a + mag b + mag c + mag d)

pub record NearestPlace (low high z : ℤ) : Type 0 where
  pub place : ℤ
  pub from_low : le_z low place ≡ true
  pub to_high : le_z place high ≡ true
  pub is : gap low high z ≡ apart z place

module _ (low high z : ℤ) where
  gap_from : (n : ℕ) → mag low < n → mag high < n → mag z < n
      → gap low high z ≡ (from n low - from n z) + (from n z - from n high)
  unfolding gap
  gap_from n l h p = omega (arith, from_above n low z l p, from_above n z high p h)

  pub gap_least : (u : ℤ) → le_z low u ≡ true → le_z u high ≡ true → gap low high z ≤ apart z u
  gap_least u p q =
      let n = beyond low high z u in
      omega (
        arith,
        gap_from n (omega arith) (omega arith) (omega arith),
        from_abs n z u (omega arith) (omega arith),
        from_le n low u (omega arith) (omega arith) p,
        from_le n u high (omega arith) (omega arith) q,
      )

  abbrev n : ℕ
  n = beyond low high z z

  gap_is : gap low high z ≡ (from n low - from n z) + (from n z - from n high)
  gap_is = gap_from n (omega arith) (omega arith) (omega arith)

  to_place : (u : ℤ) → mag u < n → apart z u ≡ (from n z - from n u) + (from n u - from n z)
  to_place u h = from_abs n z u (omega arith) h

  pub nearest : le_z low high ≡ true → NearestPlace low high z
  nearest order = by_cases (le_z low z) (λ a. by_cases (le_z z high) (inside a) after) before
    where
      ordered : from n low ≤ from n high
      ordered = from_le n low high (omega arith) (omega arith) order

      inside : le_z low z ≡ true → le_z z high ≡ true → NearestPlace low high z
      inside a b =
          let l = from_le n low z (omega arith) (omega arith) a in
          let h = from_le n z high (omega arith) (omega arith) b in
          record { place = z; from_low = a; to_high = b; is = omega (arith, l, h, gap_is, to_place z (omega arith)) }

      after : le_z z high ≡ false → NearestPlace low high z
      after b =
          let h = from_lt n z high (omega arith) (omega arith) b in
          record {
            place = high;
            from_low = order;
            to_high = le_self high;
            is = omega (arith, h, ordered, gap_is, to_place high (omega arith));
          }

      before : le_z low z ≡ false → NearestPlace low high z
      before a =
          let l = from_lt n low z (omega arith) (omega arith) a in
          record {
            place = low;
            from_low = le_self low;
            to_high = order;
            is = omega (arith, l, ordered, gap_is, to_place low (omega arith));
          }
