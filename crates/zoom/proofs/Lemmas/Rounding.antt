-- The nearest 64th: there is exactly one, the computed one is it, and what it means. Assumes nothing.
use Rattle.std.specs.Prelude.{◌≡◌, ℕ, zero, suc, ◌+◌, ◌-◌, ◌*◌, ◌/◌, ◌%◌, ◌^◌, ◌<◌, ◌≤◌, Bool, true, false, cond, ◌&&◌, ◌==◌, ◌≢◌}
use Rattle.std.proofs.Math.Path.{refl}
use Rattle.std.proofs.Common.{ap, pow-suc, mul-le-mul, mul-le-mul_right, mul-lt-mul_of_pos_right, le_trans, div-le_self, div-mul-le_self, div-lt_iff_lt-mul}
use native.Mathlib.Omega.{arith}
use Rattle.std.proofs.Math.Decide.{dec_lt, ℕ_discrete}
use borrow.Author.Tests.{eqb-true, eq-eqb}
use Rattle.fractions.specs.declared.Fraction.{Fraction}
use Rattle.zoom.specs.Printed.{root, Nearest, nearest_from, nearest, WithinHalf, NoneNearer}
use Rattle.zoom.proofs.Lemmas.Roots.{root_narrow, IsRoot, root_is}

-- ---- squares

square_le : {a b : ℕ} (d : ℕ) → a ≤ b → a * a * d ≤ b * b * d
square_le d h = mul-le-mul_right d (mul-le-mul h h)

square_lt : {a b d : ℕ} → 0 < d → a < b → a * a * d < b * b * d
square_lt {a} {b} {d} p h = mul-lt-mul_of_pos_right (let m = mul-le-mul {n₁ = suc a} {m₁ = suc a} {n₂ = b} {m₂ = b} h h in omega arith) p

of_square_le : {a b d : ℕ} → 0 < d → a * a * d ≤ b * b * d → a ≤ b
of_square_le {a} {b} {d} p h = elim (dec_lt b a) [ yes l ↦ absurd (let s = square_lt p l in omega arith) | no l ↦ omega arith ]

below_power : (v : ℕ) → v < 4 ^ v
below_power zero = omega arith
below_power (suc v) = omega (arith, pow-suc 4 v, below_power v)

double_even : (t : ℕ) → 2 * t % 2 ≡ 0
double_even t = omega arith

-- ---- the two ways of rounding

module _ (f : Fraction) (h : ℕ) where
  pub from_half : h % 4 ≡ 1 → h * h * f.den ≡ 16384 * f.num → nearest_from f h ≡ h / 2
  unfolding nearest_from
  from_half p q = rw (eq-eqb _ _ p, eq-eqb _ _ q)

  pub from_up : (h % 4 ≡ 1 → h * h * f.den ≢ 16384 * f.num) → nearest_from f h ≡ (h + 1) / 2
  unfolding nearest_from
  from_up other = cases (h % 4 == 1) (h * h * f.den == 16384 * f.num) refl refl
    where
      cases : (a b : Bool) → (h % 4 == 1) ≡ a → (h * h * f.den == 16384 * f.num) ≡ b → cond (a && b) (h / 2) ((h + 1) / 2) ≡ (h + 1) / 2
      cases true true p q = absurd (other (eqb-true _ _ p) (eqb-true _ _ q))
      cases true false p q = refl
      cases false b p q = refl

  from_most : nearest_from f h ≤ (h + 1) / 2
  unfolding nearest_from
  from_most = cases (h % 4 == 1 && h * h * f.den == 16384 * f.num)
    where
      cases : (b : Bool) → cond b (h / 2) ((h + 1) / 2) ≤ (h + 1) / 2
      cases true = omega arith
      cases false = omega arith

-- the printed zoom is a number of 8 bytes
pub nearest_fits : (f : Fraction) → nearest f < 18446744073709551616
unfolding nearest
nearest_fits f =
    let v = 16384 * f.num / f.den in
    omega (arith, from_most f (root 32 v), root_narrow v {r = root 32 v} refl)

module _ (f : Fraction) (positive : 0 < f.den) where
  -- ---- at most one

  not_below : {j k : ℕ} → Nearest f j → Nearest f k → j < k → ⊥
  not_below {j} {k} a b l =
      let between = square_le {a = 2 * j + 1} {b = 2 * k - 1} f.den (omega arith) in
      let low = b.low (omega arith) in
      let j-even = a.high_even (omega (arith, a.high)) in
      let k-even = b.low_even (omega arith) (omega (arith, a.high)) in
      let apart = square_lt {a = 2 * j + 1} {b = 2 * k - 1} positive (omega arith) in
      omega (arith, a.high)

  pub nearest_unique : {j k : ℕ} → Nearest f j → Nearest f k → j ≡ k
  nearest_unique {j} {k} a b =
      elim (dec_lt j k) [
        | yes l ↦ absurd (not_below a b l)
        | no l ↦ elim (dec_lt k j) [ yes m ↦ absurd (not_below b a m) | no m ↦ omega arith ]
      ]

  -- ---- at least one

  -- h is the zoom in 128ths, rounded down
  module _ {h : ℕ} (r : IsRoot h (16384 * f.num / f.den)) where
    fits : h * h * f.den ≤ 16384 * f.num
    fits = le_trans (mul-le-mul_right f.den r.low) (div-mul-le_self (16384 * f.num) f.den)

    above : 16384 * f.num < (h + 1) * (h + 1) * f.den
    above = (div-lt_iff_lt-mul positive).0 (let e : suc h * suc h ≡ (h + 1) * (h + 1) = omega arith in omega (arith, r.high))

    -- an exact half above the even number k
    half_even : (k : ℕ) → h ≡ 2 * k + 1 → k % 2 ≡ 0 → h * h * f.den ≡ 16384 * f.num → Nearest f k
    half_even k e even exact =
        let at : (2 * k + 1) * (2 * k + 1) * f.den ≡ 16384 * f.num = rw e at exact in
        record {
          low = λ p. omega (arith, square_le {a = 2 * k - 1} {b = 2 * k + 1} f.den (omega arith));
          high = omega arith;
          low_even = λ p q. even;
          high_even = λ q. even;
        }

    -- not below k, and below k + 1/2
    from_even : (k : ℕ) → h ≡ 2 * k → Nearest f k
    from_even k e =
        let from : 2 * k * (2 * k) * f.den ≤ 16384 * f.num = rw e at fits in
        let to : 16384 * f.num < (2 * k + 1) * (2 * k + 1) * f.den = rw e at above in
        let less : 0 < k → (2 * k - 1) * (2 * k - 1) * f.den < 16384 * f.num =
        λ p. omega (arith, square_lt {a = 2 * k - 1} {b = 2 * k} positive (omega arith)) in
        record {
          low = λ p. omega (arith, less p);
          high = omega arith;
          low_even = λ p q. absurd (omega (arith, less p));
          high_even = λ q. absurd (omega arith);
        }

    -- not below k - 1/2, at it only where k is even, and below k
    from_odd : (k : ℕ) → 0 < k → h ≡ 2 * k - 1 → (h * h * f.den ≡ 16384 * f.num → k % 2 ≡ 0) → Nearest f k
    from_odd k p e exact =
        let from : (2 * k - 1) * (2 * k - 1) * f.den ≤ 16384 * f.num = rw e at fits in
        let n : h + 1 ≡ 2 * k = omega arith in
        let to : 16384 * f.num < 2 * k * (2 * k) * f.den = rw n at above in
        let less = square_lt {a = 2 * k} {b = 2 * k + 1} positive (omega arith) in
        record {
          low = λ _. from;
          high = omega arith;
          low_even = λ _ q. exact (rw e q);
          high_even = λ q. absurd (omega arith);
        }

    up : (h % 4 ≡ 1 → h * h * f.den ≢ 16384 * f.num) → Nearest f ((h + 1) / 2)
    up other =
        elim (ℕ_discrete (h % 2) 0) [
          | yes e ↦ from_even ((h + 1) / 2) (omega arith)
          | no e ↦ from_odd ((h + 1) / 2) (omega arith) (omega arith) (λ q.
              elim (ℕ_discrete (h % 4) 1) [ yes g ↦ absurd (other g q) | no g ↦ (let m : (h + 1) / 2 ≡ 2 * (h / 4 + 1) = omega arith in rw m (double_even (h / 4 + 1))) ])
        ]

    nearest_from_lem : Nearest f (nearest_from f h)
    nearest_from_lem =
        elim (ℕ_discrete (h % 4) 1) [
          | yes p ↦
              elim (ℕ_discrete (h * h * f.den) (16384 * f.num)) [
                | yes q ↦ rw (from_half f h p q) (half_even (h / 2) (omega arith) (omega arith) q)
                | no q ↦ let other : h % 4 ≡ 1 → h * h * f.den ≡ 16384 * f.num → ⊥ = λ _ e. q e in rw (from_up f h other) (up other)
              ]
          | no p ↦ let other : h % 4 ≡ 1 → h * h * f.den ≡ 16384 * f.num → ⊥ = λ e _. p e in rw (from_up f h other) (up other)
        ]

  -- the computed one, where the root is of at most 64 bits
  module _ (small : f.num < 18446744073709551616 / 16384) where
    zoom_root : IsRoot (root 32 (16384 * f.num / f.den)) (16384 * f.num / f.den)
    zoom_root = root_is 32 _ (omega (arith, div-le_self (16384 * f.num) f.den))

    pub root_fits : {h : ℕ} → h ≡ root 32 (16384 * f.num / f.den) → h * h * f.den ≤ 16384 * f.num
    root_fits e = rw e (fits zoom_root)

    pub nearest_is : Nearest f (nearest f)
    unfolding nearest
    nearest_is = nearest_from_lem zoom_root

  -- exactly one, whatever the numerator
  pub nearest_one : (k : ℕ) × Nearest f k × ((j : ℕ) → Nearest f j → j ≡ k)
  nearest_one =
      let v = 16384 * f.num / f.den in
      let k = nearest_from_lem (root_is v v (below_power v)) in
      (nearest_from f (root v v), k, λ j n. nearest_unique n k)

-- ---- what it means

module _ {f : Fraction} {k : ℕ} (n : Nearest f k) where
  pub none_nearer : NoneNearer f k
  none_nearer =
      record {
        larger = λ j l. omega (arith, n.high, square_le {a = 2 * k + 1} {b = j + k} f.den (omega arith));
        smaller = λ j l. omega (arith, n.low (omega arith), square_le {a = j + k} {b = 2 * k - 1} f.den (omega arith));
      }

  pub within_half : 0 < f.den → WithinHalf f k
  within_half positive =
      record {
        below = λ a b z. of_square_le positive (omega (arith, z.cross, mul-le-mul_right (b * b) n.high));
        above = λ a b z.
            elim (dec_lt 0 k) [
              | yes p ↦
                  (let low : (2 * k - 1) * b ≤ 2 * a = of_square_le positive (omega (arith, z.cross, mul-le-mul_right (b * b) (n.low p))) in
                  let e : 2 * k - 1 + 1 ≡ 2 * k = omega arith in
                  omega (arith, ap (λ (t : ℕ). t * b) e))
              | no p ↦ (let z : k ≡ 0 = omega arith in rw z (omega arith))
            ];
      }
