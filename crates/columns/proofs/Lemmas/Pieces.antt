-- Pieces of one length, laid one after the other: how long they are, what stands at each, and a list cut into them.
use Prim.Native.Nat.{ℕ, zero, suc, ◌+◌, ◌*◌, ◌≤◌, ◌<◌}
use Rattle.std.specs.Prelude.{◌≡◌, refl, List, ◌++◌, length, take, drop}
use Rattle.std.proofs.Common.{ap₂, ◌∙◌, length-append, take-add}
use Rattle.std.proofs.Math.Nat.{mul-le-mul_left}
use Rattle.std.proofs.Math.Decide.{dec_lt}
use native.Mathlib.Omega.{arith}
use Rattle.numbers.specs.Little.{le_at}
use Rattle.numbers.proofs.Laws.{le_append, le_after}
use Rattle.rows.specs.Rows.{rows}

pub pieces_same : (f g : ℕ → List ℕ) (n : ℕ) → ((m : ℕ) → m < n → f m ≡ g m) → rows f n ≡ rows g n
unfolding rows
pieces_same f g zero h = refl
pieces_same f g (suc n) h = ap₂ ◌++◌ (pieces_same f g n (λ m l. h m (omega arith))) (h n (omega arith))

times_suc : (w n : ℕ) → w * suc n ≡ w * n + w
times_suc w n = omega arith

module _ (w : ℕ) (f : ℕ → List ℕ) (sized : (m : ℕ) → length (f m) ≡ w) where
  pub pieces_length : (n : ℕ) → length (rows f n) ≡ w * n
  unfolding rows
  pieces_length zero = omega arith
  pieces_length (suc n) = rw (length-append, pieces_length n, sized n) (omega arith)

  -- a number that stands in piece m
  pub pieces_at : (width at n m : ℕ) → at + width ≤ w → m < n → le_at width (rows f n) (w * m + at) ≡ le_at width (f m) at
  unfolding rows
  pieces_at width at zero m h l = absurd (omega arith)
  pieces_at width at (suc n) m h l =
      elim (dec_lt m n) [
        | yes b ↦
            (let k : w * suc m ≤ w * n = mul-le-mul_left w b in
            le_append width (rows f n) (f n) (w * m + at) (rw (pieces_length n) (omega (arith, times_suc w m)))
            ∙ pieces_at width at n m h b)
        | no b ↦
            (let e : m ≡ n = omega arith in
            rw (e, ← pieces_length n) (le_after width (rows f n) (f n) at))
      ]

-- a list, cut into pieces of w
pub pieces_cut : (w : ℕ) (s : List ℕ) (n : ℕ) → rows (λ m. take w (drop (w * m) s)) n ≡ take (w * n) s
unfolding rows
pieces_cut w s zero = let z : w * 0 ≡ 0 = omega arith in rw z
pieces_cut w s (suc n) = rw (times_suc w n, take-add (w * n) w s, pieces_cut w s n)
