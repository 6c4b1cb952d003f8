-- The walk's definition keeps the walk's rule, and the rule leaves one answer. Assumes nothing.
use Prim.Native.Nat.{ℕ, zero, suc, ◌-◌, ◌≤◌, ◌<◌}
use Rattle.std.specs.Prelude.{◌≡◌, Bool, true, false, cond, List, eqb}
use Rattle.std.proofs.Math.Path.{refl}
use Rattle.std.proofs.Common.{ap, ◌∙◌, arith, eqb-true}
use Rattle.std.proofs.Math.Logic.{dite}
use Rattle.std.proofs.Math.Decide.{dec_lt, ℕ_discrete}
use Rattle.std.proofs.lemmas.Bool.{eqb-false}
use Rattle.bitmap.specs.Map.{bit_at, next_set, walk}
use Rattle.bitmap.specs.Facts.{Walked}

module _ (map : List ℕ) (n : ℕ) (few : n ≤ 4096) where
  -- mark m is the answer, or the answer is that of the walk from m + 1 on
  first : (m r : ℕ) → m < n → (t : Bool) → eqb (bit_at map m) 1 ≡ t → Walked map n (suc m) r → Walked map n m (cond t m r)
  first m r h true e w =
      record {
        found = λ _. (omega arith, eqb-true (bit_at map m) 1 e);
        skipped = λ k a b c. absurd (omega arith);
        none = λ l. absurd (omega arith);
      }
  first m r h false e w =
      let zero_bit : bit_at map m ≡ 0 = omega (arith, eqb-false (bit_at map m) 1 e) in
      record {
        found = λ l. (omega (arith, (w.found l).0), (w.found l).1);
        skipped = λ k a b c. dite (ℕ_discrete k m) (λ i. ap (bit_at map) i ∙ zero_bit) (λ i. w.skipped k (omega arith) b c);
        none = w.none;
      }

  next_walked : (left m : ℕ) → left ≡ n - m → Walked map n m (next_set map left m)
  unfolding next_set
  next_walked zero m e =
      record {
        found = λ l. absurd (omega arith);
        skipped = λ k a b c. absurd (omega arith);
        none = λ _. refl;
      }
  next_walked (suc left) m e =
      first m (next_set map left (suc m)) (omega arith) (eqb (bit_at map m) 1) refl (next_walked left (suc m) (omega arith))

  pub walked : (start : ℕ) → Walked map n start (walk map n start)
  unfolding walk
  walked start = next_walked (n - start) start refl

-- of two answers neither is the lower one: its bit would be set, and skipped by the other
not_lower : {map : List ℕ} {n start r s : ℕ} → Walked map n start r → Walked map n start s → r < s → ⊥
not_lower {n = n} {r = r} v w l =
    dite (dec_lt r n)
    (λ h. omega (arith, v.found h, w.skipped r (v.found h).0 h l))
    (λ h. omega (arith, v.none (omega arith), w.none (omega arith)))

pub walked_same : {map : List ℕ} {n start r s : ℕ} → Walked map n start r → Walked map n start s → r ≡ s
walked_same {r = r} {s = s} v w =
    dite (dec_lt r s) (λ l. absurd (not_lower v w l))
    (λ l. dite (dec_lt s r) (λ h. absurd (not_lower w v h)) (λ h. omega arith))
