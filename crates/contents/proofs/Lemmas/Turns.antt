-- Questions put one thing after another: a loop goes on while each answer is 0, and stops at the first that is not.
use Prim.Native.Nat.{ℕ, zero, suc, ◌+◌, ◌<◌}
use Rattle.std.specs.Prelude.{◌≡◌, List}
use Rattle.std.proofs.Common.{◌∙◌, add-one}
use Rattle.std.proofs.Math.Path.{subst⁻¹}
use Rattle.std.proofs.Math.Decide.{dec_lt}
use native.Mathlib.Omega.{arith}
use borrow.Author.Tests.{ne_eqb}
use Rattle.contents.specs.Asking.{Question, answer, in_turn}
use Rattle.contents.proofs.Lemmas.Asked.{Numbered, numbered_append, none_asked, answer_append, append_iff}

module _ (ask : ℕ → List Question) (numbered : (i : ℕ) → Numbered (ask i)) where
  pub turn_numbered : (n : ℕ) → Numbered (in_turn ask n)
  unfolding in_turn
  turn_numbered zero = tt
  turn_numbered (suc n) = numbered_append (in_turn ask n) (ask n) (turn_numbered n) (numbered n)

  pub turn_none : answer (in_turn ask 0) ≡ 0
  unfolding in_turn
  turn_none = none_asked

  pub turn_more : (i : ℕ) → answer (in_turn ask i) ≡ 0 → answer (ask i) ≡ 0 → answer (in_turn ask (i + 1)) ≡ 0
  unfolding in_turn
  turn_more i p q = rw (add-one i) ((append_iff (in_turn ask i) (ask i) (turn_numbered i)).1 (p, q))

  pub turn_stop : (i n : ℕ) → i < n → answer (in_turn ask i) ≡ 0 → 0 < answer (ask i) → answer (in_turn ask n) ≡ answer (ask i)
  unfolding in_turn
  turn_stop i zero l p q = absurd (omega arith)
  turn_stop i (suc n) l p q =
      answer_append (in_turn ask n) (ask n) (turn_numbered n)
      ∙ elim (dec_lt i n) [
        | yes b ↦ (let e = turn_stop i n b p q in rw (e, ne_eqb (answer (ask i)) 0 (omega arith)))
        | no b ↦ (let e : n ≡ i = omega arith in rw (e, p))
      ]

  pub turn_at : (n : ℕ) → answer (in_turn ask n) ≡ 0 → (i : ℕ) → i < n → answer (ask i) ≡ 0
  unfolding in_turn
  turn_at zero e i l = absurd (omega arith)
  turn_at (suc n) e i l =
      let p = (append_iff (in_turn ask n) (ask n) (turn_numbered n)).0 e in
      elim (dec_lt i n) [
        | yes b ↦ turn_at n p.0 i b
        | no b ↦ (let q : i ≡ n = omega arith in subst⁻¹ (λ (k : ℕ). answer (ask k) ≡ 0) q p.1)
      ]

  pub turn_of : (n : ℕ) → ((i : ℕ) → i < n → answer (ask i) ≡ 0) → answer (in_turn ask n) ≡ 0
  unfolding in_turn
  turn_of zero h = none_asked
  turn_of (suc n) h =
      (append_iff (in_turn ask n) (ask n) (turn_numbered n)).1 (turn_of n (λ i l. h i (omega arith)), h n (omega arith))
