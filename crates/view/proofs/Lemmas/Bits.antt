-- Setting the bits of a list's shown marks: of none, of one, and of one list after another. By counting how often a mark stands in a list.
use Rattle.std.specs.Prelude.{ℕ, ◌/◌, ◌≡◌, refl, Bool, true, List, [], ◌∷◌, ◌++◌, eqb}
use Rattle.std.proofs.Common.{arith, sym, ◌∙◌, eqb-true}
use Rattle.std.proofs.Math.Decide.{ℕ_discrete}
use Rattle.std.proofs.Math.Logic.{dite}
use Rattle.std.proofs.lemmas.Bool.{eqb-false}
use Rattle.lists.proofs.TestLaws.{by_cases, and_both, bit_true, bit_zero}
use Rattle.lists.specs.Counting.{count, both}
use Rattle.lists.proofs.CountLaws.{count_append, both_le}
use Rattle.bitmap.specs.Facts.{BitSet}
use Rattle.view.specs.Search.{times_shown, in_byte, BitsSet}

module _ (shown : ℕ → Bool) where
  pub set_nothing : (map : List ℕ) → BitsSet shown [] map map
  set_nothing map = record { on = λ m h. absurd (h refl); off = λ m h. refl; rest = λ i h. refl; long = refl }

  -- a list of which no mark is shown
  pub set_none : (l : List ℕ) {before after : List ℕ} → count shown l ≡ 0 → BitsSet shown [] before after → BitsSet shown l before after
  set_none l z b =
      record {
        on = λ m h. absurd (h (omega (arith, z, both_le shown (eqb m) l)));
        off = λ m h. b.off m refl;
        rest = λ i h. b.rest i refl;
        long = b.long;
      }

  pub set_one : (x : ℕ) {before after : List ℕ} → shown x ≡ true → BitSet before x after → BitsSet shown (x ∷ []) before after
  set_one x s w =
      record {
        on = λ m h. by_cases (eqb m x) (λ e. rw (eqb-true m x e) w.on) (λ e. absurd (h (rw (s, e))));
        off = λ m h.
            by_cases (eqb m x) (λ e. absurd (omega (arith, h, bit_true (and_both s e)))) (λ e. w.rest m (eqb-false m x e));
        rest = λ i h. w.others i (eqb-false i (x / 8) (bit_zero (eqb i (x / 8)) (omega arith)));
        long = w.long;
      }

  pub set_then : (l r : List ℕ) {a b c : List ℕ} → BitsSet shown l a b → BitsSet shown r b c → BitsSet shown (l ++ r) a c
  set_then l r p q =
      record {
        on = λ m h.
            let sum = count_append (both shown (eqb m)) l r in
            dite (ℕ_discrete (times_shown shown m r) 0) (λ z. q.off m z ∙ p.on m (λ y. h (omega arith))) (q.on m);
        off = λ m h.
            let sum = count_append (both shown (eqb m)) l r in
            q.off m (omega arith) ∙ p.off m (omega arith);
        rest = λ i h.
            let sum = count_append (in_byte i) l r in
            q.rest i (omega arith) ∙ p.rest i (omega arith);
        long = q.long ∙ p.long;
      }

-- of one mark only what is said of that mark matters
pub set_same : {p q : ℕ → Bool} (x : ℕ) {before after : List ℕ} → p x ≡ q x → BitsSet p (x ∷ []) before after → BitsSet q (x ∷ []) before after
set_same {p} {q} x e b =
    record { on = λ m h. b.on m (λ z. h (sym (same m) ∙ z)); off = λ m h. b.off m (same m ∙ h); rest = b.rest; long = b.long }
  where
    same : (m : ℕ) → times_shown p m (x ∷ []) ≡ times_shown q m (x ∷ [])
    same m = rw e
