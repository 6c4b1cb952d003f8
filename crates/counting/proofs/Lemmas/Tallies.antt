-- Tables that count marks by their cells. Assumes nothing.
use Rattle.std.specs.Prelude.{ℕ, ◌+◌, ◌<◌, ◌≤◌, ◌≡◌, set, replicate}
use Rattle.std.proofs.Math.Path.{sym, ap}
use Rattle.std.proofs.Common.{◌∙◌, add-one, arith, eq-eqb, ne_eqb, get_or-set_same}
use mathlib.Core.List.{List}
use Rattle.std.proofs.Math.Decide.{ℕ_discrete}
use Rattle.std.proofs.Math.Dec.{eqb}
use Rattle.std.proofs.Math.ListN.{length, get_or, length-set}
use Rattle.std.proofs.lemmas.List.{length-replicate, get_or-replicate}
use Rattle.std.proofs.Math.Seq.{get_or-set_other}
use Rattle.lists.specs.Tests.{bit, how_many}
use Rattle.lists.proofs.TestLaws.{many_most, bit_true, bit_false}
use Rattle.counting.specs.Steps.{begin_cell, end_cell, begin_size, end_size, Tallied, Entered}

-- before the first mark
tallied_none : (cell : ℕ → ℕ) (size : ℕ) → Tallied cell 0 size (replicate size 0)
unfolding how_many
tallied_none cell size = record { long = length-replicate size 0; each = λ j h. get_or-replicate size j 0 0 h }

pub entered_none : (s p q : List ℕ) → Entered s p q 0 (replicate begin_size 0) (replicate end_size 0)
entered_none s p q = record { begun = tallied_none (begin_cell s p q) begin_size; gone = tallied_none (end_cell s p) end_size }

module _ {cell : ℕ → ℕ} {n size : ℕ} {table : List ℕ} (t : Tallied cell n size table) where
  pub tallied_most : (j : ℕ) → j < size → get_or table j 0 ≤ n
  tallied_most j h = omega (arith, t.each j h, many_most (λ m. eqb (cell m) j) n)

  -- a mark more fits
  pub tallied_room : {at : ℕ} → at < size → n < 65535 → (at < length table) × (get_or table at 0 < 65535)
  tallied_room {at} h few = omega (arith, t.long, tallied_most at h)

  -- and is entered
  pub tallied_more : {at : ℕ} {after : List ℕ} → at ≡ cell n → at < size → after ≡ set table at (get_or table at 0 + 1)
      → Tallied cell (n + 1) size after
  unfolding how_many
  tallied_more {at} {after} a h e =
      record {
        long = ap length e ∙ length-set table at (get_or table at 0 + 1) ∙ t.long;
        each = λ j k. rw (add-one n) (ap (λ (l : List ℕ). get_or l j 0) e ∙ cell_turn j k);
      }
    where
      cell_turn : (j : ℕ) → j < size → get_or (set table at (get_or table at 0 + 1)) j 0 ≡ how_many (λ m. eqb (cell m) j) n + bit (eqb (cell n) j)
      cell_turn j k =
          elim (ℕ_discrete j at) [
            | yes i ↦
                rw i
                (get_or-set_same table at (get_or table at 0 + 1) 0 (omega (arith, t.long))
                ∙ omega (arith, t.each at h, bit_true (eq-eqb (cell n) at (sym a))))
            | no i ↦
                get_or-set_other table at j (get_or table at 0 + 1) 0 i
                ∙ omega (arith, t.each j k, bit_false (ne_eqb (cell n) j (λ g. i (sym g ∙ sym a))))
          ]
