-- The pass over the cells, in which each becomes its count. Assumes nothing.
use Rattle.std.specs.Prelude.{ℕ, ◌+◌, ◌-◌, ◌*◌, ◌<◌, ◌≤◌, ◌≡◌, List, eqb, length, get_or, set, replicate}
use Rattle.std.proofs.Common.{sym, ap, ◌∙◌, arith, length-set, get_or-set_same, get_or-set_other}
use Rattle.std.proofs.Math.Decide.{dec_lt}
use Rattle.std.proofs.lemmas.List.{length-replicate}
use Rattle.std.proofs.lemmas.List.Edits.{sets}
use Rattle.std.proofs.Math.Seq.{length-sets}
use Rattle.lists.specs.Tests.{how_many}
use Rattle.lists.proofs.StoreLaws.{sets_whole}
use Rattle.numbers.specs.Little.{le_bytes}
use Rattle.rows.specs.Rows.{rows}
use Rattle.rows.proofs.Laws.{rows_none, rows_more}
use Rattle.counting.specs.Counts.{counts_of}
use Rattle.counting.specs.Steps.{begin_cell, end_cell, begin_size, end_size, Tallied, Entered}
use Rattle.counting.proofs.Lemmas.Cells.{present_at, begin_none, present_most, present_none, present_more, count_present}
use Rattle.counting.proofs.Lemmas.Tallies.{tallied_most}
use Rattle.counting.proofs.Lemmas.Bytes.{cell_bytes, cell_length, counts_length}

-- what stands where the counts are written
unfoldable pub blank : List ℕ
blank = replicate 170 0

-- The cells that are passed are counts, the others are as they were, and the counts that are passed are written.
pub record Added (s p q : List ℕ) (n : ℕ) (table ends counts : List ℕ) (i : ℕ) : Type 0 where
  pub within : i ≤ 85
  pub long : length table ≡ begin_size
  pub here : (j : ℕ) → j < i + 5 → get_or table j 0 ≡ present_at s p q n j
  pub ahead : (j : ℕ) → i + 5 ≤ j → j < begin_size → get_or table j 0 ≡ how_many (λ m. eqb (begin_cell s p q m) j) n
  pub gone : Tallied (end_cell s p) n end_size ends
  pub sized : length counts ≡ 170
  pub written : counts ≡ sets blank 0 (rows (cell_bytes s p q n) i)

pub added_none : {s p q : List ℕ} {n : ℕ} {table ends : List ℕ} → Entered s p q n table ends → Added s p q n table ends blank 0
unfolding blank
added_none {s} {p} {q} {n} e =
    let t = e.begun in
    record {
      within = omega arith;
      long = t.long;
      here = λ j h. t.each j (omega arith) ∙ begin_none s p q n j (omega arith) ∙ sym (present_none s p q n j (omega arith));
      ahead = λ j h k. t.each j k;
      gone = e.gone;
      sized = length-replicate {A = ℕ} 170 0;
      written = rows_none (cell_bytes s p q n) 2 blank;
    }

module _ {s p q : List ℕ} {n : ℕ} {table ends counts : List ℕ} {i : ℕ} (a : Added s p q n table ends counts i) (low : i < 85) where
  -- what stands in the three cells
  pub added_sum : present_at s p q n (i + 5) + get_or ends i 0 ≡ get_or table i 0 + get_or table (i + 5) 0
  added_sum =
      omega (arith, present_more s p q n i, a.here i (omega arith), a.ahead (i + 5) (omega arith) (omega arith), a.gone.each i (omega arith))

  pub added_small : n ≤ 4096 → get_or table i 0 + get_or table (i + 5) 0 ≤ 8192
  added_small few = omega (arith, added_sum, present_most s p q n (i + 5), tallied_most a.gone i (omega arith))

  pub added_more : {count : ℕ} {table' counts' : List ℕ} → count ≡ get_or table i 0 + get_or table (i + 5) 0 - get_or ends i 0
      → table' ≡ set table (i + 5) count → counts' ≡ sets counts (2 * i) (le_bytes 2 count) → Added s p q n table' ends counts' (i + 1)
  added_more {count} {table'} {counts'} c t w =
      let is : count ≡ present_at s p q n (i + 5) = omega (arith, c, added_sum) in
      record {
        within = omega arith;
        long = ap length t ∙ length-set table (i + 5) count ∙ a.long;
        here = λ j h. ap (λ (l : List ℕ). get_or l j 0) t ∙ passed is j h;
        ahead = λ j h k. ap (λ (l : List ℕ). get_or l j 0) t ∙ get_or-set_other table (i + 5) j count 0 (λ e. omega arith) ∙ a.ahead j (omega arith) k;
        gone = a.gone;
        sized = ap length w ∙ length-sets counts (2 * i) (le_bytes 2 count) ∙ a.sized;
        written =
            rows_more (cell_bytes s p q n) 2 blank i (λ j h. cell_length s p q n j) a.written
            (w ∙ ap (λ (v : ℕ). sets counts (2 * i) (le_bytes 2 v)) (is ∙ sym (count_present s p q n i low)));
      }
    where
      passed : count ≡ present_at s p q n (i + 5) → (j : ℕ) → j < i + 1 + 5 → get_or (set table (i + 5) count) j 0 ≡ present_at s p q n j
      passed is j h =
          elim (dec_lt j (i + 5)) [
            | yes k ↦ get_or-set_other table (i + 5) j count 0 (λ e. omega arith) ∙ a.here j k
            | no k ↦
                (let e : j ≡ i + 5 = omega arith in
                rw e (get_or-set_same table (i + 5) count 0 (omega (arith, a.long)) ∙ is))
          ]

pub added_all : {s p q : List ℕ} {n : ℕ} {table ends counts : List ℕ} {i : ℕ} → Added s p q n table ends counts i → 85 ≤ i
    → counts ≡ counts_of s p q n
unfolding counts_of blank
added_all {s} {p} {q} {n} {i = i} a h =
    let e : i ≡ 85 = omega (arith, a.within) in
    (rw e at a.written) ∙ sets_whole (rows (cell_bytes s p q n) 85) blank (counts_length s p q n ∙ sym (length-replicate {A = ℕ} 170 0))
