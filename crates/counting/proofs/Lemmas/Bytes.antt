-- The bytes of the counts, and the counts that they hold. Assumes nothing.
use Rattle.std.specs.Prelude.{ℕ, suc, ◌+◌, ◌*◌, ◌/◌, ◌%◌, ◌^◌, ◌<◌, ◌≤◌, ◌≡◌, Bool, true, ◌&&◌, List, [], ◌↔◌, eqb, length, get_or}
use Rattle.std.proofs.Common.{sym, ap, ◌∙◌, eq-eqb, eqb-true, le-leb, ext_get_or}
use Rattle.std.proofs.Math.Path.{ap₂}
use native.Mathlib.Omega.{arith}
use Rattle.lists.specs.Tests.{every}
use Rattle.lists.proofs.TestLaws.{and_left, and_right, and_both, every_of, every_at, many_most, many_fewer}
use Rattle.numbers.specs.Little.{le_at, le_bytes, Bytes}
use Rattle.numbers.proofs.Laws.{le_length, le_bytes_lem}
use Rattle.marks.specs.Pairs.{popup_at}
use Rattle.marks.proofs.PairLaws.{popup_none}
use Rattle.elimination.specs.Records.{value_at}
use Rattle.rows.proofs.Laws.{rows_length, rows_bytes, rows_at, le_found}
use Rattle.zoom.specs.Living.{lives_at}
use Rattle.counting.specs.Lives.{popped_up, lives}
use Rattle.counting.specs.Counts.{stops, groups, lives_at_stop, in_group, living_count, counts_of, is_counts}
use Rattle.counting.proofs.Lemmas.Stops.{stop_sooner}

module _ (s p q : List ℕ) (n : ℕ) where
  -- the two bytes of cell i
  abbrev pub cell_bytes : ℕ → List ℕ
  cell_bytes i = le_bytes 2 (living_count s p q n (i / groups) (i % groups))

  pub cell_length : (i : ℕ) → length (cell_bytes i) ≡ 2
  cell_length i = le_length 2 (living_count s p q n (i / groups) (i % groups))

  pub counts_length : length (counts_of s p q n) ≡ 170
  unfolding counts_of
  counts_length = rows_length _ 2 85 (λ i h. le_length 2 _)

  pub counts_bytes : Bytes (counts_of s p q n)
  unfolding counts_of
  counts_bytes = rows_bytes _ 85 (λ i h. le_bytes_lem 2 _)

  pub count_most : (stop group : ℕ) → living_count s p q n stop group ≤ n
  unfolding living_count
  count_most stop group = many_most (λ m. in_group s group m && lives_at_stop p q stop m) n

  pub count_reads : (stop group : ℕ) → n ≤ 65535 → stop < stops → group < groups
      → le_at 2 (counts_of s p q n) (2 * (5 * stop + group)) ≡ living_count s p q n stop group
  unfolding counts_of
  count_reads stop group few h g =
      let i = 5 * stop + group in
      let u : i / 5 ≡ stop = omega arith in
      let r : i % 5 ≡ group = omega arith in
      le_found 2 (counts_of s p q n) (2 * i) (living_count s p q n stop group) (omega (arith, count_most stop group))
      (rows_at _ 2 85 i (λ j k. le_length 2 _) (omega arith) ∙ ap₂ (λ (a b : ℕ). le_bytes 2 (living_count s p q n a b)) u r)

-- the two lists have the same byte at i
abbrev pub same_at : List ℕ → List ℕ → ℕ → Bool
same_at body counts i = eqb (get_or body i 0) (get_or counts i 0)

pub is_counts_iff : (body s p q : List ℕ) (n : ℕ) → (is_counts body s p q n ≡ true) ↔ (body ≡ counts_of s p q n)
unfolding is_counts
is_counts_iff body s p q n =
    let same = same_at body (counts_of s p q n) in (
      (λ e.
          let long = eqb-true (length body) 170 (and_left (eqb (length body) 170) (every same 170) e) in
          let all = and_right (eqb (length body) 170) (every same 170) e in
          ext_get_or 0 body (counts_of s p q n) (long ∙ sym (counts_length s p q n))
          (λ i h. eqb-true (get_or body i 0) (get_or (counts_of s p q n) i 0) (every_at same 170 all i (omega arith)))),
      (λ e.
          and_both (eq-eqb (length body) 170 (ap length e ∙ counts_length s p q n))
          (every_of same 170 (λ i h. eq-eqb (get_or body i 0) (get_or (counts_of s p q n) i 0) (ap (λ (l : List ℕ). get_or l i 0) e)))),
    )

pub count_falls : (s p : List ℕ) (n stop group : ℕ) → living_count s p [] n (suc stop) group ≤ living_count s p [] n stop group
unfolding living_count lives_at_stop lives popped_up
count_falls s p n stop group =
    many_fewer (λ m. in_group s group m && lives_at_stop p [] (suc stop) m) (λ m. in_group s group m && lives_at_stop p [] stop m) n
    (λ m h e.
    let alive = and_right (in_group s group m) (lives_at_stop p [] (suc stop) m) e in
    and_both (and_left (in_group s group m) (lives_at_stop p [] (suc stop) m) e)
    (and_both (stop_sooner (value_at p m) stop (and_left (lives_at (2 ^ suc stop) (value_at p m)) (popped_up [] (2 ^ suc stop) m) alive))
    (le-leb (popup_at [] m) (2 ^ stop) (omega (arith, popup_none m)))))
