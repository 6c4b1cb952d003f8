-- What lives at a stop, from what lives at the stop before, what begins and what is gone. Assumes nothing.
use Rattle.std.specs.Prelude.{ℕ, ◌+◌, ◌*◌, ◌/◌, ◌%◌, ◌<◌, ◌≤◌, ◌≡◌, refl, Bool, true, false, ◌&&◌, List, ltb, leb}
use Rattle.std.proofs.Math.Path.{ap}
use Rattle.std.proofs.Common.{◌∙◌, arith}
use Rattle.std.proofs.Math.Decide.{dec_lt}
use borrow.Author.Tests.{lt-ltb, le-ltb, le-leb, lt-leb, eq-eqb, ne_eqb, ltb-true, leb-true, eqb-true}
use Rattle.std.proofs.Math.Dec.{eqb}
use Rattle.lists.specs.Tests.{bit, how_many}
use Rattle.lists.proofs.TestLaws.{same_test, and_left, and_right, and_both, and_no, many_most, many_same, many_none, many_sums}
use Rattle.marks.proofs.Laws.{kind_group_few}
use Rattle.marks.specs.Marks.{kind_at}
use Rattle.elimination.specs.Records.{value_at}
use Rattle.counting.specs.Counts.{groups, in_group, lives_at_stop, living_count}
use Rattle.counting.specs.Steps.{end_stop, first_stop, mark_group, begin_cell, end_cell, begin_size, end_size}
use Rattle.counting.proofs.Lemmas.Stops.{stops_most, lives_between}

-- ---- one mark, which lives from stop `first` on and below stop `end`

-- Row w of the cells is one behind its stop: row 0 is for none.
abbrev in_row : ℕ → ℕ → ℕ → Bool
in_row first end w = leb (first + 1) w && ltb w (end + 1)

-- the mark, of group g, counts in cell j
abbrev in_cell : ℕ → ℕ → ℕ → ℕ → Bool
in_cell first end g j = eqb g (j % 5) && in_row first end (j / 5)

nobody : (first end g j : ℕ) → j < 5 → in_cell first end g j ≡ false
nobody first end g j h =
    let z : j / 5 ≡ 0 = omega arith in
    and_no (eqb g (j % 5)) (rw (z, lt-leb (first + 1) 0 (omega arith)))

one_behind : (first end u : ℕ) → leb first u && ltb u end ≡ in_row first end (u + 1)
one_behind first end u =
    same_test (leb first u && ltb u end) (in_row first end (u + 1))
    (λ h.
    and_both (le-leb (first + 1) (u + 1) (omega (arith, leb-true first u (and_left (leb first u) (ltb u end) h))))
    (lt-ltb (u + 1) (end + 1) (omega (arith, ltb-true u end (and_right (leb first u) (ltb u end) h)))))
    (λ h.
    and_both (le-leb first u (omega (arith, leb-true (first + 1) (u + 1) (and_left (leb (first + 1) (u + 1)) (ltb (u + 1) (end + 1)) h))))
    (lt-ltb u end (omega (arith, ltb-true (u + 1) (end + 1) (and_right (leb (first + 1) (u + 1)) (ltb (u + 1) (end + 1)) h)))))

aligned : (first end g i : ℕ) → eqb g (i % 5) && (leb first (i / 5) && ltb (i / 5) end) ≡ in_cell first end g (i + 5)
aligned first end g i =
    let r : (i + 5) % 5 ≡ i % 5 = omega arith in
    let d : (i + 5) / 5 ≡ i / 5 + 1 = omega arith in
    rw (r, d, one_behind first end (i / 5))

-- the cell of a row and a group
cell_is : (w g j : ℕ) → g < 5 → eqb (5 * w + g) j ≡ eqb g (j % 5) && eqb w (j / 5)
cell_is w g j h =
    same_test (eqb (5 * w + g) j) (eqb g (j % 5) && eqb w (j / 5))
    (λ e.
    let i = eqb-true (5 * w + g) j e in
    and_both (eq-eqb g (j % 5) (omega arith)) (eq-eqb w (j / 5) (omega arith)))
    (λ e.
    let i = eqb-true g (j % 5) (and_left (eqb g (j % 5)) (eqb w (j / 5)) e) in
    let k = eqb-true w (j / 5) (and_right (eqb g (j % 5)) (eqb w (j / 5)) e) in
    eq-eqb (5 * w + g) j (omega arith))

-- Row by row: it counts in the next row, or is gone there, where it counts in this one, or begins in the next.
turn_row : (first end u : ℕ) → first ≤ end → bit (in_row first end (u + 1)) + bit (eqb end u) ≡ bit (in_row first end u) + bit (eqb (first + 1) (u + 1))
turn_row first end u h =
    elim (dec_lt u first) [
      | yes a ↦
          rw (lt-leb (first + 1) (u + 1) (omega arith), ne_eqb end u (omega arith))
          (rw (lt-leb (first + 1) u (omega arith), ne_eqb (first + 1) (u + 1) (omega arith)))
      | no a ↦
          elim (dec_lt first u) [
            | yes b ↦
                rw (le-leb (first + 1) (u + 1) (omega arith), le-leb (first + 1) u (omega arith), ne_eqb (first + 1) (u + 1) (omega arith)) (after b)
            | no b ↦
                rw (le-leb (first + 1) (u + 1) (omega arith), lt-leb (first + 1) u (omega arith), eq-eqb (first + 1) (u + 1) (omega arith))
                (at_first (omega arith))
          ]
    ]
  where
    after : first < u → bit (ltb (u + 1) (end + 1)) + bit (eqb end u) ≡ bit (ltb u (end + 1)) + 0
    after b =
        elim (dec_lt u end) [
          | yes c ↦ rw (lt-ltb (u + 1) (end + 1) (omega arith), ne_eqb end u (omega arith), lt-ltb u (end + 1) (omega arith))
          | no c ↦
              elim (dec_lt end u) [
                | yes d ↦ rw (le-ltb (u + 1) (end + 1) (omega arith), ne_eqb end u (omega arith), le-ltb u (end + 1) (omega arith))
                | no d ↦ rw (le-ltb (u + 1) (end + 1) (omega arith), eq-eqb end u (omega arith), lt-ltb u (end + 1) (omega arith))
              ]
        ]

    at_first : u ≡ first → bit (ltb (u + 1) (end + 1)) + bit (eqb end u) ≡ 1
    at_first b =
        elim (dec_lt u end) [
          | yes c ↦ rw (lt-ltb (u + 1) (end + 1) (omega arith), ne_eqb end u (omega arith))
          | no c ↦ rw (le-ltb (u + 1) (end + 1) (omega arith), eq-eqb end u (omega arith))
        ]

-- a test that all four have in common
of_group : (g a b c d : Bool) → bit a + bit b ≡ bit c + bit d → bit (g && a) + bit (g && b) ≡ bit (g && c) + bit (g && d)
of_group true a b c d e = e
of_group false a b c d e = refl

turn : (first end g j : ℕ) → first ≤ end → g < 5
    → bit (in_cell first end g (j + 5)) + bit (eqb (5 * end + g) j) ≡ bit (in_cell first end g j) + bit (eqb (5 * (first + 1) + g) (j + 5))
turn first end g j h few =
    let r : (j + 5) % 5 ≡ j % 5 = omega arith in
    let d : (j + 5) / 5 ≡ j / 5 + 1 = omega arith in
    rw (cell_is end g j few, cell_is (first + 1) g (j + 5) few, r, d)
    (of_group (eqb g (j % 5)) _ _ _ _ (turn_row first end (j / 5) h))

-- ---- all marks

module _ (s p q : List ℕ) where
  pub begin_small : (m : ℕ) → begin_cell s p q m < begin_size
  unfolding begin_cell
  begin_small m = omega (arith, kind_group_few (kind_at s m), stops_most (value_at p m))

  pub end_small : (m : ℕ) → end_cell s p m < end_size
  unfolding end_cell
  end_small m = omega (arith, kind_group_few (kind_at s m), stops_most (value_at p m))

  -- nobody begins in row 0
  pub begin_none : (n j : ℕ) → j < groups → how_many (λ m. eqb (begin_cell s p q m) j) n ≡ 0
  unfolding begin_cell
  begin_none n j h = many_none (λ m. eqb (begin_cell s p q m) j) n (λ m l. ne_eqb (begin_cell s p q m) j (λ e. omega arith))

  present : ℕ → ℕ → Bool
  present j m = in_cell (first_stop p q m) (end_stop p m) (mark_group s m) j

  -- how many marks are present in cell j
  pub present_at : ℕ → ℕ → ℕ
  present_at n j = how_many (present j) n

  pub present_most : (n j : ℕ) → present_at n j ≤ n
  unfolding present_at
  present_most n j = many_most (present j) n

  pub present_none : (n j : ℕ) → j < groups → present_at n j ≡ 0
  unfolding present_at present
  present_none n j h = many_none (present j) n (λ m l. nobody (first_stop p q m) (end_stop p m) (mark_group s m) j h)

  pub present_more : (n j : ℕ)
      → present_at n (j + 5) + how_many (λ m. eqb (end_cell s p m) j) n ≡ present_at n j + how_many (λ m. eqb (begin_cell s p q m) (j + 5)) n
  unfolding present_at present begin_cell end_cell
  present_more n j =
      many_sums (present (j + 5)) (λ m. eqb (end_cell s p m) j) (present j) (λ m. eqb (begin_cell s p q m) (j + 5)) n
      (λ m l. turn (first_stop p q m) (end_stop p m) (mark_group s m) j (omega arith) (kind_group_few (kind_at s m)))

  -- the count of cell i
  pub count_present : (n i : ℕ) → i < 85 → living_count s p q n (i / groups) (i % groups) ≡ present_at n (i + 5)
  unfolding living_count in_group present_at present
  count_present n i h =
      many_same (λ m. in_group s (i % groups) m && lives_at_stop p q (i / groups) m) (present (i + 5)) n
      (λ m l.
      ap (λ (b : Bool). eqb (mark_group s m) (i % 5) && b) (lives_between p q (i / 5) m (omega arith))
      ∙ aligned (first_stop p q m) (end_stop p m) (mark_group s m) i)
