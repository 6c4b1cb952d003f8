-- The grid from row to row. Assumes nothing.
use Prim.Native.Nat.{ℕ, suc, ◌+◌, ◌*◌, ◌<◌, ◌-◌, ◌≤◌}
use mathlib.Core.Path.{◌≡◌, refl, ap, ◌∙◌}
use mathlib.Core.Bool.{Bool, true, false, cond}
use mathlib.Core.List.{List}
use mathlib.Core.Logic.{inl, inr}
use native.Mathlib.Omega.{arith}
use borrow.Author.Count.{below_more}
use borrow.Author.Tests.{ltb-true}
use lib.Dec.{ltb}
use lib.IntN.{pos, negsuc}
use lib.ListN.{length}
use Rattle.lists.specs.Stores.{Kept}
use Rattle.numbers.specs.Little.{le_at, signed}
use Rattle.numbers.proofs.Laws.{number_kept}
use Rattle.lists.proofs.StoreLaws.{kept_wide}
use Rattle.fractions.specs.declared.Fraction.{Fraction}
use Rattle.fractions.specs.Order.{Small}
use Rattle.marks.specs.declared.Label.{Label}
use Rattle.marks.specs.Marks.{shifted}
use Rattle.grid.specs.Table.{cell_count, region_count, group_region, table_size, link_from, region_at, assign}
use Rattle.grid.specs.Boxes.{widened}
use Rattle.grid.specs.Steps.{LinkPut, Cleared, Added}
use Rattle.grid.specs.Laws.{SameTable, ready_none, chained_none, ready_same, chained_same, same_kept, same_linked, ready_left, chained_left, ready_more, chained_more, holds_more, widened_here, assign_same, assign_here}
use Rattle.searching.specs.Rows.{row_size, row_x_offset, row_y_offset, row_radius_offset, row_record_offset, row_label, row_value}
use Rattle.searching.specs.Search.{SearchFor}
use Rattle.searching.specs.Cells.{HoldsRow, Gridded}
use Rattle.scheduling.specs.Planning.{Entered}
use Rattle.scheduling.proofs.Bytes.{off_field}

pub gridded_none : {w v : List ℕ} {at groups : ℕ} → at + table_size groups ≤ length w → Cleared w v at groups (region_count groups) → Gridded v at groups 0
gridded_none room k =
    record {
      ready = ready_none k room;
      cell = λ q. 0;
      in_grid = record {
        chained = chained_none k (λ q. 0);
        own = λ q h. absurd (omega arith);
        group = λ q h. absurd (omega arith);
        left_out = λ q h. absurd (omega arith);
      };
    }

-- a coordinate of 16 bits, shifted, has 16 bits
shifted_low : (u : ℕ) → shifted (signed 2 u) ≤ 65535
shifted_low u = go (ltb u 32768) refl
  where
    go : (t : Bool) → ltb u 32768 ≡ t → shifted (cond t (pos u) (negsuc (65536 - suc u))) ≤ 65535
    go true e = let l = ltb-true u 32768 e in omega arith
    go false e = omega arith

pub entered_kept : {w v : List ℕ} (at groups p c : ℕ) (a : Label) (f : Fraction) → Entered w v at groups p c a f → Kept w v at (link_from at groups p + 2)
entered_kept at groups p c a f (inl (k, z)) = kept_wide k.kept (omega arith) (omega arith)
entered_kept at groups p c a f (inr x) = x.kept

-- row p of n goes into cell c, or into none, and then its record is written
module _ {popped : Bool} {w u v : List ℕ} (n groups p c : ℕ) {b : Label} (f : Fraction) (hp : p < n) (g : Gridded w (row_size * n) groups p)
    (s : SearchFor popped w p b) (hc : c < cell_count groups) (room : link_from (row_size * n) groups p + 2 ≤ length w) (small : Small f)
    (some : 0 < f.num + f.den) (ku : Kept w u (row_size * n) (link_from (row_size * n) groups p + 2))
    (k : Kept u v (row_size * p + row_record_offset) (row_size * p + row_size)) (is : row_value v p ≡ f) where
  abbrev at : ℕ
  at = row_size * n

  field_on : (q j : ℕ) → q < n → j ≤ row_radius_offset → le_at 2 v (row_size * q + j) ≡ le_at 2 w (row_size * q + j)
  field_on q j h l = number_kept k 2 (row_size * q + j) (off_field q p j l) ∙ number_kept ku 2 (row_size * q + j) (omega arith)

  label_on : (q : ℕ) → q < n → row_label v q ≡ row_label w q
  label_on q h = rw (field_on q row_x_offset h (omega arith), field_on q row_y_offset h (omega arith), field_on q row_radius_offset h (omega arith))

  value_on : (q : ℕ) → q < p → row_value v q ≡ row_value w q
  value_on q h =
      rw (
        number_kept k 8 (row_size * q + row_record_offset + 2) (omega arith) ∙ number_kept ku 8 (row_size * q + row_record_offset + 2) (omega arith),
        number_kept k 4 (row_size * q + row_record_offset + 10) (omega arith) ∙ number_kept ku 4 (row_size * q + row_record_offset + 10) (omega arith),
      )

  same : (m : ℕ) → SameTable u v at groups m
  same m = same_kept k at groups m (omega arith)

  holds_on : (q i : ℕ) → q < p → i < region_count groups → HoldsRow (region_at u at i) w q → HoldsRow (region_at v at i) v q
  holds_on q i h l x = rw ((same 0).region i l, label_on q (omega arith), value_on q h) x

  -- it is in cell c
  in_cell_lem : Added w u at groups p c b f → Gridded v at groups (p + 1)
  in_cell_lem a =
      record {
        ready = ready_same (same (p + 1)) (ready_more a hc g.ready room s.radius_small small some);
        cell = cells;
        in_grid = record {
          chained = chained_same (same (p + 1)) (chained_more a hc g.ready room g.cell g.in_grid.chained);
          own = below_more _ p
              (λ q h l.
              let e = assign_same g.cell c h in
              let i : g.cell q < cell_count groups = rw e at l in
              rw e (holds_on q (g.cell q) h (omega arith) (holds_more a hc g.ready room (g.cell q) (omega arith) (g.in_grid.own q h i))))
              (λ l. rw (assign_here g.cell p c) (here c (omega arith) (p + 1) a.own));
          group = below_more _ p
              (λ q h l.
              let e = assign_same g.cell c h in
              let i : g.cell q < cell_count groups = rw e at l in
              rw e
              (holds_on q (group_region groups (g.cell q)) h (omega arith)
              (holds_more a hc g.ready room (group_region groups (g.cell q)) (omega arith) (g.in_grid.group q h i))))
              (λ l. rw (assign_here g.cell p c) (here (group_region groups c) (omega arith) 0 a.group));
          left_out = below_more _ p
              (λ q h l.
              let e = assign_same g.cell c h in
              ap (λ (x : Fraction). x.num) (value_on q h) ∙ g.in_grid.left_out q h (rw e at l))
              (λ l. absurd (omega (arith, assign_here g.cell p c)));
        };
      }
    where
      cells : ℕ → ℕ
      cells = assign g.cell p c

      -- the new row is held
      here : (i : ℕ) → i < region_count groups → (last : ℕ) → region_at u at i ≡ widened (region_at w at i) b f last → HoldsRow (region_at v at i) v p
      here i l last e =
          let h = widened_here (region_at w at i) b f last (rw s.label_is (shifted_low (le_at 2 w (row_size * p + row_x_offset))))
          (rw s.label_is (shifted_low (le_at 2 w (row_size * p + row_y_offset)))) in
          rw ((same 0).region i l, label_on p hp, is, e, ← s.label_is) h

  -- it is in none
  in_none : LinkPut w u at groups p 0 → f.num ≡ 0 → Gridded v at groups (p + 1)
  in_none a zero-num =
      record {
        ready = ready_same (same (p + 1)) (ready_left a g.ready room);
        cell = assign g.cell p (cell_count groups);
        in_grid = record {
          chained = chained_same (same (p + 1)) (chained_left a g.ready room g.cell g.in_grid.chained);
          own = below_more _ p
              (λ q h l.
              let e = assign_same g.cell (cell_count groups) h in
              let i : g.cell q < cell_count groups = rw e at l in
              rw e (holds_on q (g.cell q) h (omega arith) (rw (still (g.cell q) (omega arith)) (g.in_grid.own q h i))))
              (λ l. absurd (omega (arith, assign_here g.cell p (cell_count groups))));
          group = below_more _ p
              (λ q h l.
              let e = assign_same g.cell (cell_count groups) h in
              let i : g.cell q < cell_count groups = rw e at l in
              rw e
              (holds_on q (group_region groups (g.cell q)) h (omega arith)
              (rw (still (group_region groups (g.cell q)) (omega arith)) (g.in_grid.group q h i))))
              (λ l. absurd (omega (arith, assign_here g.cell p (cell_count groups))));
          left_out = below_more _ p
              (λ q h l.
              let e = assign_same g.cell (cell_count groups) h in
              ap (λ (x : Fraction). x.num) (value_on q h) ∙ g.in_grid.left_out q h (rw e at l))
              (λ l. ap (λ (x : Fraction). x.num) is ∙ zero-num);
        };
      }
    where
      still : (i : ℕ) → i < region_count groups → region_at u at i ≡ region_at w at i
      still = (same_linked a).region

  pub gridded_more : Entered w u at groups p c b f → Gridded v at groups (p + 1)
  gridded_more (inl (a, z)) = in_none a z
  gridded_more (inr a) = in_cell_lem a
