-- The search of cells: a chain from its last row down, regions that hold no better row, and cells and groups in turn. Assumes nothing.
use Prim.Native.Nat.{ℕ, ◌+◌, ◌-◌, ◌*◌, ◌/◌, ◌%◌, ◌<◌, ◌≤◌}
use mathlib.Core.Path.{◌≡◌, refl, sym, ◌∙◌, subst}
use mathlib.Core.Bool.{Bool, true, false, cond, true≢false}
use mathlib.Core.List.{List}
use mathlib.Core.Logic.{inl, inr}
use native.Mathlib.Omega.{arith}
use native.Mathlib.Nat.{mul-le-mul}
use native.Mathlib.Decide.{dec_lt, dec_le, ℕ_discrete}
use borrow.Author.Tests.{lt-ltb, le-ltb, le-leb, lt-leb, ne_eqb}
use Rattle.fractions.specs.Order.{less, Less, AtMost}
use Rattle.fractions.proofs.Laws.{less_iff, at_most_trans, less_at_most, at_most_less}
use Rattle.marks.specs.declared.Label.{Label}
use Rattle.marks.specs.Marks.{larger, touching_of}
use Rattle.marks.proofs.PairLaws.{positive_pair, pair_least}
use Rattle.grid.specs.declared.Region.{Region}
use Rattle.grid.specs.Table.{cell_count, region_at, link_at, EntriesLow}
use Rattle.grid.specs.Boxes.{bound_of}
use Rattle.grid.specs.Laws.{bound_least, bound_positive}
use Rattle.searching.specs.declared.Leader.{Leader}
use Rattle.searching.specs.Rows.{row_label, row_popup, row_value, rows_touch, rows_pair}
use Rattle.searching.specs.Search.{leader_value, StandsAt, Before, SearchFor, Adds, Only, Higher}
use Rattle.searching.specs.Cells.{HoldsRow, InGrid, Gridded, may_lead, Tail, Walked, CellAdded, Own, InGroup, counted_down, own_first, InTurn, FirstCells, FirstGroups}
use Rattle.searching.proofs.Steps.{at_most_lem, adds_before, adds_like, adds_then}

-- ---- a chain, from its last row down

pub walk_next : {shape : ℕ} {w : List ℕ} {at groups p c j : ℕ} {from best better : Leader} → c < cell_count groups → j < p
    → Walked shape w at groups p c (j + 1) from best → Adds shape w p (Only j) best better → Walked shape w at groups p c (link_at w at groups j) from better
walk_next {shape} {w} {at} {groups} {p} {c} {j} {from} {best} {better} hc b x y =
    record { next = λ cell g i e. g.chained.link_in j b (inside cell g) i e ∙ here cell g; adds = λ cell g. more cell g }
  where
    here : (cell : ℕ → ℕ) → InGrid w at groups p cell → cell j ≡ c
    here cell g = x.next cell g j (omega arith)

    inside : (cell : ℕ → ℕ) → InGrid w at groups p cell → cell j < cell_count groups
    inside cell g = rw (here cell g) hc

    more : (cell : ℕ → ℕ) → InGrid w at groups p cell → Adds shape w p (Tail cell c (link_at w at groups j)) from better
    more cell g =
        adds_then (Tail cell c (j + 1)) (Only j) (Tail cell c (link_at w at groups j))
        (λ q hq (e, k).
        elim (ℕ_discrete q j) [
          | yes i ↦ inr i
          | no i ↦
              elim (dec_lt q j) [
                | yes m ↦ absurd (let u = g.chained.link_all j b (inside cell g) q m (e ∙ sym (here cell g)) in omega arith)
                | no m ↦ inl (e, omega arith)
              ]
        ])
        (x.adds cell g) y

pub walk_end : {shape : ℕ} {w : List ℕ} {at groups p c h : ℕ} {from best : Leader} → h ≡ 0 → Walked shape w at groups p c h from best
    → CellAdded shape w at groups p (Own c) from best
walk_end {c = c} {h = h} z x =
    record { adds = λ cell g. adds_like (Tail cell c h) (λ q. Own c (cell q)) (λ q b e. (e, omega arith)) (x.adds cell g) }

-- ---- regions that are left out

-- the best so far goes before each row that a region holds which may not lead
module _ {popped : Bool} (shape : ℕ) {w : List ℕ} {p : ℕ} (best : Leader) (a : Label) (r : Region) (s : SearchFor popped w p a)
    (some : 0 < r.latest.num + r.latest.den) (idle : may_lead shape r a best ≡ false) (q : ℕ) (z : 0 < (rows_pair shape w q p).den) (k : HoldsRow r w q) where
  touch_positive : 0 < (touching_of shape (row_label w q) a).den
  touch_positive =
      subst (λ d. 0 < (touching_of shape (row_label w q) d).den) (sym s.label_is)
      (positive_pair (rows_touch shape w q p) (larger (row_popup w q) (row_popup w p)) z)

  bound_den : 0 < (bound_of shape r a).den
  bound_den = bound_positive shape r a (row_label w q) k.inside touch_positive

  -- the bound is at most the touching value of each row in the region, and that is at most the pair value
  near : AtMost (bound_of shape r a) (rows_pair shape w q p)
  near =
      let n = larger (row_popup w q) (row_popup w p) in
      at_most_trans (positive_pair (rows_touch shape w q p) n z)
      (subst (λ d. AtMost (bound_of shape r a) (touching_of shape (row_label w q) d)) s.label_is (bound_least shape r a (row_label w q) k.inside))
      (pair_least (rows_touch shape w q p) n)

  far : Less (leader_value best) (bound_of shape r a) → Before shape w p best q
  far l = let u = less_at_most z l near in record { at_most = λ t. record { cross = omega arith }; less = λ t h. u }

  -- it is gone when it would touch
  gone : less (bound_of shape r a) r.latest ≡ false → StandsAt shape w p q → ⊥
  gone e t =
      let lives : Less (bound_of shape r a) (row_value w q) = at_most_less bound_den near t in
      let late : AtMost r.latest (bound_of shape r a) = at_most_lem e in
      elim (dec_le 1 r.latest.den) [
        | yes d ↦ (let u = at_most_trans {g = r.latest} d k.latest late in omega (arith, u.cross, lives.cross))
        | no d ↦
            (let y : r.latest.den ≡ 0 = omega arith in
            let u : r.latest.num * (bound_of shape r a).den ≤ (bound_of shape r a).num * 0 = rw y at late.cross in
            let n : 1 ≤ r.latest.num = omega (arith, some) in
            let m : 1 * 1 ≤ r.latest.num * (bound_of shape r a).den = mul-le-mul n bound_den in
            omega (arith, u, m))
      ]

  pub left_out : Before shape w p best q
  unfolding may_lead
  left_out = go (less (leader_value best) (bound_of shape r a)) (less (bound_of shape r a) r.latest) refl refl idle
    where
      go : (x y : Bool) → less (leader_value best) (bound_of shape r a) ≡ x → less (bound_of shape r a) r.latest ≡ y → cond x false y ≡ false
          → Before shape w p best q
      go true y e f n = far ((less_iff _ _).0 e)
      go false true e f n = absurd (true≢false n)
      go false false e f n = record { at_most = λ t. absurd (gone f t); less = λ t h. absurd (gone f t) }

-- so its cell, or the cells of its group, are taken in
module _ {popped : Bool} {shape : ℕ} {w : List ℕ} {at groups p : ℕ} {best : Leader} {a : Label} (s : SearchFor popped w p a) (e : EntriesLow w at groups p) where
  pub skip_cell : {c : ℕ} → c < cell_count groups → may_lead shape (region_at w at c) a best ≡ false → CellAdded shape w at groups p (Own c) best best
  skip_cell {c} hc idle =
      record {
        adds = λ cell g.
            adds_before (λ q. Own c (cell q)) best
            (λ pos q h o.
            let k : HoldsRow (region_at w at c) w q = rw o at (g.own q h (rw o hc)) in
            left_out shape best a (region_at w at c) s (e.latest_some c (omega arith)) idle q (pos q h) k);
      }

  pub skip_group : {g : ℕ} → g < groups → may_lead shape (region_at w at (cell_count groups + g)) a best ≡ false
      → CellAdded shape w at groups p (InGroup g) best best
  skip_group {g} hg idle =
      record {
        adds = λ cell i.
            adds_before (λ q. InGroup g (cell q)) best
            (λ pos q h o.
            let l : cell q < cell_count groups = omega (arith, o, hg) in
            let k = subst (λ n. HoldsRow (region_at w at (cell_count groups + n)) w q) o (i.group q h l) in
            left_out shape best a (region_at w at (cell_count groups + g)) s (e.latest_some (cell_count groups + g) (omega arith)) idle q (pos q h) k);
      }

-- ---- in turn

pub counted_low : (size start i : ℕ) → start < size → i < size → counted_down size start i < size
counted_low size start i hs hi =
    elim (dec_le i start) [ yes l ↦ rw (le-leb i start l) (omega arith) | no l ↦ rw (lt-leb i start (omega arith)) (omega arith) ]

-- all of them come in turn
counted_all : (size start d : ℕ) → start < size → d < size → InTurn (counted_down size start) size d
counted_all size start d hs hd =
    elim (dec_le d start) [
      | yes l ↦ (start - d, omega arith, rw (le-leb (start - d) start (omega arith)) (omega arith))
      | no l ↦ (size + start - d, omega arith, rw (lt-leb (size + start - d) start (omega arith)) (omega arith))
    ]

own_all : (size own d : ℕ) → own < size → d < size → InTurn (own_first size own) size d
own_all size own d hs hd =
    elim (ℕ_discrete d own) [
      | yes e ↦ (0, omega arith, sym e)
      | no e ↦
          elim (dec_lt own d) [
            | yes l ↦
                (let k : size - (size - d) ≡ d = omega arith in
                (size - d, omega arith, rw (ne_eqb (size - d) 0 (λ z. omega arith), k, lt-ltb own d l)))
            | no l ↦
                (let k : size - (size - d - 1) ≡ d + 1 = omega arith in
                (size - d - 1, omega arith, rw (ne_eqb (size - d - 1) 0 (λ z. omega arith), k, le-ltb own (d + 1) (omega arith)) (omega arith)))
          ]
    ]

module _ {shape : ℕ} {w : List ℕ} {at groups p : ℕ} where
  pub cells_more : (g start i : ℕ) {from best better : Leader} → counted_down 16 start i < 16 → CellAdded shape w at groups p (FirstCells g start i) from best
      → CellAdded shape w at groups p (Own (16 * g + counted_down 16 start i)) best better → CellAdded shape w at groups p (FirstCells g start (i + 1)) from better
  cells_more g start i low x y =
      record {
        adds = λ cell k.
            adds_then (λ q. FirstCells g start i (cell q)) (λ q. Own (16 * g + counted_down 16 start i) (cell q)) (λ q. FirstCells g start (i + 1) (cell q))
            (λ q b (e, (j, l, f)).
            elim (ℕ_discrete j i) [
              | yes n ↦ inr (let u : counted_down 16 start i ≡ cell q % 16 = rw n at f in omega (arith, u, e))
              | no n ↦ inl (e, (j, omega arith, f))
            ])
            (x.adds cell k) (y.adds cell k);
      }

  pub cells_all : (g start : ℕ) {from best : Leader} → start < 16 → CellAdded shape w at groups p (FirstCells g start 16) from best
      → CellAdded shape w at groups p (InGroup g) from best
  cells_all g start h x =
      record {
        adds = λ cell k.
            adds_like (λ q. FirstCells g start 16 (cell q)) (λ q. InGroup g (cell q)) (λ q b e. (e, counted_all 16 start (cell q % 16) h (omega arith)))
            (x.adds cell k);
      }

  pub groups_more : (start i : ℕ) {from best better : Leader} → CellAdded shape w at groups p (FirstGroups groups start i) from best
      → CellAdded shape w at groups p (InGroup (own_first groups start i)) best better → CellAdded shape w at groups p (FirstGroups groups start (i + 1)) from better
  groups_more start i x y =
      record {
        adds = λ cell k.
            adds_then (λ q. FirstGroups groups start i (cell q)) (λ q. InGroup (own_first groups start i) (cell q))
            (λ q. FirstGroups groups start (i + 1) (cell q))
            (λ q b (j, l, f). elim (ℕ_discrete j i) [ yes n ↦ inr (sym (rw n at f)) | no n ↦ inl (j, omega arith, f) ]) (x.adds cell k) (y.adds cell k);
      }

  -- every row is in a cell, or is removed at 0 and stands for nobody
  pub all_groups : (start : ℕ) {from best : Leader} → start < groups → Gridded w at groups p
      → CellAdded shape w at groups p (FirstGroups groups start groups) from best → Adds shape w p (Higher p) from best
  all_groups start {from} {best} hs g x =
      record {
        step = λ pos re.
            let (r, k, n) = (x.adds g.cell g.in_grid).step pos re in (
              r,
              k,
              λ q h l.
                  elim (dec_lt (g.cell q) (cell_count groups)) [
                    | yes i ↦ n q h (own_all groups start (g.cell q / 16) hs (omega arith))
                    | no i ↦ nobody q (g.in_grid.left_out q h (omega arith))
                  ],
            );
      }
    where
      nobody : (q : ℕ) → (row_value w q).num ≡ 0 → Before shape w p best q
      nobody q z = record { at_most = λ t. absurd (falls t); less = λ t h. absurd (falls t) }
        where
          falls : StandsAt shape w p q → ⊥
          falls t =
              let u : (rows_pair shape w q p).num * (row_value w q).den < 0 * (rows_pair shape w q p).den = rw z at t.cross in omega arith
