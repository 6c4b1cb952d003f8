-- The steps of filling the table of splits: a block's table is that of its halves, and its own split. Assumes nothing.
use Rattle.std.specs.Prelude.{ℕ, ◌+◌, ◌-◌, ◌/◌, ◌<◌, ◌≤◌, max, ◌≡◌, refl, Bool, true, false, not, List, ◌≢◌, length, get_or, set}
use Rattle.std.proofs.Common.{sym, ◌∙◌, arith, ltb-true, ltb-false, length-set, get_or-set_same, get_or-set_other}
use Rattle.std.proofs.Math.Decide.{dec_lt, ℕ_discrete}
use Rattle.lists.proofs.TestLaws.{by_cases}
use Rattle.lists.specs.Counting.{count, non, under}
use Rattle.lists.proofs.CountLaws.{count_append}
use Rattle.lists.specs.Blocks.{block}
use Rattle.lists.proofs.BlockLaws.{block_has, all_block}
use Rattle.numbers.specs.Little.{Bytes}
use Rattle.index.specs.Index.{beats, coordinate, axis_key}
use Rattle.index.specs.Valid.{is_tree}
use Rattle.index.specs.Blocks.{entry_at, left_of, right_of, Halves}
use Rattle.index.proofs.Laws.{block_halves}
use Rattle.judging.specs.declared.Corner.{Corner}
use Rattle.judging.specs.Search.{Splits, none, node, Table, Greatest, Fillable, Filled, corner_on}

none_block : (e : ℕ → ℕ) (q : ℕ → Bool) (lo m : ℕ) → count q (block e lo m) ≡ 0 → (i : ℕ) → lo ≤ i → i < lo + m → q (e i) ≡ false
none_block e q lo m h i a b = by_cases (q (e i)) (λ x. absurd (omega (arith, block_has q e lo m i a b x))) (λ x. x)

key_order : (s : List ℕ) (axis : Bool) (j i : ℕ) → i < 65536 → axis_key s axis j < axis_key s axis i → coordinate s axis j ≤ coordinate s axis i
unfolding axis_key
key_order s axis j i h k = omega arith

-- a table that is the same at the places of a block
splits_same : {s p : List ℕ} {e z y : ℕ → ℕ} {lo size : ℕ} {axis : Bool} → Splits s p e z lo size axis
    → ((i : ℕ) → lo ≤ i → i < lo + size → y i ≡ z i) → Splits s p e y lo size axis
splits_same none h = none
splits_same {lo = lo} {axis = axis} (node some last l r a b) h =
    let here = h lo (omega arith) (omega arith) in
    node {axis = axis} some last (λ i u v. rw here (l i u v)) (λ i u v. rw here (r i u v))
    (splits_same a (λ i u v. h i (omega arith) (omega arith)))
    (splits_same b (λ i u v. h i (omega arith) (omega arith)))

pub filled_none : {s t z : List ℕ} {lo size : ℕ} {axis : Bool} → Bytes s → size ≡ 0 → Filled s t z z lo size axis (record { x = 0; y = 0 })
filled_none bytes e =
    record {
      splits = λ p h. rw e none;
      long = refl;
      rest_before = λ i h. refl;
      rest_behind = λ i h. refl;
      x_is = record { bounds = λ i a b. absurd (omega arith); least = λ b h. omega arith };
      y_is = record { bounds = λ i a b. absurd (omega arith); least = λ b h. omega arith };
      x_small = omega arith;
      y_small = omega arith;
      bytes = bytes;
    }

corner_is : {s t z y : List ℕ} {lo size : ℕ} {turn : Bool} {c : Corner} → Filled s t z y lo size turn c → (axis : Bool)
    → Greatest (coordinate s axis) (entry_at t) lo size (corner_on axis c)
corner_is f true = f.x_is
corner_is f false = f.y_is

pub corner_small : {s t z y : List ℕ} {lo size : ℕ} {turn : Bool} {c : Corner} (axis : Bool) → Filled s t z y lo size turn c → corner_on axis c < 65536
corner_small true f = f.x_small
corner_small false f = f.y_small

-- the greatest of a block is that of its root and its halves
greatest_join : {f e : ℕ → ℕ} {lo size a b c v : ℕ} → size ≢ 0 → a ≡ f (e lo) → Greatest f e (lo + 1) (size / 2) b
    → Greatest f e (lo + 1 + size / 2) (size - 1 - size / 2) c → v ≡ max a (max b c) → Greatest f e lo size v
greatest_join {f} {e} {lo} {size} {a} {b} {c} {v} some ia ib ic iv =
    record {
      bounds = λ i h k.
          elim (ℕ_discrete lo i) [
            | yes x ↦ (let y : f (e i) ≡ a = rw (← x) (sym ia) in omega (arith, y, iv))
            | no x ↦
                elim (dec_lt i (lo + 1 + size / 2)) [
                  | yes y ↦ omega (arith, ib.bounds i (omega arith) (omega arith), iv)
                  | no y ↦ omega (arith, ic.bounds i (omega arith) (omega arith), iv)
                ]
          ];
      least = λ k h.
          omega (
            arith,
            iv,
            ia,
            h lo (omega arith) (omega arith),
            ib.least k (λ i x y. h i (omega arith) (omega arith)),
            ic.least k (λ i x y. h i (omega arith) (omega arith)),
          );
    }

module _ {s t z : List ℕ} {lo size : ℕ} (r : Fillable s t z lo size) (some : size ≢ 0) where
  pub fill_left : Fillable s t z (lo + 1) (size / 2)
  fill_left =
      record {
        n = r.n;
        marks_long = r.marks_long;
        index_long = r.index_long;
        few = r.few;
        below = r.below;
        there = omega (arith, r.there);
        room = r.room;
      }

  pub fill_right : {y : List ℕ} → length y ≡ length z → Fillable s t y (lo + 1 + size / 2) (size - 1 - size / 2)
  fill_right long =
      record {
        n = r.n;
        marks_long = r.marks_long;
        index_long = r.index_long;
        few = r.few;
        below = r.below;
        there = omega (arith, r.there);
        room = omega (arith, r.room);
      }

  small : (i : ℕ) → i < lo + size → entry_at t i < 65536
  small i h = omega (arith, r.below i (omega (arith, r.there)), r.few)

  module _ (axis : Bool) {a b c d : List ℕ} {left right : Corner} {v : ℕ}
      (fl : Filled s t a b (lo + 1) (size / 2) (not axis) left)
      (fr : Filled s t b c (lo + 1 + size / 2) (size - 1 - size / 2) (not axis) right)
      (iv : v ≡ corner_on axis left) (room : lo < length c) (id : d ≡ set c lo v) where
    here : get_or d lo 0 ≡ corner_on axis left
    here = rw id (get_or-set_same c lo v 0 room ∙ iv)

    other : (i : ℕ) → (i ≡ lo → ⊥) → get_or d i 0 ≡ get_or c i 0
    other i h = rw id (get_or-set_other c lo i v 0 h)

    node_at : (p : List ℕ) → is_tree (beats p) (axis_key s) axis (block (entry_at t) lo size) ≡ true → Table s p t d lo size axis
    node_at p tree =
        node {axis = axis} some last (λ i h k. rw here ((corner_is fl axis).bounds i (omega arith) (omega arith)))
        (λ i h k. rw here ((corner_is fl axis).least (coordinate s axis (entry_at t i)) (λ j u w. ordered j i u w h k)))
        (splits_same (fl.splits p parts.left) (λ i h k. other i (omega arith) ∙ fr.rest_before i (omega arith)))
        (splits_same (fr.splits p parts.right) (λ i h k. other i (omega arith)))
      where
        parts : Halves (beats p) (axis_key s) axis (entry_at t) lo size
        parts = block_halves s p axis (entry_at t) lo size some tree

        -- the root beats everybody in both halves
        beaten : (count (non (beats p (entry_at t lo))) (left_of (entry_at t) lo size) ≡ 0) × (count (non (beats p (entry_at t lo))) (right_of (entry_at t) lo size) ≡ 0)
        beaten =
            let sum = count_append (non (beats p (entry_at t lo))) (left_of (entry_at t) lo size) (right_of (entry_at t) lo size) in
            (omega (arith, parts.beaten, sum), omega (arith, parts.beaten, sum))

        last : (i : ℕ) → lo < i → i < lo + size → beats p (entry_at t lo) (entry_at t i) ≡ true
        last i h k =
            elim (dec_lt i (lo + 1 + size / 2)) [
              | yes l ↦ all_block (beats p (entry_at t lo)) (entry_at t) (lo + 1) (size / 2) beaten.0 i (omega arith) (omega arith)
              | no l ↦
                  all_block (beats p (entry_at t lo)) (entry_at t) (lo + 1 + size / 2) (size - 1 - size / 2) beaten.1 i (omega arith) (omega arith)
            ]

        ordered : (j i : ℕ) → lo + 1 ≤ j → j < lo + 1 + size / 2 → (lo + 1 + size / 2) ≤ i → i < lo + size
            → coordinate s axis (entry_at t j) ≤ coordinate s axis (entry_at t i)
        ordered j i u w h k =
            let under-it = under (axis_key s axis) parts.split.between in
            let below = ltb-true (axis_key s axis (entry_at t j)) parts.split.between
            (all_block under-it (entry_at t) (lo + 1) (size / 2) parts.split.left j u w) in
            let above = ltb-false (axis_key s axis (entry_at t i)) parts.split.between
            (none_block (entry_at t) under-it (lo + 1 + size / 2) (size - 1 - size / 2) parts.split.right i h (omega arith)) in
            key_order s axis (entry_at t j) (entry_at t i) (small i k) (omega arith)

    pub filled_node : {whole : Corner} {x y : ℕ} → x ≡ coordinate s true (entry_at t lo) → y ≡ coordinate s false (entry_at t lo) → x < 65536 → y < 65536
        → whole.x ≡ max x (max left.x right.x) → whole.y ≡ max y (max left.y right.y) → Filled s t a d lo size axis whole
    filled_node ix iy sx sy wx wy =
        record {
          splits = node_at;
          long = rw id (length-set c lo v) ∙ fr.long ∙ fl.long;
          rest_before = λ i h. other i (omega arith) ∙ fr.rest_before i (omega arith) ∙ fl.rest_before i (omega arith);
          rest_behind = λ i h. other i (omega arith) ∙ fr.rest_behind i (omega arith) ∙ fl.rest_behind i (omega arith);
          x_is = greatest_join some ix fl.x_is fr.x_is wx;
          y_is = greatest_join some iy fl.y_is fr.y_is wy;
          x_small = omega (arith, fl.x_small, fr.x_small);
          y_small = omega (arith, fl.y_small, fr.y_small);
          bytes = fl.bytes;
        }
