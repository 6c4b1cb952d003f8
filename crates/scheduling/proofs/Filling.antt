-- Keys and rows, written one after the other, and that the rows of the sorted keys are the marks in the order of rank. Assumes nothing.
use Prim.Native.Nat.{ℕ, ◌+◌, ◌*◌, ◌%◌, ◌<◌, ◌≤◌}
use mathlib.Core.Path.{◌≡◌, refl, sym, ap, ap₂, ◌∙◌, subst}
use mathlib.Core.Bool.{Bool, false}
use mathlib.Core.List.{List, [], ◌∷◌}
use native.Mathlib.Omega.{arith}
use borrow.Author.Count.{below_more}
use lib.ListN.{length}
use Rattle.lists.specs.Stores.{Kept}
use Rattle.lists.specs.Sorting.{Ranks}
use Rattle.numbers.proofs.Laws.{number_kept}
use Rattle.sorting.specs.Laws.{sorted_ranks}
use Rattle.marks.specs.Marks.{radius_at, kind_at, used_at, larger, touching, rank_key, touching_of}
use Rattle.marks.proofs.Laws.{used_positive}
use Rattle.marks.specs.Pairs.{popup_at, pair_of, pair_value, GoodPopups}
use Rattle.marks.proofs.PairLaws.{popup_none}
use Rattle.marks.specs.declared.Label.{Label}
use Rattle.sorting.specs.Keys.{key_at, KeyPut, KeysSorted}
use Rattle.elimination.specs.Reel.{marks_of}
use Rattle.elimination.proofs.Sheet.{sheet_proper}
use Rattle.searching.specs.Rows.{row_size, row_x_offset, row_y_offset, row_radius_offset, row_popup_offset, row_record_offset, row_number}
use Rattle.scheduling.specs.Settling.{RowsSmall, Ordered}
use Rattle.scheduling.specs.Sending.{RowsNumbered}
use Rattle.scheduling.specs.Filling.{keys_from, Keyed, number_at, RowAt, RowsPut, InRank}

-- ---- keys

pub keyed_more : {edition : ℕ} {s w₀ w w' : List ℕ} {n p key : ℕ} → Keyed edition s n p w₀ w → key ≡ rank_key edition s p → KeyPut w w' (keys_from n + 8 * p) key
    → Keyed edition s n (p + 1) w₀ w'
keyed_more {edition} {s} {w₀} {w} {w'} {n} {p} g e k =
    record {
      long = k.kept.long ∙ g.long;
      keys = below_more _ p (λ i h. number_kept k.kept 8 (keys_from n + 8 * i) (omega arith) ∙ g.keys i h) (k.is ∙ e);
    }

-- a rank key ends in the mark's number
key_number : (edition : ℕ) (s : List ℕ) (m : ℕ) → m < 4096 → rank_key edition s m % 4096 ≡ m
unfolding rank_key
key_number edition s m h = omega arith

pub ranks : (edition : ℕ) (s : List ℕ) {w v : List ℕ} {spare n : ℕ} → n ≤ 4096 → ((i : ℕ) → i < n → key_at w (keys_from n) i ≡ rank_key edition s i)
    → KeysSorted w v (keys_from n) spare n → Ranks n (rank_key edition s) (number_at n v)
ranks edition s few keys w = sorted_ranks w (rank_key edition s) 4096 keys (λ m h. key_number edition s m (omega arith))

-- ---- rows

row_kept : {s u v w : List ℕ} {a b : ℕ} → Kept v w a b → (at m : ℕ) → at + row_record_offset ≤ a → RowAt s u v at m → RowAt s u w at m
row_kept k at m h r =
    record {
      number = number_kept k 2 at (omega arith) ∙ r.number;
      x_is = number_kept k 2 (at + row_x_offset) (omega arith) ∙ r.x_is;
      y_is = number_kept k 2 (at + row_y_offset) (omega arith) ∙ r.y_is;
      radius_is = number_kept k 2 (at + row_radius_offset) (omega arith) ∙ r.radius_is;
      popup_is = number_kept k 3 (at + row_popup_offset) (omega arith) ∙ r.popup_is;
    }

pub rows_more : {s u : List ℕ} {n p : ℕ} {w₀ w w' : List ℕ} {m : ℕ} → p < n → m ≡ number_at n w p → RowsPut s u n p w₀ w
    → Kept w w' (row_size * p) (row_size * p + row_record_offset) → RowAt s u w' (row_size * p) m → RowsPut s u n (p + 1) w₀ w'
rows_more {n = n} {p} {w₀} h e g k here =
    record {
      long = k.long ∙ g.long;
      keys = λ i l b. number_kept k 8 (keys_from n + 8 * i) (omega arith) ∙ g.keys i (omega arith) b;
      rows = below_more _ p
          (λ q l. row_kept k (row_size * q) (number_at n w₀ q) (omega arith) (g.rows q l))
          (rw (e, g.keys p (omega arith) h) at here);
    }

-- ---- the rows of the sorted keys are the marks in the order of rank

pub in_rank : {edition : ℕ} {s u w v : List ℕ} {n : ℕ} → Ranks n (rank_key edition s) (number_at n v) → RowsPut s u n n v w → InRank edition s u w n
in_rank {edition} {s} {u} {w} {v} {n} rs f =
    let number_is : (q : ℕ) → q < n → row_number w q ≡ number_at n v q = λ q h. (f.rows q h).number in
    record {
      ranking = record {
        inside = λ q h. rw (number_is q h) (rs.inside q h);
        rising = λ q p h k. rw (number_is q (omega arith), number_is p k) (rs.rising q p h k);
        onto = λ m h. let (q, b, e) = rs.onto m h in (q, b, number_is q b ∙ e);
      };
      label_is = λ q h. let r = f.rows q h in rw (number_is q h, r.x_is, r.y_is, r.radius_is);
      popup_is = λ q h. let r = f.rows q h in rw (number_is q h) r.popup_is;
    }

-- where there are no bytes each popup is 0
unpopped : (u : List ℕ) (m : ℕ) → length u ≡ 0 → popup_at u m ≡ 0
unpopped [] m e = popup_none m
unpopped (x ∷ u) m e = absurd (omega arith)

module _ {edition : ℕ} {s u w : List ℕ} {n : ℕ} (o : InRank edition s u w n) where
  pub ordered : (shape : ℕ) → n ≤ 4096 → Ordered shape (marks_of (record { marks = s; count = n; edition = edition; shape = shape; popups = u })) (row_number w) w n
  unfolding touching pair_value
  ordered shape few =
      record {
        proper = sheet_proper _ few;
        counted = refl;
        ranking = o.ranking;
        number = λ q h. refl;
        value = λ q p h k.
            ap₂ pair_of (ap₂ (touching_of shape) (o.label_is q (omega arith)) (o.label_is p k)) (ap₂ larger (o.popup_is q (omega arith)) (o.popup_is p k));
      }

  pub numbered : RowsNumbered w n
  numbered =
      record {
        inside = o.ranking.inside;
        distinct = λ q p h k e. let z = ap (rank_key edition s) e in omega (arith, o.ranking.rising q p h k);
      }

  pub rows_small : (popped : Bool) → ((i : ℕ) → i < n → used_at s i ≤ 16383) → GoodPopups u n → (popped ≡ false → length u ≡ 0) → RowsSmall popped w n
  rows_small popped radii popups none =
      record {
        radius = λ q h. subst (λ (a : Label). a.radius ≤ 16383) (sym (o.label_is q h)) (radii (row_number w q) (o.ranking.inside q h));
        some = λ q h.
            subst (λ (a : Label). 0 < a.radius) (sym (o.label_is q h)) (used_positive (radius_at s (row_number w q)) (kind_at s (row_number w q)));
        popup = λ q h. rw (o.popup_is q h) (popups.each (row_number w q) (o.ranking.inside q h));
        plain = λ e q h. o.popup_is q h ∙ unpopped u (row_number w q) (none e);
      }
