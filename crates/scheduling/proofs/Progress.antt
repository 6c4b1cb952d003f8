-- The outer loop: what holds once the rows before p have what was found for them. Assumes nothing.
use Prim.Native.Nat.{ℕ, ◌+◌, ◌*◌, ◌^◌, ◌<◌, ◌≤◌}
use mathlib.Core.Path.{◌≡◌, refl, sym, ap, ap₂, ◌∙◌, subst}
use mathlib.Core.Bool.{Bool}
use mathlib.Core.List.{List}
use mathlib.Core.Logic.{◌≢◌}
use native.Mathlib.Omega.{arith}
use native.Mathlib.Nat.{add-zero, mul-le-mul}
use native.Mathlib.Decide.{ℕ_discrete}
use borrow.Author.Count.{below_more}
use borrow.Author.Tests.{eq-eqb, ne_eqb}
use lib.ListN.{length}
use lib.Seq.{sets}
use Rattle.lists.specs.Stores.{Kept}
use Rattle.lists.proofs.StoreLaws.{kept_none}
use Rattle.numbers.specs.Little.{le_at}
use Rattle.numbers.proofs.Laws.{number_kept}
use Rattle.fractions.specs.declared.Fraction.{Fraction}
use Rattle.fractions.specs.Order.{Small}
use Rattle.marks.specs.declared.Label.{Label}
use Rattle.marks.specs.Marks.{larger, touching_of}
use Rattle.marks.specs.Pairs.{pair_of}
use Rattle.marks.proofs.PairLaws.{pair_positive}
use Rattle.elimination.specs.declared.Record.{Record}
use Rattle.elimination.specs.Marks.{Marks}
use Rattle.elimination.specs.Process.{Removal, stays, put}
use Rattle.elimination.specs.Records.{record_size, num_offset, den_offset, record_bytes, fraction_of}
use Rattle.elimination.specs.Settled.{SettledAt}
use Rattle.elimination.proofs.Laws.{visited, all_settled}
use Rattle.elimination.proofs.Theorems.{settled_process}
use Rattle.searching.specs.Rows.{row_size, row_x_offset, row_y_offset, row_radius_offset, row_popup_offset, row_record_offset, row_number, row_label, row_popup, row_value, rows_touch, rows_pair, row_record, Stored, StoredAt}
use Rattle.searching.specs.Scan.{Above, Scanned}
use Rattle.searching.specs.Search.{SearchFor, Zeroed}
use Rattle.scheduling.specs.Settling.{RowsSmall, SameFields, Scannable, Settles, Ordered, Processed}
use Rattle.scheduling.proofs.Bytes.{record_back, put_kept, off_field, off_popup}

-- ---- one row

-- the record that was put is read back
pub record_is : (u : List ℕ) {v : List ℕ} (p : ℕ) (t : Record) → row_size * p + row_size ≤ length u → t.eliminator < 65536 → t.num < 2 ^ 64 → t.den < 4294967296
    → v ≡ sets u (row_size * p + row_record_offset) (record_bytes t) → row_record v p ≡ t
record_is u p t room he hn hd e = rw e (record_back u (row_size * p + row_record_offset) t (omega arith) he hn hd)

-- u is w but for bytes behind the rows
pub settles : {shape : ℕ} {w u v : List ℕ} {n p b : ℕ} {t : Record} → p < n → row_size * n ≤ length w → t.num < 2 ^ 64 → t.den < 4294967296
    → Kept w u (row_size * n) b → v ≡ sets u (row_size * p + row_record_offset) (record_bytes t) → Scanned shape w p t → Settles shape n w v p
settles {shape} {w} {u} {v} {n} {p} {b} {t} hp room hn hd ku e sc =
    let k : Kept u v (row_size * p + row_record_offset) (row_size * p + row_size) = put_kept p t e in
    let is = record_is u p t (omega (arith, ku.long)) sc.number hn hd e in
    record {
      long = k.long ∙ ku.long;
      kept = λ m a l o. number_kept k m a o ∙ number_kept ku m a (omega arith);
      scanned = subst (Scanned shape w p) (sym is) sc;
    }

-- ---- the fields stay

-- where only bytes behind the rows change
pub same_kept : {n b : ℕ} {w v : List ℕ} → Kept w v (row_size * n) b → SameFields n w v
same_kept k =
    record {
      long = k.long;
      field = λ q j h l. number_kept k 2 (row_size * q + j) (omega arith);
      popup = λ q h. number_kept k 3 (row_size * q + row_popup_offset) (omega arith);
    }

same_more : {shape n p : ℕ} {w v u : List ℕ} → SameFields n w v → Settles shape n v u p → SameFields n w u
same_more {n = n} {p = p} s k =
    record {
      long = k.long ∙ s.long;
      field = λ q j h l. k.kept 2 (row_size * q + j) (omega arith) (off_field q p j l) ∙ s.field q j h l;
      popup = λ q h. k.kept 3 (row_size * q + row_popup_offset) (omega arith) (off_popup q p) ∙ s.popup q h;
    }

module _ {n : ℕ} {w v : List ℕ} (s : SameFields n w v) where
  pub number_same : (q : ℕ) → q < n → row_number v q ≡ row_number w q
  number_same q h = rw add-zero at (s.field q 0 h (omega arith))

  pub label_same : (q : ℕ) → q < n → row_label v q ≡ row_label w q
  label_same q h =
      rw (s.field q row_x_offset h (omega arith), s.field q row_y_offset h (omega arith), s.field q row_radius_offset h (omega arith))

  pub radius_same : (q : ℕ) → q < n → (row_label v q).radius ≡ (row_label w q).radius
  radius_same q h = s.field q row_radius_offset h (omega arith)

  pub touch_same : (shape q p : ℕ) → q < n → p < n → rows_pair shape v q p ≡ rows_pair shape w q p
  touch_same shape q p hq hp = ap₂ pair_of (ap₂ (touching_of shape) (label_same q hq) (label_same p hp)) (ap₂ larger (s.popup q hq) (s.popup p hp))

  pub small_same : {popped : Bool} → RowsSmall popped w n → RowsSmall popped v n
  small_same g =
      record {
        radius = λ q h. rw (radius_same q h) (g.radius q h);
        some = λ q h. rw (radius_same q h) (g.some q h);
        popup = λ q h. rw (s.popup q h) (g.popup q h);
        plain = λ e q h. rw (s.popup q h) (g.plain e q h);
      }

-- ---- the loop

-- v is w with what was found in the rows before p: it is small, and settles the marks of those rows
pub record Progress (shape n p : ℕ) (w v : List ℕ) : Type 0 where
  pub fields : SameFields n w v
  pub small : (q : ℕ) → q < p → Small (row_value v q)
  pub settled : (M : Marks) (order : ℕ → ℕ) → Ordered shape M order w n
      → (s : ℕ → Removal) × ((q : ℕ) → q < p → StoredAt v q (s (order q))) × ((q : ℕ) → q < p → SettledAt M s (order q))
  pub zeroed : ((q : ℕ) → q < n → 0 < (row_label w q).radius) → Zeroed shape v p

pub start : (shape n : ℕ) (w : List ℕ) → Progress shape n 0 w w
start shape n w =
    record {
      fields = same_kept (kept_none w (row_size * n) 0);
      small = λ q h. absurd (omega arith);
      settled = λ M order o. ((λ _. stays), (λ q h. absurd (omega arith)), (λ q h. absurd (omega arith)));
      zeroed = λ some. record { removed = λ q b l h. absurd (omega arith) };
    }

pub ready : {popped : Bool} {shape n p : ℕ} {w v : List ℕ} → n ≤ 4096 → row_size * n ≤ length w → RowsSmall popped w n → p < n → Progress shape n p w v → Scannable popped v n p
ready {popped} {shape} {n} {p} {w} {v} few room small hp g =
    let here = small_same g.fields small in
    record {
      few = few;
      below = hp;
      room = omega (arith, g.fields.long);
      radius = here.radius p hp;
      popup = here.popup p hp;
      above = λ q h. record { radius = here.radius q (omega arith); popup = here.popup q (omega arith); value = g.small q h };
      plain = λ e q h. here.plain e q (omega arith);
    }

pub search_for : {popped : Bool} {w : List ℕ} {n p : ℕ} {a : Label} → Scannable popped w n p → a ≡ row_label w p → SearchFor popped w p a
search_for s e =
    record {
      few = omega (arith, s.below, s.few);
      room = omega (arith, s.below, s.room);
      label_is = e;
      radius_small = rw e s.radius;
      popup_small = s.popup;
      above = s.above;
      plain = s.plain;
    }

put_here : (s : ℕ → Removal) (h : ℕ) (r : Removal) → put s h r h ≡ r
unfolding put
put_here s h r = rw (eq-eqb h h refl)

put_other : (s : ℕ → Removal) (h : ℕ) (r : Removal) (i : ℕ) → i ≢ h → put s h r i ≡ s i
unfolding put
put_other s h r i d = rw (ne_eqb i h d)

-- the mark in row p joins the settled ones
module _ {shape n p : ℕ} {w v u : List ℕ} (hp : p < n) (g : Progress shape n p w v) (x : Settles shape n v u p) where
  -- what was found for the earlier rows stays
  number_off : (k a q : ℕ) → q < p → a + k ≤ record_size → le_at k u (row_size * q + row_record_offset + a) ≡ le_at k v (row_size * q + row_record_offset + a)
  number_off k a q h l = x.kept k (row_size * q + row_record_offset + a) (omega arith) (omega arith)

  record_off : (q : ℕ) → q < p → row_record u q ≡ row_record v q
  record_off q h =
      rw (number_off 8 num_offset q h (omega arith), number_off 4 den_offset q h (omega arith), rw add-zero at (number_off 2 0 q h (omega arith)))

  stored_off : (q : ℕ) → q < p → (r : Removal) → StoredAt v q r → StoredAt u q r
  stored_off q h r = subst (Stored r) (sym (record_off q h))

  module _ (M : Marks) (order : ℕ → ℕ) (o : Ordered shape M order w n) where
    inside : p < M.count
    inside = omega (arith, o.counted)

    apart : (q : ℕ) → q < p → order q ≢ order p
    apart q h e = let k = ap M.key e in omega (arith, o.ranking.rising q p h inside)

    above : (s : ℕ → Removal) → ((q : ℕ) → q < p → StoredAt v q (s (order q))) → Above shape M order s v p
    above s st =
        record {
          number = λ q h. number_same g.fields q (omega arith) ∙ o.number q (omega arith);
          value = λ q h. touch_same g.fields shape q p (omega arith) hp ∙ o.value q p h hp;
          removal = st;
        }

    settled_on : (s : ℕ → Removal) × ((q : ℕ) → q < p + 1 → StoredAt u q (s (order q))) × ((q : ℕ) → q < p + 1 → SettledAt M s (order q))
    settled_on =
        let (s, st, se) = g.settled M order o in
        let (r, sr, fo) = x.scanned.found M order s o.proper (above s st) in
        let t : ℕ → Removal = put s (order p) r in (
          t,
          below_more _ _
              (λ q h. rw (put_other s (order p) r (order q) (apart q h)) (stored_off q h (s (order q)) (st q h)))
              (rw (put_here s (order p) r) sr),
          λ q h.
              visited M order o.ranking s t p inside (λ i a d. sym (put_other s (order p) r i d)) r (put_here s (order p) r) fo se q
              (omega arith),
        )

  -- rows with a radius have pair values with a denominator
  rows_positive : ((q : ℕ) → q < n → 0 < (row_label w q).radius) → (q : ℕ) → q < p → 0 < (rows_pair shape v q p).den
  unfolding touching_of
  rows_positive some q h =
      pair_positive (rows_touch shape v q p) (larger (row_popup v q) (row_popup v p))
      (labels_positive (row_label v q) (row_label v p) (rw (radius_same g.fields q (omega arith)) (some q (omega arith))))
    where
      labels_positive : (a b : Label) → 0 < a.radius → 0 < (touching_of shape a b).den
      labels_positive a b z = let k : 1 ≤ a.radius + b.radius = omega arith in let m = mul-le-mul k k in omega (arith, m)

  zeroed_on : ((q : ℕ) → q < n → 0 < (row_label w q).radius) → Zeroed shape u (p + 1)
  zeroed_on some =
      record {
        removed = λ q b l h e z.
            let pair : rows_pair shape u q b ≡ rows_pair shape v q b = touch_same still shape q b (omega arith) (omega arith) in
            let e' : (rows_pair shape v q b).num ≡ 0 = ap (λ (f : Fraction). f.num) (sym pair) ∙ e in
            let z' : 0 < (row_value v q).num = subst (λ (r : Record). 0 < r.num) (record_off q (omega arith)) z in
            elim (ℕ_discrete b p) [
              | yes i ↦ rw i (x.scanned.zero_there (rows_positive some) q (omega (arith, i)) (rw i at e') z')
              | no i ↦ (let k : b < p = omega arith in ap (λ (r : Record). r.num) (record_off b k) ∙ (g.zeroed some).removed q b l k e' z')
            ];
      }
    where
      still : SameFields n v u
      still = same_more (same_kept (kept_none v (row_size * n) 0)) x

  pub advance : Progress shape n (p + 1) w u
  advance =
      record {
        fields = same_more g.fields x;
        small = below_more _ _ (λ q h. subst (λ (t : Record). Small (fraction_of t)) (sym (record_off q h)) (g.small q h)) x.scanned.small;
        settled = settled_on;
        zeroed = zeroed_on;
      }

pub finish : {shape n p : ℕ} {w v : List ℕ} → p ≡ n → Progress shape n p w v → Processed shape n w v
finish {shape} {n} {p} {w} {v} e g =
    record {
      fields = g.fields;
      removals = λ M order o k h.
          let (s, st, se) = g.settled M order o in
          let all = all_settled M order o.ranking s (λ q b. se q (omega (arith, o.counted))) in
          let b : k < M.count = omega (arith, o.counted) in
          rw (← settled_process M o.proper s all (order k) (o.ranking.inside k b)) (st k (omega arith));
    }

-- the rows of v are those of w
pub processed_like : {shape n : ℕ} {w v u : List ℕ} → SameFields n w v → Processed shape n v u → Processed shape n w u
processed_like {shape} s x =
    record {
      fields =
          record {
            long = x.fields.long ∙ s.long;
            field = λ q j h l. x.fields.field q j h l ∙ s.field q j h l;
            popup = λ q h. x.fields.popup q h ∙ s.popup q h;
          };
      removals = λ M order o.
          x.removals M order
          (record {
            proper = o.proper;
            counted = o.counted;
            ranking = o.ranking;
            number = λ q h. number_same s q h ∙ o.number q h;
            value = λ q p h k. touch_same s shape q p (omega arith) k ∙ o.value q p h k;
          });
    }
