-- The steps of a search in any order: a row is passed over, or takes the place of the best one. Assumes nothing.
use Prim.Native.Nat.{ℕ, ◌+◌, ◌*◌, ◌<◌, ◌≤◌}
use mathlib.Core.Path.{◌≡◌, refl, sym, ap, ◌∙◌, subst}
use mathlib.Core.Bool.{Bool, true, false, cond, true≢false, false≢true}
use mathlib.Core.List.{List}
use mathlib.Core.Logic.{◌⊎◌, inl, inr}
use native.Mathlib.Omega.{arith}
use native.Mathlib.Nat.{mul-le-mul}
use native.Mathlib.Decide.{dec_lt, ℕ_discrete}
use borrow.Author.Tests.{ltb-true, ltb-false}
use lib.Dec.{ltb}
use Rattle.fractions.specs.declared.Fraction.{Fraction}
use Rattle.fractions.specs.Order.{less, Less, AtMost, Later}
use Rattle.fractions.proofs.Laws.{less_iff, order, at_most_trans, less_at_most, at_most_less}
use Rattle.marks.specs.Marks.{larger}
use Rattle.marks.proofs.Laws.{larger_least}
use Rattle.marks.specs.Pairs.{popup_value}
use Rattle.marks.proofs.PairLaws.{popup_grows, pair_popup}
use Rattle.elimination.specs.declared.Record.{Record}
use Rattle.elimination.specs.Marks.{Marks, Proper}
use Rattle.elimination.specs.Process.{Removal, stays, gone, when}
use Rattle.elimination.specs.RankOrder.{Stands, Found}
use Rattle.elimination.specs.Records.{fraction_of}
use Rattle.searching.specs.declared.Leader.{Leader}
use Rattle.searching.specs.Rows.{row_number, row_popup, row_record, row_value, rows_touch, rows_pair, never, row_never, Stored}
use Rattle.searching.specs.Scan.{Above, Scanned}
use Rattle.searching.proofs.Zero.{zero_factor}
use Rattle.searching.specs.Search.{leader_value, none, Admitted, precedes, StandsAt, Positive, Before, Leads, Real, Adds, Only, Higher, BestOfFirst, is_least}

-- ---- the tests, on a stored value

later_less : (r : Removal) (t : Record) {g : Fraction} → 0 < g.den → Stored r t → Later (when r) g → Less g (fraction_of t)
later_less stays t d e l = let f : fraction_of t ≡ never = ap fraction_of e in rw f (omega arith)
later_less (gone h k) t d (a, e, z) l = rw e at l

less_later : (r : Removal) (t : Record) {g : Fraction} → Stored r t → Less g (fraction_of t) → Later (when r) g
less_later stays t e l = tt
less_later (gone h k) t (a, e, z) l = rw e l

pub not_less : {f g : Fraction} → less f g ≡ false → Less f g → ⊥
not_less {f} {g} e l = true≢false (sym ((less_iff f g).1 l) ∙ e)

pub at_most_lem : {f g : Fraction} → less f g ≡ false → AtMost g f
at_most_lem {f} {g} e = elim (order g f) [ inl a ↦ a | inr l ↦ absurd (not_less e l) ]

precedes_yes : (f : Fraction) (j : ℕ) (g : Fraction) (k : ℕ) → precedes f g (ltb j k) ≡ true → Less f g ⊎ (AtMost f g × AtMost g f × (j < k))
unfolding precedes
precedes_yes f j g k e = go (less f g) (less g f) (ltb j k) refl refl refl e
  where
    go : (a b c : Bool) → less f g ≡ a → less g f ≡ b → ltb j k ≡ c → cond a true (cond b false c) ≡ true → Less f g ⊎ (AtMost f g × AtMost g f × (j < k))
    go true b c x y z e = inl ((less_iff f g).0 x)
    go false true c x y z e = absurd (false≢true e)
    go false false true x y z e = inr (at_most_lem y, at_most_lem x, ltb-true j k z)
    go false false false x y z e = absurd (false≢true e)

precedes_no : (f : Fraction) (j : ℕ) (g : Fraction) (k : ℕ) → precedes f g (ltb j k) ≡ false → Less g f ⊎ (AtMost g f × (k ≤ j))
unfolding precedes
precedes_no f j g k e = go (less f g) (less g f) (ltb j k) refl refl refl e
  where
    go : (a b c : Bool) → less f g ≡ a → less g f ≡ b → ltb j k ≡ c → cond a true (cond b false c) ≡ false → Less g f ⊎ (AtMost g f × (k ≤ j))
    go true b c x y z e = absurd (true≢false e)
    go false true c x y z e = inl ((less_iff g f).0 y)
    go false false true x y z e = absurd (true≢false e)
    go false false false x y z e = inr (at_most_lem x, omega (arith, ltb-false j k z))

-- ---- steps one after the other

module _ {shape : ℕ} {w : List ℕ} {p : ℕ} where
  -- a candidate that goes before the rows of T already
  pub adds_before : (T : ℕ → Type 0) (c : Leader) → (Positive shape w p → (q : ℕ) → q < p → T q → Before shape w p c q) → Adds shape w p T c c
  adds_before T c h = record { step = λ pos re. (re, (λ q b x. x), h pos) }

  pub adds_like : (T S : ℕ → Type 0) {c d : Leader} → ((q : ℕ) → q < p → S q → T q) → Adds shape w p T c d → Adds shape w p S c d
  adds_like T S h x = record { step = λ pos re. let (r, k, n) = x.step pos re in (r, k, λ q b y. n q b (h q b y)) }

  pub adds_then : (T U S : ℕ → Type 0) {c d e : Leader} → ((q : ℕ) → q < p → S q → T q ⊎ U q)
      → Adds shape w p T c d → Adds shape w p U d e → Adds shape w p S c e
  adds_then T U S split x y =
      record {
        step = λ pos re.
            let (r1, k1, n1) = x.step pos re in
            let (r2, k2, n2) = y.step pos r1 in (
              r2,
              (λ q b z. k2 q b (k1 q b z)),
              (λ q b v. elim (split q b v) [ inl s ↦ k2 q b (n1 q b s) | inr s ↦ n2 q b s ]),
            );
      }

  pub higher_more : {k : ℕ} {c d e : Leader} → Adds shape w p (Higher k) c d → Adds shape w p (Only k) d e → Adds shape w p (Higher (k + 1)) c e
  higher_more {k} =
      adds_then (Higher k) (Only k) (Higher (k + 1)) (λ q h l. elim (ℕ_discrete q k) [ yes e ↦ inr e | no e ↦ inl (omega arith) ])

-- ---- a value that no pair value of row p is below

-- it is the best of all, where rows come in the order of rank
module _ {shape : ℕ} {w : List ℕ} {p k : ℕ} {c : Leader} (b : BestOfFirst shape w p k c) {r : Bool} (r-is : r ≡ is_least w p c) (yes-least : r ≡ true) where
  least : AtMost (leader_value c) (popup_value (row_popup w p))
  unfolding is_least
  least = go (less (popup_value (row_popup w p)) (leader_value c)) refl (sym r-is ∙ yes-least)
    where
      go : (x : Bool) → less (popup_value (row_popup w p)) (leader_value c) ≡ x → cond x false true ≡ true → AtMost (leader_value c) (popup_value (row_popup w p))
      go true e f = absurd (false≢true f)
      go false e f = at_most_lem e

  popup_least : (q : ℕ) → AtMost (popup_value (row_popup w p)) (rows_pair shape w q p)
  popup_least q =
      let n = larger (row_popup w q) (row_popup w p) in
      let d : 0 < (popup_value n).den = omega arith in
      at_most_trans d (popup_grows (larger_least (row_popup w q) (row_popup w p)).1) (pair_popup (rows_touch shape w q p) n)

  pub least_all : {e : ℕ} → Adds shape w p (Higher e) none c
  least_all {e} =
      record {
        step = λ pos re.
            let (x, keep, first) = b.adds.step pos re in
            (x, keep, λ q h l. elim (dec_lt q k) [ yes i ↦ first q h i | no i ↦ behind q (omega arith) ]);
      }
    where
      behind : (q : ℕ) → k ≤ q → Before shape w p c q
      behind q i =
          let d : 0 < (popup_value (row_popup w p)).den = omega arith in
          record { at_most = λ s. at_most_trans d least (popup_least q); less = λ s j. absurd (omega (arith, b.low)) }

-- ---- one row, of the value v

abbrev pub row_of : ℕ → Fraction → Leader
row_of q v = record { num = v.num; den = v.den; row = q }

module _ {shape : ℕ} {w : List ℕ} {p q : ℕ} {c : Leader} {v : Fraction} (b : q < p) (v-is : v ≡ rows_pair shape w q p) where
  cover : Before shape w p c q → Adds shape w p (Only q) c c
  cover x = adds_before (Only q) c (λ pos k h i. rw i x)

  pub keep_behind : precedes v (leader_value c) (ltb q c.row) ≡ false → Adds shape w p (Only q) c c
  keep_behind t =
      cover
      (elim (precedes_no v q (leader_value c) c.row t) [
        | inl h ↦ (let l : Less (leader_value c) (rows_pair shape w q p) = rw v-is at h in record { at_most = λ s. record { cross = omega arith }; less = λ s k. l })
        | inr h ↦ record { at_most = λ s. rw v-is at h.0; less = λ s k. absurd (omega (arith, h.1)) }
      ])

  pub keep_gone : (Less v (row_value w q) → ⊥) → Adds shape w p (Only q) c c
  keep_gone nay = cover (record { at_most = λ s. absurd (nay (rw v-is s)); less = λ s k. absurd (nay (rw v-is s)) })

  pub take : precedes v (leader_value c) (ltb q c.row) ≡ true → Less v (row_value w q) → Adds shape w p (Only q) c (row_of q v)
  take t l =
      record {
        step = λ pos re. (
          inr (record { below = b; exact = v-is; stands = rw v-is at l }),
          (λ k h x. elim (precedes_yes v q (leader_value c) c.row t) [
            | inl y ↦ won k (pos k h) x y
            | inr y ↦ drawn k (pos q b) (known pos re y.1) x y.0 y.2
          ]),
          (λ k h i. rw i (record { at_most = λ s. rw v-is (record { cross = omega arith }); less = λ s z. absurd (omega arith) })),
        );
      }
    where
      won : (k : ℕ) → 0 < (rows_pair shape w k p).den → Before shape w p c k → Less v (leader_value c) → Before shape w p (row_of q v) k
      won k z x y =
          record {
            at_most = λ s. let u = less_at_most z y (x.at_most s) in record { cross = omega arith };
            less = λ s i. less_at_most z y (x.at_most s);
          }

      -- what is at most v is not 1/0
      known : Positive shape w p → Real shape w p c → AtMost (leader_value c) v → 0 < c.den
      known pos (inl e) a =
          absurd (let z : 0 < v.den = rw v-is (pos q b) in let u : AtMost never v = rw e at a in omega arith)
      known pos (inr x) a =
          let g : c.den ≡ (rows_pair shape w c.row p).den = ap (λ (f : Fraction). f.den) x.exact in rw g (pos c.row x.below)

      drawn : (k : ℕ) → 0 < (rows_pair shape w q p).den → 0 < c.den → Before shape w p c k → AtMost v (leader_value c) → q < c.row → Before shape w p (row_of q v) k
      drawn k zq zd x y i =
          record {
            at_most = λ s. at_most_trans {g = leader_value c} zd y (x.at_most s);
            less = λ s j. at_most_less {g = leader_value c} (rw v-is zq) y (x.less s (omega arith));
          }

-- ---- all rows were taken in

module _ {shape : ℕ} {w : List ℕ} {p : ℕ} (c : Leader) (M : Marks) (order : ℕ → ℕ) (s : ℕ → Removal) (ok : Proper M) (rows : Above shape M order s w p)
    (bef : (q : ℕ) → q < p → Before shape w p c q) where
  stood : (q : ℕ) → q < p → Stands M order s (order p) q → StandsAt shape w p q
  stood q h y = rw (rows.value q h) (later_less (s (order q)) (row_record w q) (ok.positive _ _) (rows.removal q h) y)

  -- nobody was found
  nobody : leader_value c ≡ never → Found M order s (order p) p stays
  nobody e q h y =
      let z : 0 < (rows_pair shape w q p).den = rw (rows.value q h) (ok.positive _ _) in
      let u : AtMost never (rows_pair shape w q p) = rw e at ((bef q h).at_most (stood q h y)) in
      omega arith

  -- a row was found
  somebody : (t : Record) → fraction_of t ≡ leader_value c → t.eliminator ≡ row_number w c.row → Leads shape w p c
      → (r : Removal) × Stored r t × Found M order s (order p) p r
  somebody t t-is who x =
      let a : ℕ = c.row in
      let v = rows.value a x.below in
      let f : leader_value c ≡ M.value (order a) (order p) = x.exact ∙ v in (
        gone (order a) (M.value (order a) (order p)),
        (sym (rows.number a x.below) ∙ sym who, sym (t-is ∙ f), subst (λ (g : Fraction). 0 < g.den) (sym (t-is ∙ f)) (ok.positive _ _)),
        (
          a,
          refl,
          record {
            below = x.below;
            exact = refl;
            stands = less_later (s (order a)) (row_record w a) (rows.removal a x.below) (rw v at x.stands);
            less = λ q h y. let hq : q < p = omega (arith, x.below) in rw (f, rows.value q hq) at ((bef q hq).less (stood q hq y) h);
            at_most = λ q h y. rw (f, rows.value q h) at ((bef q h).at_most (stood q h y));
          },
        ),
      )

-- a leader that leads has a denominator
lead_positive : {shape : ℕ} {w : List ℕ} {p : ℕ} {c : Leader} → Positive shape w p → Leads shape w p c → 0 < c.den
lead_positive {shape} {w} {p} {c} pos x =
    let g : c.den ≡ (rows_pair shape w c.row p).den = ap (λ (f : Fraction). f.den) x.exact in rw g (pos c.row x.below)

-- where a row that stands touches at 0, the value found is 0
zero_found : {shape : ℕ} {w : List ℕ} {p : ℕ} {c : Leader} → Adds shape w p (Higher p) none c → Positive shape w p → (q : ℕ) → q < p
    → (rows_pair shape w q p).num ≡ 0 → 0 < (row_value w q).num → c.num ≡ 0
zero_found {shape} {w} {p} {c} x pos q h e v =
    let (re, _, bef) = x.step pos (inl refl) in
    let m : 1 * 1 ≤ (row_value w q).num * (rows_pair shape w q p).den = mul-le-mul v (pos q h) in
    let z : (rows_pair shape w q p).num * (row_value w q).den ≡ 0 * (row_value w q).den = ap (λ n. n * (row_value w q).den) e in
    let a = (bef q h h).at_most (record { cross = omega (arith, z, m) }) in
    let u : c.num * (rows_pair shape w q p).den ≤ 0 * c.den = rw e at a.cross in
    zero_factor c.num (rows_pair shape w q p).den (pos q h) (omega (arith, u))

pub searched_nobody : {shape : ℕ} {w : List ℕ} {p : ℕ} {c : Leader} → c.den ≡ 0 → Adds shape w p (Higher p) none c → Scanned shape w p row_never
searched_nobody {shape} {w} {p} {c} zero-den x =
    record {
      small = record { num_small = omega arith; den_small = omega arith };
      some = omega arith;
      number = omega arith;
      zero_there = λ pos q h e v.
          let z = zero_found x pos q h e v in
          elim (x.step pos (inl refl)).0 [
            | inl u ↦ absurd (let o : c.num ≡ 1 = ap (λ (f : Fraction). f.num) u in omega (arith, z, o))
            | inr y ↦ absurd (omega (arith, zero-den, lead_positive pos y))
          ];
      found = λ M order s ok rows.
          let pos : Positive shape w p = λ q h. rw (rows.value q h) (ok.positive _ _) in
          let (re, _, bef) = x.step pos (inl refl) in
          elim re [
            | inl e ↦ (stays, refl, nobody c M order s ok rows (λ q h. bef q h h) e)
            | inr y ↦ absurd (omega (arith, zero-den, lead_positive pos y))
          ];
    }

pub searched : {shape : ℕ} {w : List ℕ} {p : ℕ} {c : Leader} (t : Record) → fraction_of t ≡ leader_value c → t.eliminator ≡ row_number w c.row
    → t.eliminator < 65536 → Admitted p c → 0 < c.den → Adds shape w p (Higher p) none c → Scanned shape w p t
searched {shape} {w} {p} {c} t t-is who small ad some x =
    record {
      small = rw t-is ad.small;
      some = (let d : t.den ≡ c.den = ap (λ (f : Fraction). f.den) t-is in omega arith);
      number = small;
      zero_there = λ pos q h e v. ap (λ (f : Fraction). f.num) t-is ∙ zero_found x pos q h e v;
      found = λ M order s ok rows.
          let pos : Positive shape w p = λ q h. rw (rows.value q h) (ok.positive _ _) in
          let (re, _, bef) = x.step pos (inl refl) in
          elim re [
            | inl e ↦ absurd (let z : c.den ≡ 0 = ap (λ (f : Fraction). f.den) e in omega arith)
            | inr y ↦ somebody c M order s ok rows (λ q h. bef q h h) t t-is who y
          ];
    }
