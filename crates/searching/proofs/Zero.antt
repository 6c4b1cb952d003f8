-- A leader of value 0 goes before all rows: of the rows at one place only one can remove another. Assumes nothing.
use Prim.Native.Nat.{ℕ, zero, suc, ◌*◌, ◌<◌, ◌≤◌}
use mathlib.Core.Path.{◌≡◌, sym, ap, ◌∙◌}
use mathlib.Core.List.{List}
use mathlib.Core.Logic.{inl, inr}
use native.Mathlib.Omega.{arith}
use native.Mathlib.Nat.{mul-le-mul}
use native.Mathlib.Decide.{dec_le}
use Rattle.fractions.specs.declared.Fraction.{Fraction}
use Rattle.marks.specs.declared.Label.{Label}
use Rattle.marks.specs.Marks.{larger, apart, distance, touching_of}
use Rattle.marks.proofs.Laws.{distance_x, distance_y, distance_most, larger_least, larger_most}
use Rattle.marks.specs.Pairs.{pair_of}
use Rattle.marks.proofs.PairLaws.{pair_positive, positive_pair, pair_least, pair_popup, pair_none}
use Rattle.grid.specs.Laws.{same_place, apart_self}
use Rattle.searching.specs.declared.Leader.{Leader}
use Rattle.searching.specs.Rows.{row_label, row_popup, row_value, rows_touch, rows_pair}
use Rattle.searching.specs.Search.{StandsAt, Positive, Zeroed, Before, Leads}
use Rattle.searching.specs.Cells.{CellAdded}

pub zero_factor : (x y : ℕ) → 0 < y → x * y ≤ 0 → x ≡ 0
zero_factor zero y h l = omega arith
zero_factor (suc x) y h l = absurd (let k : 1 ≤ suc x = omega arith in let m : 1 * 1 ≤ suc x * y = mul-le-mul k h in omega (arith, m, l))

-- a pair value of 0 is a touching value of 0, with no popup
zero_pair : (f : Fraction) (k : ℕ) → 0 < f.den → (pair_of f k).num ≡ 0 → (f.num ≡ 0) × (k ≡ 0)
zero_pair f k d e =
    let h = pair_positive f k d in
    let a : f.num * (pair_of f k).den ≤ 0 * f.den = rw e at (pair_least f k).cross in
    let b : k * k * (pair_of f k).den ≤ 0 * 4096 = rw e at (pair_popup f k).cross in
    let c : k * k ≡ 0 = zero_factor (k * k) (pair_of f k).den h (omega (arith, b)) in (
      zero_factor f.num (pair_of f k).den h (omega (arith, a)),
      root k c,
    )
  where
    root : (k : ℕ) → k * k ≡ 0 → k ≡ 0
    root zero e = omega arith
    root (suc k) e = absurd (let l : 1 ≤ suc k = omega arith in let m : 1 * 1 ≤ suc k * suc k = mul-le-mul l l in omega (arith, m))

-- and then both are at one place
touch_one : (shape : ℕ) (a b : Label) → (touching_of shape a b).num ≡ 0 → (a.x ≡ b.x) × (a.y ≡ b.y)
unfolding touching_of
touch_one shape a b e =
    let x = apart a.x b.x in
    let y = apart a.y b.y in
    let u : x * x ≤ 0 = omega (arith, distance_x shape x y, e) in
    let v : y * y ≤ 0 = omega (arith, distance_y shape x y, e) in
    (same_place a.x b.x (root x u), same_place a.y b.y (root y v))
  where
    root : (k : ℕ) → k * k ≤ 0 → k ≡ 0
    root zero l = omega arith
    root (suc k) l = absurd (let m : 1 ≤ suc k = omega arith in let n : 1 * 1 ≤ suc k * suc k = mul-le-mul m m in omega (arith, n))

one_touch : (shape : ℕ) (a b : Label) → a.x ≡ b.x → a.y ≡ b.y → (touching_of shape a b).num ≡ 0
unfolding touching_of
one_touch shape a b p q =
    let d : distance shape (apart a.x b.x) (apart a.y b.y) ≡ distance shape 0 0 = rw (p, q, apart_self b.x, apart_self b.y) in
    omega (arith, d, distance_most shape 0 0)

larger_none : (a b : ℕ) → larger a b ≡ 0 → (a ≡ 0) × (b ≡ 0)
larger_none a b e = let g = larger_least a b in (omega (arith, g.0), omega (arith, g.1))

-- rows that touch a third at 0 touch one another at 0
module _ (shape : ℕ) (w : List ℕ) (p q b : ℕ) (dq : 0 < (rows_pair shape w q p).den) (db : 0 < (rows_pair shape w b p).den)
    (eq : (rows_pair shape w q p).num ≡ 0) (eb : (rows_pair shape w b p).num ≡ 0) where
  pub both_zero : (rows_pair shape w q b).num ≡ 0
  both_zero =
      let kq = larger (row_popup w q) (row_popup w p) in
      let kb = larger (row_popup w b) (row_popup w p) in
      let zq = zero_pair (rows_touch shape w q p) kq (positive_pair (rows_touch shape w q p) kq dq) eq in
      let zb = zero_pair (rows_touch shape w b p) kb (positive_pair (rows_touch shape w b p) kb db) eb in
      let oq = touch_one shape (row_label w q) (row_label w p) zq.0 in
      let ob = touch_one shape (row_label w b) (row_label w p) zb.0 in
      let nq : row_popup w q ≡ 0 = (larger_none (row_popup w q) (row_popup w p) zq.1).0 in
      let nb : row_popup w b ≡ 0 = (larger_none (row_popup w b) (row_popup w p) zb.1).0 in
      let n : larger (row_popup w q) (row_popup w b) ≡ 0 = omega (arith, larger_most (row_popup w q) (row_popup w b) 0 (omega (arith, nq)) (omega (arith, nb))) in
      ap (λ (k : ℕ). (pair_of (rows_touch shape w q b) k).num) n ∙ ap (λ (f : Fraction). f.num) (pair_none (rows_touch shape w q b))
      ∙ one_touch shape (row_label w q) (row_label w b) (oq.0 ∙ sym ob.0) (oq.1 ∙ sym ob.1)

-- what stands has a removal value above 0
stands_later : (shape : ℕ) (w : List ℕ) (p q : ℕ) → StandsAt shape w p q → 0 < (row_value w q).num
stands_later shape w p q t =
    elim (dec_le 1 (row_value w q).num) [
      | yes h ↦ h
      | no h ↦
          (let z : (row_value w q).num ≡ 0 = omega arith in
          let u : (rows_pair shape w q p).num * (row_value w q).den < 0 * (rows_pair shape w q p).den = rw z at t.cross in
          absurd (omega (arith, u)))
    ]

module _ {shape : ℕ} {w : List ℕ} {p : ℕ} (zs : Zeroed shape w p) (pos : Positive shape w p) (d : Leader) (x : Leads shape w p d) (e : d.num ≡ 0) where
  lead_zero : (rows_pair shape w d.row p).num ≡ 0
  lead_zero = sym (ap (λ (f : Fraction). f.num) x.exact) ∙ e

  lead_den : 0 < d.den
  lead_den = rw (ap (λ (f : Fraction). f.den) x.exact) (pos d.row x.below)

  -- no higher-ranked row that stands touches at 0
  apart_above : (q : ℕ) → q < p → StandsAt shape w p q → q < d.row → 0 < (rows_pair shape w q p).num
  apart_above q h t l =
      elim (dec_le 1 (rows_pair shape w q p).num) [
        | yes k ↦ k
        | no k ↦
            (let z : (rows_pair shape w q p).num ≡ 0 = omega arith in
            let both = both_zero shape w p q d.row (pos q h) (pos d.row x.below) z lead_zero in
            let gone = zs.removed q d.row l x.below both (stands_later shape w p q t) in
            absurd (omega (arith, gone, stands_later shape w p d.row x.stands)))
      ]

  pub final : (q : ℕ) → q < p → Before shape w p d q
  final q h =
      record {
        at_most = λ t. record { cross = (let z : d.num * (rows_pair shape w q p).den ≡ 0 * (rows_pair shape w q p).den = ap (λ n. n * (rows_pair shape w q p).den) e in omega (arith, z)) };
        less = λ t l.
            record {
              cross = (let z : d.num * (rows_pair shape w q p).den ≡ 0 * (rows_pair shape w q p).den = ap (λ n. n * (rows_pair shape w q p).den) e in
                  let m : 1 * 1 ≤ (rows_pair shape w q p).num * d.den = mul-le-mul (apart_above q h t l) lead_den in
                  omega (arith, z, m));
            };
      }

-- so the search may end there
pub at_zero : {shape : ℕ} {w : List ℕ} {at groups p : ℕ} {T S : ℕ → Type 0} {from best : Leader} → Zeroed shape w p → best.num ≡ 0
    → CellAdded shape w at groups p T from best → CellAdded shape w at groups p S from best
at_zero {shape} {w} {p = p} {best = best} zs e x =
    record {
      adds = λ cell g.
          record {
            step = λ pos re.
                let (r, k, n) = (x.adds cell g).step pos re in
                (r, k, λ q h s. elim r [ inl v ↦ absurd (let z : best.num ≡ 1 = ap (λ (f : Fraction). f.num) v in omega (arith, z, e)) | inr y ↦ final zs pos best y e q h ]);
          };
    }
