-- Laws of turns. Assumes nothing.
use Rattle.std.specs.Prelude.{ℕ, zero, suc, ◌+◌, ◌<◌, ◌≤◌, ◌≡◌, neg_ℤ}
use Rattle.std.proofs.Common.{sym, ap, ap₂, subst, ◌∙◌, arith}
use Rattle.std.proofs.Math.IntN.{neg_ℤ-neg_ℤ}
use Rattle.std.specs.Int.Signed.{mag, nat_abs-le}
use Rattle.marks.specs.Marks.{apart, distance}
use Rattle.marks.proofs.Laws.{distance_symmetric}
use Rattle.turns.specs.declared.Place.{Place}
use Rattle.turns.specs.Turns.{Grid, entry, unit, quarter, product_at, times, turn, applied, turned_place}
use Rattle.turns.specs.Small.{UpTo, Small, Within}
use Rattle.turns.proofs.Lemmas.Whole.{rows_by_columns, apart_neg}
use Rattle.turns.proofs.Lemmas.Quarters.{placed, by_1_0, by_0_1, by_0_minus_1, up_to, up_to_neg, up_to_grows, grid_small}

-- ---- turns in succession

-- "turning in succession multiplies the grids"
pub applied_times : (a b : Grid) (p : Place) → applied (times a b) p ≡ applied a (applied b p)
unfolding times product_at applied
applied_times a b p =
    ap₂ placed
    (rows_by_columns (entry a 0 0) (entry a 0 1) (entry b 0 0) (entry b 0 1) (entry b 1 0) (entry b 1 1) p.x p.y)
    (rows_by_columns (entry a 1 0) (entry a 1 1) (entry b 0 0) (entry b 0 1) (entry b 1 0) (entry b 1 1) p.x p.y)

-- "One quarter turn takes x, y to -y, x", whatever was turned before
pub turned_suc : (t : ℕ) (p : Place)
    → turned_place (suc t) p ≡ record { x = neg_ℤ (turned_place t p).y; y = (turned_place t p).x }
unfolding turned_place turn applied quarter
turned_suc t p =
    let q = turned_place t p in
    applied_times quarter (turn t) p ∙ ap₂ placed (by_0_minus_1 q.x q.y) (by_1_0 q.x q.y)

-- ---- each number of turns

pub turned_0 : (p : Place) → turned_place 0 p ≡ p
unfolding turned_place turn unit applied
turned_0 p = ap₂ placed (by_1_0 p.x p.y) (by_0_1 p.x p.y)

abbrev onward : Place → Place
onward p = placed (neg_ℤ p.y) p.x

pub turned_1 : (p : Place) → turned_place 1 p ≡ record { x = neg_ℤ p.y; y = p.x }
turned_1 p = turned_suc 0 p ∙ ap onward (turned_0 p)

pub turned_2 : (p : Place) → turned_place 2 p ≡ record { x = neg_ℤ p.x; y = neg_ℤ p.y }
turned_2 p = turned_suc 1 p ∙ ap onward (turned_1 p)

pub turned_3 : (p : Place) → turned_place 3 p ≡ record { x = p.y; y = neg_ℤ p.x }
turned_3 p = turned_suc 2 p ∙ ap onward (turned_2 p) ∙ ap (λ z. placed z (neg_ℤ p.x)) (neg_ℤ-neg_ℤ p.y)

-- "Four quarter turns change no place."
pub turned_four : (p : Place) → turned_place 4 p ≡ p
turned_four p = turned_suc 3 p ∙ ap onward (turned_3 p) ∙ ap (λ z. placed z p.y) (neg_ℤ-neg_ℤ p.x)

-- ---- turns add up

pub turned_add : (t u : ℕ) (p : Place) → turned_place (t + u) p ≡ turned_place t (turned_place u p)
turned_add zero u p =
    let e : zero + u ≡ u = omega arith in
    ap (λ n. turned_place n p) e ∙ sym (turned_0 (turned_place u p))
turned_add (suc t) u p =
    let e : suc t + u ≡ suc (t + u) = omega arith in
    ap (λ n. turned_place n p) e
    ∙ turned_suc (t + u) p
    ∙ ap onward (turned_add t u p)
    ∙ sym (turned_suc t (turned_place u p))

-- ---- distances stay

abbrev away : ℕ → Place → Place → ℕ
away shape p q = distance shape (apart p.x q.x) (apart p.y q.y)

pub turned_distance : (shape t : ℕ) (p q : Place)
    → distance shape (apart (turned_place t p).x (turned_place t q).x) (apart (turned_place t p).y (turned_place t q).y)
    ≡ distance shape (apart p.x q.x) (apart p.y q.y)
turned_distance shape zero p q = ap₂ (away shape) (turned_0 p) (turned_0 q)
turned_distance shape (suc t) p q =
    ap₂ (away shape) (turned_suc t p) (turned_suc t q)
    ∙ ap (λ n. distance shape n (apart (turned_place t p).x (turned_place t q).x)) (apart_neg (turned_place t p).y (turned_place t q).y)
    ∙ distance_symmetric shape (apart (turned_place t p).y (turned_place t q).y) (apart (turned_place t p).x (turned_place t q).x)
    ∙ turned_distance shape t p q

-- ---- bounds

-- No turn takes a place further out.
pub turned_within : {n : ℕ} (t : ℕ) {p : Place} → Within n p → Within n (turned_place t p)
turned_within {n} zero {p} h = subst (Within n) (sym (turned_0 p)) h
turned_within {n} (suc t) {p} h =
    let g = turned_within t h in
    subst (Within n) (sym (turned_suc t p)) (record { x_within = up_to_neg g.y_within; y_within = g.x_within })

pub within_grows : {m n : ℕ} {p : Place} → m ≤ n → Within m p → Within n p
within_grows l h = record { x_within = up_to_grows l h.x_within; y_within = up_to_grows l h.y_within }

-- what a signed type holds: mag (-32,768) is 32,767
pub within_of : {n : ℕ} (p : Place) → mag p.x < n → mag p.y < n → Within n p
within_of p a b = record { x_within = up_to (nat_abs-le p.x a); y_within = up_to (nat_abs-le p.y b) }

unit_small : Small unit
unfolding unit
unit_small = grid_small (up_to (omega arith)) (up_to (omega arith)) (up_to (omega arith)) (up_to (omega arith))

onward_small : {g : Grid} → Small g → Small (times quarter g)
unfolding times quarter product_at
onward_small {g} s = grid_small (top 0) (top 1) (bottom 0) (bottom 1)
  where
    top : (j : ℕ) → UpTo 16383 (product_at quarter g 0 j)
    top j = rw (by_0_minus_1 (entry g 0 j) (entry g 1 j)) (up_to_neg ((s.rows 1).each j))

    bottom : (j : ℕ) → UpTo 16383 (product_at quarter g 1 j)
    bottom j = rw (by_1_0 (entry g 0 j) (entry g 1 j)) ((s.rows 0).each j)

-- The grid of any number of quarter turns is small.
pub turn_small : (t : ℕ) → Small (turn t)
unfolding turn
turn_small zero = unit_small
turn_small (suc t) = onward_small (turn_small t)
