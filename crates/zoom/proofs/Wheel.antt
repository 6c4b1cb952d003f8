-- What the code of a wheel value computes: w in 1/64 .. 1024 times 64 is exact, and its whole part, cast back, tells whether it is whole.
-- Assumes nothing.
use Rattle.std.proofs.Common.{◌≡◌, ℕ, zero, suc, ◌+◌, ◌-◌, ◌*◌, ◌/◌, ◌%◌, ◌^◌, ◌<◌, ◌≤◌, Bool, true, false, ◌&&◌, T, eqb, ltb, leb, ℤ, pos, negsuc, sym, refl, ap, ◌∙◌, subst, true≢false, le_trans, le_of_eq, lt_of_lt_of_le, lt_of_le_of_lt, add-zero, lt_irrefl, mul-le-mul_right, mul_assoc, mul_comm, mul-pos, one-mul, lt_of_not-le, div-add-mod', mul-one, mul_right_comm, le_of_mul-le-mul_right, arith, lit<, le→leb, eqb→eq, ltb→lt, lt→ltb, leb→le, pow-add}
use native.Mathlib.Nat.{eq_of_mul-eq-mul_right, mul-mod_left, div-le_of_le-mul}
use lib.Dec.{eqb_refl}
use lib.Pow.{pow-lt}
use lib.Ieee.{Float, nan, inf, fin, binary32, up, down, round, mul, eq, lt, le, fits, of_int, in_float, in_unsigned, to_unsigned}
use lib.Ieee as I
use lib.Ieee.Fits.{and_i, and_l, and_r, eq→eqb, up_pos, down_pos}
use lib.Ieee.Exact.{HasValue, round_exact}
use lib.Ieee.Back.{round_whole, unsigned_back}
use lib.Ieee.Order.{le_of_values}
use lib.Ieee.Scale.{round_same}
use lib.Ieee.Casts.{to_unsigned_cut}
use lib.Ieee.Positive.{num, den, den_pos, positive, positive_of_value, value→cross, first_pos, le→cross, between, mul_at}
use Rattle.zoom.specs.Zoom.{Is64}

-- ---- the code's numbers: 1/64, 1024 and 64
abbrev pub lo : Float
lo = fin false 1 (negsuc 5)

abbrev pub hi : Float
hi = fin false 1 (pos 10)

abbrev pub by : Float
by = fin false 1 (pos 6)

-- ---- m * 2 ^ e times a power of two, where nothing overflows, is not rounded
shift : ℤ → ℕ → ℕ
shift (pos a) t = a + t + 149
shift (negsuc a) t = t + (149 - suc a)

back : (t a : ℕ) → suc a ≤ 149 → t + (149 - suc a) + suc a ≡ t + 149
back t a h = omega arith

shift_is : (e : ℤ) (t : ℕ) → down e ≤ 2 ^ 149 → up e * 2 ^ t * 2 ^ 149 ≡ 2 ^ shift e t * down e
unfolding shift
shift_is (pos a) t h = simp (pow-add, mul-one)
shift_is (negsuc a) t h =
    let small : suc a ≤ 149 = lt_of_not-le (λ (g : 149 ≤ a). lt_irrefl (2 ^ 149) (lt_of_lt_of_le (pow-lt {i = 149} {j = suc a} (omega arith)) h)) in
    ap (λ (x : ℕ). x * 2 ^ 149) (one-mul (2 ^ t)) ∙ sym (pow-add 2 t 149) ∙ ap (λ (x : ℕ). 2 ^ x) (sym (back t a small)) ∙ pow-add 2 (t + (149 - suc a)) (suc a)

exact : (m : ℕ) (e : ℤ) (t : ℕ) → m < 2 ^ 24 → down e ≤ 2 ^ 149 → m * up e * 2 ^ t ≤ 65536 * down e
    → HasValue (round binary32 false (m * up e * 2 ^ t) (down e)) false (m * up e * 2 ^ t) (down e)
exact m e t small deep fine =
    let j = shift e t in
    let is : m * up e * 2 ^ t * 2 ^ 149 ≡ m * 2 ^ j * down e =
    ap (λ (x : ℕ). x * 2 ^ 149) (mul_assoc m (up e) (2 ^ t)) ∙ mul_assoc m (up e * 2 ^ t) (2 ^ 149) ∙ ap (λ (x : ℕ). m * x) (shift_is e t deep) ∙ sym (mul_assoc m (2 ^ j) (down e)) in
    round_exact binary32 false (m * up e * 2 ^ t) (down e) m j (down_pos e) small
    (lt_of_le_of_lt (le_of_mul-le-mul_right (le_trans (le_of_eq (sym is)) (le_trans (mul-le-mul_right (2 ^ 149) fine) (le_of_eq (mul_right_comm 65536 (down e) (2 ^ 149))))) (down_pos e)) (lit< tt))
    is

-- ---- what it takes to be held by the format
small_of : (m : ℕ) (e : ℤ) (s : Bool) → T (fits binary32 (fin s m e)) → 0 < m → (m < 2 ^ 24) × (down e ≤ 2 ^ 149)
unfolding fits
small_of zero e s t h = absurd (lt_irrefl 0 h)
small_of (suc m) e s t h =
    let a : Bool = eqb (suc m % 2) 1 in
    let b : Bool = ltb (suc m) (2 ^ 24) in
    let c : Bool = leb (down e) (2 ^ 149) in
    let u : T (a && b && c) = and_l (a && b && c) (ltb (suc m * up e) (2 ^ 128 * down e)) t in
    (ltb→lt (suc m) (2 ^ 24) (and_r a b (and_l (a && b) c u)), leb→le (down e) (2 ^ 149) (and_r (a && b) c u))

-- ---- the product
fine_of : (x d : ℕ) → 0 < d → x * 1 ≤ 1024 * d → x * 64 ≤ 65536 * d
fine_of x d p h = omega arith

pub product : (w : Float) → T (fits binary32 w) → T (positive w) → T (le w hi) → HasValue (mul binary32 w by) false (num w * 64) (den w)
unfolding mul
product nan t p h = absurd p
product (inf s) t p h = absurd p
product (fin true m e) t p h = absurd p
product (fin false m e) t p h =
    let s = small_of m e false t (ltb→lt 0 m p) in
    subst (λ (d : ℕ). HasValue (round binary32 false (m * up e * 64) d) false (m * up e * 64) (down e)) (sym (mul-one (down e)))
    (exact m e 6 s.0 s.1 (fine_of (m * up e) (down e) (down_pos e) (le→cross (fin false m e) hi p tt h)))

-- ---- what the whole part asks, and how large it is
upto : (X D N E : ℕ) → 0 < E → X * E ≡ N * 64 * D → N * 1 ≤ 1024 * E → X ≤ 65536 * D
upto X D N E pE v h =
    let n : N * 64 ≤ 65536 * E = omega arith in
    le_of_mul-le-mul_right (le_trans (le_of_eq v) (le_trans (mul-le-mul_right D n) (le_of_eq (mul_right_comm 65536 E D)))) pE

pub asks : (p : Float) → T (positive p) → num p ≤ 65536 * den p → T (lt (fin true 1 (pos 0)) p) × T (lt p (fin false 1 (pos 64)))
unfolding lt
asks nan p h = absurd p
asks (inf s) p h = absurd p
asks (fin true n d) p h = absurd p
asks (fin false n d) p h = (lt→ltb 0 (1 * down d + n * up d * 1) (omega (arith, down_pos d)), lt→ltb (n * up d * 1) (2 ^ 64 * down d) (omega (arith, down_pos d)))

pub part_le : (p : Float) → T (positive p) → num p ≤ 65536 * den p → to_unsigned 64 p ≤ 65536
unfolding to_unsigned
part_le nan p h = absurd p
part_le (inf s) p h = absurd p
part_le (fin true n d) p h = absurd p
part_le (fin false n d) p h = let q : n * up d / down d ≤ 65536 = div-le_of_le-mul (down d) (omega (arith, mul_comm 65536 (down d))) in omega arith

-- ---- two floats that compare equal have the same value
eq_value : (x y : Float) (a c : ℕ) → T (eq x y) → T (positive y) → HasValue x false a c → HasValue y false a c
unfolding eq
eq_value nan y a c t p v = absurd v
eq_value (inf s) y a c t p v = absurd v
eq_value (fin s m e) nan a c t p v = absurd p
eq_value (fin s m e) (inf u) a c t p v = absurd p
eq_value (fin s m e) (fin true n d) a c t p v = absurd p
eq_value (fin s m e) (fin false n d) a c t p v =
    let q : m * up e * down d ≡ n * up d * down e = eqb→eq (m * up e * down d) (n * up d * down e) (and_l (eqb (m * up e * down d) (n * up d * down e)) _ t) in (
      refl,
      eq_of_mul-eq-mul_right (down e) (down_pos e) (n * up d * c) (a * down d)
          (mul_right_comm (n * up d) c (down e) ∙ ap (λ (x : ℕ). x * c) (sym q) ∙ mul_right_comm (m * up e) (down d) c ∙ ap (λ (x : ℕ). x * down d) v.1 ∙ mul_right_comm a (down e) (down d)),
    )

eq_self : (x : Float) (a c : ℕ) → HasValue x false a c → T (eq x x)
unfolding eq
eq_self nan a c v = absurd v
eq_self (inf s) a c v = absurd v
eq_self (fin true m e) a c v = absurd (true≢false v.0)
eq_self (fin false m e) a c v = and_i (eqb (m * up e * down e) (m * up e * down e)) true (eqb_refl (m * up e * down e)) tt

whole : (p : Float) (t : ℕ) → T (positive p) → t ≤ 65536 → T (eq (of_int binary32 (pos t)) p) → num p % den p ≡ 0
unfolding of_int
whole p t a h e =
    let v : HasValue p false t 1 = eq_value (round binary32 false t 1) p t 1 e a (round_whole binary32 false t (omega arith)) in
    ap (λ (x : ℕ). x % den p) (sym (mul-one (num p)) ∙ value→cross p t 1 v) ∙ mul-mod_left t (den p)

combine : (X D N E : ℕ) → 0 < D → 0 < E → 0 < N → X * E ≡ N * 64 * D → X % D ≡ 0 → N * 1 ≤ 1024 * E → (1 ≤ X / D) × (X / D ≤ 65536) × (N * 64 ≡ X / D * E)
combine X D N E pD pE pN v r h =
    let k = X / D in
    let x : k * D ≡ X = sym (ap (λ (y : ℕ). k * D + y) r ∙ add-zero (k * D)) ∙ div-add-mod' X D in
    let q : N * 64 ≡ k * E = eq_of_mul-eq-mul_right D pD (N * 64) (k * E) (sym v ∙ ap (λ (y : ℕ). y * E) (sym x) ∙ mul_right_comm k D E) in
    (first_pos k E (omega arith), le_of_mul-le-mul_right (omega arith) pE, q)

-- ---- the tests passed: the cast loses nothing, and gives the k that w is
cast_of : (m : ℕ) (e : ℤ) → m * up e % down e ≡ 0 → m * up e / down e ≤ 65536 → T (in_unsigned binary32 32 (fin false m e))
unfolding in_unsigned I.whole
cast_of m e r h =
    let k = m * up e / down e in
    and_i (I.whole binary32 (fin false m e)) (ltb k (2 ^ 32))
    (and_i (eqb (m * up e % down e) 0 && leb k (2 ^ 24)) true
    (and_i (eqb (m * up e % down e) 0) (leb k (2 ^ 24)) (eq→eqb r) (le→leb k (2 ^ 24) (omega arith))) tt)
    (lt→ltb k (2 ^ 32) (omega arith))

num_pos : (x : Float) → T (positive x) → 0 < num x
num_pos nan p = absurd p
num_pos (inf s) p = absurd p
num_pos (fin true m e) p = absurd p
num_pos (fin false m e) p = mul-pos (ltb→lt 0 m p) (up_pos e)

given : (w p : Float) → T (positive w) → T (le w hi) → T (positive p) → HasValue p false (num w * 64) (den w) → num p % den p ≡ 0
    → T (in_unsigned binary32 32 p) × Is64 w (to_unsigned 32 p)
given w nan a h b v r = absurd v
given w (inf s) a h b v r = absurd v
given w (fin true n d) a h b v r = absurd b
given nan (fin false n d) a h b v r = absurd a
given (inf s) (fin false n d) a h b v r = absurd a
given (fin true m e) (fin false n d) a h b v r = absurd a
given (fin false m e) (fin false n d) a h b v r =
    let k = combine (n * up d) (down d) (m * up e) (down e) (down_pos d) (down_pos e) (mul-pos (ltb→lt 0 m a) (up_pos e)) v.1 r (le→cross (fin false m e) hi a tt h) in
    let u = cast_of n d r k.1 in
    (u, subst (λ (x : ℕ). Is64 (fin false m e) x) (sym (to_unsigned_cut binary32 32 false n d u)) (k.0, k.1, (refl, k.2)))

-- ---- where w is in range
module _ (w : Float) (f : T (fits binary32 w)) (l : T (le lo w)) (h : T (le w hi)) where
  a : T (positive w)
  a = between lo w hi tt tt l h

  v : HasValue (mul binary32 w by) false (num w * 64) (den w)
  v = product w f a h

  b : T (positive (mul binary32 w by))
  b = positive_of_value (mul binary32 w by) (num w * 64) (den w) v (mul-pos (num_pos w a) (lit< tt))

  pub in_range : num (mul binary32 w by) ≤ 65536 * den (mul binary32 w by)
  in_range = upto (num (mul binary32 w by)) (den (mul binary32 w by)) (num w) (den w) (den_pos w) (value→cross (mul binary32 w by) (num w * 64) (den w) v) (le→cross w hi a tt h)

  pub asked : T (lt (fin true 1 (pos 0)) (mul binary32 w by)) × T (lt (mul binary32 w by) (fin false 1 (pos 64)))
  asked = asks (mul binary32 w by) b in_range

  pub small : (t : ℕ) → t ≡ to_unsigned 64 (mul binary32 w by) → T (in_float binary32 (pos t))
  unfolding in_float
  small t e = let q = part_le (mul binary32 w by) b in_range in le→leb t (2 ^ 24) (omega arith)

  pub taken : (t : ℕ) → t ≡ to_unsigned 64 (mul binary32 w by) → T (eq (of_int binary32 (pos t)) (mul binary32 w by)) → T (in_unsigned binary32 32 (mul binary32 w by)) × Is64 w (to_unsigned 32 (mul binary32 w by))
  taken t e g = let q = part_le (mul binary32 w by) b in_range in given w (mul binary32 w by) a h b v (whole (mul binary32 w by) t b (omega arith) g)

-- ---- and where w is such a k / 64, every test passes
pub passes : (w : Float) (k : ℕ) → Is64 w k → T (le lo w) × T (le w hi) × ((t : ℕ) → t ≡ to_unsigned 64 (mul binary32 w by) → T (eq (of_int binary32 (pos t)) (mul binary32 w by)))
unfolding of_int in_float
passes w k i =
    let v = i.2 in
    let a = positive_of_value w k 64 v i.0 in
    let p : mul binary32 w by ≡ round binary32 false k 1 = mul_at binary32 w by k 64 64 1 a tt (lit< tt) (lit< tt) v (refl, refl) ∙ round_same binary32 false (k * 64) 64 k 1 (lit< tt) (lit< tt) (mul-one (k * 64)) in
    let back = unsigned_back binary32 64 k (le→leb k (2 ^ 24) (omega (arith, i.1))) (omega (arith, i.1)) in (
      le_of_values lo w 1 64 k 64 (lit< tt) (lit< tt) (refl, refl) v (omega (arith, i.0)),
      le_of_values w hi k 64 65536 64 (lit< tt) (lit< tt) v (refl, refl) (omega (arith, i.1)),
      (λ t e. subst (λ (x : ℕ). T (eq (of_int binary32 (pos x)) (mul binary32 w by))) (sym (e ∙ ap (to_unsigned 64) p ∙ back.1))
          (subst (λ (x : Float). T (eq (round binary32 false k 1) x)) (sym p) (eq_self (round binary32 false k 1) k 1 (round_whole binary32 false k (omega (arith, i.1)))))),
    )
