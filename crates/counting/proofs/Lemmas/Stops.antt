-- A mark lives at the stops from one on and below another. Assumes nothing.
use Rattle.std.specs.Prelude.{ℕ, suc, ◌+◌, ◌-◌, ◌*◌, ◌%◌, ◌^◌, ◌<◌, ◌≤◌, min, ◌≡◌, refl, Bool, true, cond, List, [], ◌∷◌, ltb, leb, eqb, length, get_or, drop}
use Rattle.std.proofs.Common.{sym, ap, ◌∙◌, mul-le-mul, mul_comm, one-mul, mod-eq_of_lt, lt_of_le_of_lt, arith, add-one, drop-cons, lt-ltb, le-ltb, le-leb, ltb-true, ltb-false, leb-true, eqb-true, pow_mono, pow-add}
use Rattle.std.proofs.Math.Path.{ap₂}
use Rattle.std.proofs.Math.Bool.{◌&&◌}
use Rattle.std.proofs.Math.Decide.{dec_lt}
use Rattle.std.proofs.lemmas.Bool.{lt-leb}
use Rattle.lists.specs.Tests.{every, how_many}
use Rattle.lists.proofs.TestLaws.{every_at, same_test, and_left, and_right, and_both, many_most, many_none, many_first}
use Rattle.fractions.specs.declared.Fraction.{Fraction}
use Rattle.fractions.specs.declared.Value.{Value}
use Rattle.fractions.specs.declared.Value.TheVariants.{Never, At}
use Rattle.fractions.specs.Order.{less, later, AtMost}
use Rattle.fractions.proofs.Laws.{later_iff, later_sooner}
use Rattle.zoom.specs.Living.{zoom_squared, lives_at}
use Rattle.marks.specs.Pairs.{popup_at, popup_value}
use Rattle.marks.proofs.PairLaws.{popup_none}
use Rattle.elimination.specs.Records.{value_at}
use Rattle.counting.specs.Lives.{popped_up, lives}
use Rattle.counting.specs.Counts.{stops, lives_at_stop}
use Rattle.counting.specs.Steps.{stops_lived, step_to, end_stop, popup_stop, first_stop}

-- ---- the removal value

zoom_grows : {j k : ℕ} → j ≤ k → AtMost (zoom_squared j) (zoom_squared k)
zoom_grows h = record { cross = omega (arith, mul-le-mul h h) }

-- Who lives at a zoom lives at each wider one.
pub lives_sooner : (v : Value) {j k : ℕ} → j ≤ k → lives_at k v ≡ true → lives_at j v ≡ true
unfolding lives_at
lives_sooner v {j} {k} h e =
    let later-then = (later_iff v (zoom_squared k)).0 e in
    (later_iff v (zoom_squared j)).1 (later_sooner v {f = zoom_squared j} {g = zoom_squared k} (omega arith) (zoom_grows h) later-then)

pub stop_sooner : (v : Value) (t : ℕ) → lives_at (2 ^ suc t) v ≡ true → lives_at (2 ^ t) v ≡ true
stop_sooner v t = lives_sooner v (pow_mono {i = t} {j = suc t} (omega arith))

pub stops_most : (v : Value) → stops_lived v ≤ stops
unfolding stops_lived
stops_most v = many_most (λ t. lives_at (2 ^ t) v) stops

pub lives_first : (v : Value) (t : ℕ) → t < stops → lives_at (2 ^ t) v ≡ ltb t (stops_lived v)
unfolding stops_lived
lives_first v t h = many_first (λ i. lives_at (2 ^ i) v) (stop_sooner v) stops t h

-- as the code shifts a stop
pub shifted_lives : (v : Value) (t : ℕ) → t < stops → lives_at (1 * 2 ^ t % 2 ^ 32) v ≡ ltb t (stops_lived v)
shifted_lives v t h =
    let p : 2 ^ t ≤ 2 ^ 16 = pow_mono {i = t} {j = 16} (omega arith) in
    let k : 1 * 2 ^ t % 2 ^ 32 ≡ 2 ^ t = rw one-mul (mod-eq_of_lt {n = 2 ^ t} {m = 2 ^ 32} (omega arith)) in
    rw k (lives_first v t h)

-- of a fraction whose products fit 64 bits, as the code shifts its denominator
pub small_lives : (f : Fraction) (t : ℕ) → t < stops → f.num < 4503599627370496 → f.den < 2147483648
    → ltb (f.den * 2 ^ (2 * t) % 2 ^ 64) (4096 * f.num) ≡ ltb t (stops_lived (At f))
unfolding lives_at later less
small_lives f t h n d =
    let twice : 2 * t ≡ t + t = omega arith in
    let four : 2 ^ (2 * t) ≡ 2 ^ t * 2 ^ t = rw (twice, pow-add 2 t t) in
    let most : 2 ^ (2 * t) ≤ 4294967296 = pow_mono {i = 2 * t} {j = 32} (omega arith) in
    let low : f.den ≤ 2147483648 = omega arith in
    let fits : f.den * 2 ^ (2 * t) ≤ 2147483648 * 4294967296 = mul-le-mul {n₁ = f.den} {m₁ = 2 ^ (2 * t)} {n₂ = 2147483648} {m₂ = 4294967296} low most in
    let small : f.den * 2 ^ (2 * t) < 18446744073709551616 = lt_of_le_of_lt fits (omega arith) in
    let whole : f.den * 2 ^ (2 * t) % 2 ^ 64 ≡ f.den * 2 ^ (2 * t) = mod-eq_of_lt {n = f.den * 2 ^ (2 * t)} {m = 2 ^ 64} small in
    let left : f.den * 2 ^ (2 * t) % 2 ^ 64 ≡ 2 ^ t * 2 ^ t * f.den = whole ∙ rw four (mul_comm f.den (2 ^ t * 2 ^ t)) in
    ap₂ ltb left (mul_comm 4096 f.num) ∙ lives_first (At f) t h

-- ---- the search for the number of stops

-- the steps that are tried
abbrev pub steps : List ℕ
steps = 9 ∷ 4 ∷ 2 ∷ 1 ∷ 1 ∷ []

pub steps_some : (i : ℕ) → i < 5 → 1 ≤ get_or steps i 0
unfolding every
steps_some i h = leb-true 1 (get_or steps i 0) (every_at (λ k. leb 1 (get_or steps k 0)) 5 refl i h)

-- what these steps find from `known` on
abbrev pub found : ℕ → ℕ → List ℕ → ℕ
found lived known [] = known
found lived known (step ∷ steps) = found lived (step_to lived known step) steps

-- Five steps find any number of stops.
five : ℕ → ℕ
five lived = found lived 0 steps

pub five_steps : (lived : ℕ) → lived ≤ stops → found lived 0 steps ≡ lived
unfolding every five
five_steps lived h = eqb-true (five lived) lived (every_at (λ i. eqb (five i) i) 18 refl lived (omega (arith, h)))

pub found_more : (lived known i : ℕ) (tried : List ℕ) → i < length tried
    → found lived known (drop i tried) ≡ found lived (step_to lived known (get_or tried i 0)) (drop (i + 1) tried)
found_more lived known i tried h = rw (add-one i, drop-cons tried i 0 h)

-- how far these steps go
abbrev pub reach : List ℕ → ℕ
reach [] = 0
reach (step ∷ steps) = step + reach steps

pub reach_more : (i : ℕ) (tried : List ℕ) → i < length tried → reach (drop i tried) ≡ get_or tried i 0 + reach (drop (i + 1) tried)
reach_more i tried h = rw (add-one i, drop-cons tried i 0 h)

-- one step, where the test tells of the last stop of it
pub one_step : (lived known step : ℕ) {tells : Bool} → 1 ≤ step → tells ≡ ltb (known + step - 1) lived
    → cond tells (known + step) known ≡ step_to lived known step
one_step lived known step h e =
    rw e
    (elim (dec_lt (known + step - 1) lived) [
      | yes l ↦ rw (lt-ltb (known + step - 1) lived l, le-leb (known + step) lived (omega arith))
      | no l ↦ rw (le-ltb (known + step - 1) lived (omega arith), lt-leb (known + step) lived (omega arith))
    ])

-- ---- the popup

square_less : (a b : ℕ) → ltb (a * a * 4096) (b * b * 4096) ≡ ltb a b
square_less a b =
    elim (dec_lt a b) [
      | yes h ↦ lt-ltb (a * a * 4096) (b * b * 4096) (omega (arith, mul-le-mul h h)) ∙ sym (lt-ltb a b h)
      | no h ↦ (let l : b ≤ a = omega arith in le-ltb (a * a * 4096) (b * b * 4096) (omega (arith, mul-le-mul l l)) ∙ sym (le-ltb a b l))
    ]

-- a mark with the removal value k²/4096 lives below k
pub popup_lives : (k j : ℕ) → lives_at j (At (popup_value k)) ≡ ltb j k
unfolding lives_at later less
popup_lives k j = square_less j k

pub popup_nothing : stops_lived (At (popup_value 0)) ≡ 0
unfolding stops_lived
popup_nothing = many_none (λ t. lives_at (2 ^ t) (At (popup_value 0))) stops (λ t h. popup_lives 0 (2 ^ t) ∙ le-ltb (2 ^ t) 0 (omega arith))

-- and without part 5 there is none
pub popup_none_stop : (q : List ℕ) (m : ℕ) → length q ≡ 0 → 0 ≡ popup_stop q m
popup_none_stop [] m h = sym (ap (λ (k : ℕ). stops_lived (At (popup_value k))) (popup_none m) ∙ popup_nothing)
popup_none_stop (x ∷ q) m h = absurd (omega arith)

-- who never goes lives at every stop
pub never_goes : stops_lived Never ≡ 17
unfolding stops_lived how_many lives_at later
never_goes = refl

-- what is not below
not_below : (x k t a : ℕ) → ltb x k ≡ ltb t a → leb k x ≡ leb a t
not_below x k t a e =
    elim (dec_lt x k) [
      | yes h ↦ lt-leb k x h ∙ sym (lt-leb a t (ltb-true t a (sym e ∙ lt-ltb x k h)))
      | no h ↦ le-leb k x (omega arith) ∙ sym (le-leb a t (omega (arith, ltb-false t a (sym e ∙ le-ltb x k (omega arith)))))
    ]

-- who is gone before it is there begins where it ends, and lives at no stop
between : (a e t : ℕ) → ltb t e && leb a t ≡ leb (min a e) t && ltb t e
between a e t =
    same_test (ltb t e && leb a t) (leb (min a e) t && ltb t e)
    (λ h.
    let l = ltb-true t e (and_left (ltb t e) (leb a t) h) in
    and_both (le-leb (min a e) t (omega (arith, leb-true a t (and_right (ltb t e) (leb a t) h)))) (lt-ltb t e l))
    (λ h.
    let l = ltb-true t e (and_right (leb (min a e) t) (ltb t e) h) in
    and_both (lt-ltb t e l) (le-leb a t (omega (arith, leb-true (min a e) t (and_left (leb (min a e) t) (ltb t e) h)))))

module _ (p q : List ℕ) (t m : ℕ) (low : t < stops) where
  popped_from : popped_up q (2 ^ t) m ≡ leb (popup_stop q m) t
  unfolding popped_up
  popped_from =
      let k = popup_at q m in
      not_below (2 ^ t) k t (popup_stop q m) (sym (popup_lives k (2 ^ t)) ∙ lives_first (At (popup_value k)) t low)

  -- "the number of living marks, popups heeded"
  pub lives_between : lives_at_stop p q t m ≡ leb (first_stop p q m) t && ltb t (end_stop p m)
  unfolding lives_at_stop lives
  lives_between = ap₂ ◌&&◌ (lives_first (value_at p m) t low) popped_from ∙ between (popup_stop q m) (end_stop p m) t
