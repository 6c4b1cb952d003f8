-- Tests as statements: what 'and', 'or' and 'not' say, `every`, a test as a number, `how_many` and `passing`. Assumes nothing.
use Prim.Native.Nat.{ℕ, zero, suc, ◌+◌, ◌<◌, ◌≤◌}
use Rattle.std.specs.Prelude.{◌≡◌, Bool, true, false, cond, not, ◌&&◌, ◌||◌, List, ◌∷◌, ◌↔◌, ◌⊎◌, ltb, length, get_or}
use Rattle.std.proofs.Math.Path.{refl, subst⁻¹}
use Rattle.std.proofs.Common.{sym, ap, ◌∙◌, inl, inr, add-zero, add-suc, add-one, lt-ltb, le-ltb}
use Rattle.std.proofs.lemmas.Bool.{false≢true, not-true, not-false}
use Rattle.std.proofs.Math.Nat.{suc-add}
use Rattle.std.proofs.Math.Decide.{dec_lt, ℕ_discrete}
use native.Mathlib.Omega.{arith}
use Rattle.lists.specs.Tests.{every, bit, how_many, passing}

-- ---- truth tables

pub by_cases : {A : Type 0} (b : Bool) → (b ≡ true → A) → (b ≡ false → A) → A
by_cases true f g = f refl
by_cases false f g = g refl

-- two tests that pass together are one
pub same_test : (b c : Bool) → (b ≡ true → c ≡ true) → (c ≡ true → b ≡ true) → b ≡ c
same_test true c f g = sym (f refl)
same_test false true f g = g refl
same_test false false f g = refl

pub and_left : (b c : Bool) → b && c ≡ true → b ≡ true
and_left true c h = refl
and_left false c h = h

pub and_right : (b c : Bool) → b && c ≡ true → c ≡ true
and_right true c h = h
and_right false c h = absurd (false≢true h)

pub and_both : {b c : Bool} → b ≡ true → c ≡ true → b && c ≡ true
and_both {b} {c} p q = ap (λ (z : Bool). z && c) p ∙ q

pub both_iff : (b c : Bool) → (b && c ≡ true) ↔ ((b ≡ true) × (c ≡ true))
both_iff b c = ((λ e. (and_left b c e, and_right b c e)), (λ p. and_both p.0 p.1))

-- one 'no' is enough
pub and_no : (b : Bool) {c : Bool} → c ≡ false → b && c ≡ false
and_no true e = e
and_no false e = refl

pub either : (b c : Bool) → b || c ≡ true → (b ≡ true) ⊎ (c ≡ true)
either true c e = inl e
either false c e = inr e

pub or_right : (b : Bool) {c : Bool} → c ≡ true → b || c ≡ true
or_right true e = refl
or_right false e = e

pub or_and : {A : Type 0} (b c d : Bool) → b || (c && d) ≡ true → (b ≡ true → A) → (c ≡ true → d ≡ true → A) → A
or_and true c d e f g = f refl
or_and false c d e f g = g (and_left c d e) (and_right c d e)

-- what a function that answers a question said, where the code tests for 'no'
pub said_no : {b q : Bool} → b ≡ q → not b ≡ true → q ≡ false
said_no {b} e n = sym e ∙ not-true b n

pub said_yes : {b q : Bool} → b ≡ q → not b ≡ false → q ≡ true
said_yes {b} e n = sym e ∙ not-false b n

-- ---- every number below n

module _ (test : ℕ → Bool) where
  pub every_of : (n : ℕ) → ((i : ℕ) → i < n → test i ≡ true) → every test n ≡ true
  unfolding every
  every_of zero h = refl
  every_of (suc n) h = and_both (every_of n (λ i l. h i (omega arith))) (h n (omega arith))

  pub every_at : (n : ℕ) → every test n ≡ true → (i : ℕ) → i < n → test i ≡ true
  unfolding every
  every_at zero e i l = absurd (omega arith)
  every_at (suc n) e i l =
      elim (dec_lt i n) [
        | yes b ↦ every_at n (and_left (every test n) (test n) e) i b
        | no b ↦ (let q : i ≡ n = omega arith in subst⁻¹ (λ (k : ℕ). test k ≡ true) q (and_right (every test n) (test n) e))
      ]

  -- one more, as a loop counts
  pub every_more : (i : ℕ) → every test i ≡ true → test i ≡ true → every test (i + 1) ≡ true
  unfolding every
  every_more i a b = rw (add-one i) (and_both a b)

  -- one 'no' is enough
  pub every_not : (n i : ℕ) → i < n → test i ≡ false → every test n ≡ false
  every_not n i l e = by_cases (every test n) (λ a. absurd (false≢true (sym e ∙ every_at n a i l))) (λ a. a)

-- ---- a test as a number

pub bit_true : {b : Bool} → b ≡ true → bit b ≡ 1
bit_true e = ap bit e

pub bit_false : {b : Bool} → b ≡ false → bit b ≡ 0
bit_false e = ap bit e

pub bit_not_true : {b : Bool} → b ≡ true → bit (not b) ≡ 0
bit_not_true e = ap (λ (b : Bool). bit (not b)) e

pub bit_zero : (b : Bool) → bit b ≡ 0 → b ≡ false
bit_zero true h = absurd (omega arith)
bit_zero false h = refl

pub bit_not_zero : (b : Bool) → bit (not b) ≡ 0 → b ≡ true
bit_not_zero true h = refl
bit_not_zero false h = absurd (omega arith)

pub bit_not : (b : Bool) → bit b + bit (not b) ≡ 1
bit_not true = refl
bit_not false = refl

pub bit_small : (b : Bool) → bit b ≤ 1
bit_small b = omega (arith, bit_not b)

pub bit_le : (b c : Bool) → (b ≡ true → c ≡ true) → bit b ≤ bit c
bit_le true c h = omega (arith, ap bit (h refl))
bit_le false c h = omega arith

pub bit_split : (b c : Bool) → bit c ≡ bit (b && c) + bit (not b && c)
bit_split true true = refl
bit_split true false = refl
bit_split false true = refl
bit_split false false = refl

-- ---- how many numbers below n pass

-- the same tests, the same number
pub many_same : (p q : ℕ → Bool) (n : ℕ) → ((m : ℕ) → m < n → p m ≡ q m) → how_many p n ≡ how_many q n
unfolding how_many
many_same p q zero h = refl
many_same p q (suc n) h = rw (many_same p q n (λ m k. h m (omega arith)), h n (omega arith))

pub many_most : (p : ℕ → Bool) (n : ℕ) → how_many p n ≤ n
unfolding how_many
many_most p zero = omega arith
many_most p (suc n) = omega (arith, many_most p n, bit_small (p n))

-- a test that is harder to pass
pub many_fewer : (p q : ℕ → Bool) (n : ℕ) → ((m : ℕ) → m < n → p m ≡ true → q m ≡ true) → how_many p n ≤ how_many q n
unfolding how_many
many_fewer p q zero h = omega arith
many_fewer p q (suc n) h = omega (arith, many_fewer p q n (λ m k. h m (omega arith)), bit_le (p n) (q n) (h n (omega arith)))

-- two tests that together count as two others do, number by number
pub many_sums : (p q r s : ℕ → Bool) (n : ℕ) → ((m : ℕ) → m < n → bit (p m) + bit (q m) ≡ bit (r m) + bit (s m))
    → how_many p n + how_many q n ≡ how_many r n + how_many s n
unfolding how_many
many_sums p q r s zero h = refl
many_sums p q r s (suc n) h = omega (arith, many_sums p q r s n (λ m k. h m (omega arith)), h n (omega arith))

-- a test that no number passes
pub many_none : (p : ℕ → Bool) (n : ℕ) → ((m : ℕ) → m < n → p m ≡ false) → how_many p n ≡ 0
unfolding how_many
many_none p zero h = refl
many_none p (suc n) h = omega (arith, many_none p n (λ m k. h m (omega arith)), bit_false (h n (omega arith)))

-- Of a test that no number passes after one that fails, the numbers that pass are the first ones.
module _ (p : ℕ → Bool) (falls : (m : ℕ) → p (suc m) ≡ true → p m ≡ true) where
  -- whose number counts them
  first_pass : (n : ℕ) → p n ≡ true → how_many p n ≡ n
  unfolding how_many
  first_pass zero e = refl
  first_pass (suc n) e = omega (arith, first_pass n (falls n e), bit_true (falls n e))

  -- the last one that is asked passes, or no other counts
  many_turn : (n : ℕ) (b : Bool) → p n ≡ b → ((m : ℕ) → m < n → p m ≡ ltb m (how_many p n)) → how_many p n ≤ n
      → (m : ℕ) → m < suc n → p m ≡ ltb m (how_many p n + bit b)
  many_turn n true e h most m l =
      let all = first_pass n e in
      elim (dec_lt m n) [
        | yes k ↦ h m k ∙ lt-ltb m (how_many p n) (omega arith) ∙ sym (lt-ltb m (how_many p n + 1) (omega arith))
        | no k ↦ (let i : m ≡ n = omega arith in ap p i ∙ e ∙ sym (lt-ltb m (how_many p n + 1) (omega arith)))
      ]
  many_turn n false e h most m l =
      elim (dec_lt m n) [
        | yes k ↦ rw (add-zero (how_many p n)) (h m k)
        | no k ↦ (let i : m ≡ n = omega arith in ap p i ∙ e ∙ sym (le-ltb m (how_many p n + 0) (omega arith)))
      ]

  pub many_first : (n m : ℕ) → m < n → p m ≡ ltb m (how_many p n)
  unfolding how_many
  many_first zero m l = absurd (omega arith)
  many_first (suc n) m l = many_turn n (p n) refl (many_first n) (many_most p n) m l

-- ---- the numbers that pass

-- the same tests, the same numbers
pub passing_same : (p q : ℕ → Bool) (left m : ℕ) → ((k : ℕ) → m ≤ k → k < m + left → p k ≡ q k) → passing p left m ≡ passing q left m
unfolding passing
passing_same p q zero m h = refl
passing_same p q (suc left) m h =
    rw (h m (omega arith) (omega arith), passing_same p q left (suc m) (λ k l u. h k (omega arith) (omega arith)))

-- `l` has those of the numbers from lo up to, not including, hi that pass, each once and rising.
pub record Passes (test : ℕ → Bool) (lo hi : ℕ) (l : List ℕ) : Type 0 where
  pub inside : (i : ℕ) → i < length l → (lo ≤ get_or l i 0) × (get_or l i 0 < hi)
  pub passed : (i : ℕ) → i < length l → test (get_or l i 0) ≡ true
  pub rising : (i j : ℕ) → i < j → j < length l → get_or l i 0 < get_or l j 0
  pub onto : (h : ℕ) → lo ≤ h → h < hi → test h ≡ true → (j : ℕ) × (j < length l) × (get_or l j 0 ≡ h)

module _ (test : ℕ → Bool) where
  more_pass : (lo hi : ℕ) (l : List ℕ) → lo < hi → Passes test (suc lo) hi l → (b : Bool) → test lo ≡ b → Passes test lo hi (cond b (lo ∷ l) l)
  more_pass lo hi l some x true e = record { inside = inside; passed = passed; rising = rising; onto = onto }
    where
      inside : (i : ℕ) → i < length (lo ∷ l) → (lo ≤ get_or (lo ∷ l) i 0) × (get_or (lo ∷ l) i 0 < hi)
      inside zero h = (omega arith, some)
      inside (suc i) h = let y = x.inside i (omega arith) in (omega (arith, y.0), y.1)

      passed : (i : ℕ) → i < length (lo ∷ l) → test (get_or (lo ∷ l) i 0) ≡ true
      passed zero h = e
      passed (suc i) h = x.passed i (omega arith)

      rising : (i j : ℕ) → i < j → j < length (lo ∷ l) → get_or (lo ∷ l) i 0 < get_or (lo ∷ l) j 0
      rising i zero o h = absurd (omega arith)
      rising zero (suc j) o h = omega (arith, (x.inside j (omega arith)).0)
      rising (suc i) (suc j) o h = x.rising i j (omega arith) (omega arith)

      onto : (h : ℕ) → lo ≤ h → h < hi → test h ≡ true → (j : ℕ) × (j < length (lo ∷ l)) × (get_or (lo ∷ l) j 0 ≡ h)
      onto h a b p =
          elim (ℕ_discrete lo h) [
            | yes q ↦ (0, omega arith, q)
            | no d ↦ (let (j, hj, q) = x.onto h (omega arith) b p in (suc j, omega arith, q))
          ]
  more_pass lo hi l some x false e =
      record {
        inside = λ i h. (let y = x.inside i h in (omega (arith, y.0), y.1));
        passed = x.passed;
        rising = x.rising;
        onto = λ h a b p. elim (ℕ_discrete lo h) [ yes q ↦ absurd (false≢true (sym e ∙ ap test q ∙ p)) | no d ↦ x.onto h (omega arith) b p ];
      }

  pub passing_is : (left lo : ℕ) → Passes test lo (lo + left) (passing test left lo)
  unfolding passing
  passing_is zero lo =
      record { inside = λ i h. absurd (omega arith); passed = λ i h. absurd (omega arith); rising = λ i j o h. absurd (omega arith); onto = λ h a b p. absurd (omega arith) }
  passing_is (suc left) lo =
      more_pass lo (lo + suc left) (passing test left (suc lo)) (omega arith) (rw (add-suc lo left, ← suc-add lo left) (passing_is left (suc lo))) (test lo) refl
