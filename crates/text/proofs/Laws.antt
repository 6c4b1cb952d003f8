-- Laws of decimal digits and of writing. Assumes nothing.
use Rattle.std.specs.Prelude.{ℕ, zero, suc, ◌+◌, ◌-◌, ◌*◌, ◌/◌, ◌%◌, ◌^◌, ◌≤◌, ◌<◌, ◌≡◌, refl, Bool, true, false, cond, List, [], ◌∷◌, ◌++◌, ltb, length, take, set}
use Rattle.std.proofs.Common.{sym, ap, ◌∙◌, arith, pow-suc, lt-ltb, le-ltb, length-append, append_assoc, drop-drop}
use Rattle.std.proofs.Math.Decide.{dec_lt}
use Rattle.std.proofs.Math.Seq.{length-sets, sets-eq}
use Rattle.std.proofs.lemmas.Fmt.{decimal_by_steps}
use Rattle.std.specs.Fmt as Written
use borrow.Rule.Slice.PartMut.{put_mid}
use Rattle.lists.proofs.StoreLaws.{sets_append}
use Rattle.text.specs.Text.{digits, most_digits, decimal, denoted, Wrote}

-- ---- digits

digits_bound : (width v : ℕ) → length (digits width v) ≤ width
unfolding digits
digits_bound zero v = omega arith
digits_bound (suc width) v = cases (ltb v 10) (digits_bound width (v / 10))
  where
    cases : (b : Bool) → length (digits width (v / 10)) ≤ width → length (cond b [] (digits width (v / 10)) ++ ((48 + v % 10) ∷ [])) ≤ suc width
    cases true h = omega arith
    cases false h = omega (arith, length-append (digits width (v / 10)) ((48 + v % 10) ∷ []))

digits_one : (width v : ℕ) → v < 10 → digits (suc width) v ≡ (48 + v) ∷ []
unfolding digits
digits_one width v h = let e : v % 10 ≡ v = omega arith in rw (lt-ltb v 10 h, e)

digits_more : (width v : ℕ) → 10 ≤ v → digits (suc width) v ≡ digits width (v / 10) ++ ((48 + v % 10) ∷ [])
unfolding digits
digits_more width v h = rw (le-ltb v 10 h)

-- room for one digit more than there are changes nothing
digits_room : (k v : ℕ) → v < 10 ^ suc k → digits (suc (suc k)) v ≡ digits (suc k) v
digits_room zero v h = let l : v < 10 = omega arith in digits_one 1 v l ∙ sym (digits_one 0 v l)
digits_room (suc k) v h =
    elim (dec_lt v 10) [
      | yes l ↦ digits_one (suc (suc k)) v l ∙ sym (digits_one (suc k) v l)
      | no l ↦
          (let p = pow-suc 10 (suc k) in
          let s : v / 10 < 10 ^ suc k = omega arith in
          let r = digits_room k (v / 10) s in
          digits_more (suc (suc k)) v (omega arith) ∙ ap (λ (d : List ℕ). d ++ ((48 + v % 10) ∷ [])) r ∙ sym (digits_more (suc k) v (omega arith)))
    ]

pub decimal_bound : (v : ℕ) → length (decimal v) ≤ most_digits
decimal_bound v = digits_bound most_digits v

pub decimal_one : (v : ℕ) → v < 10 → decimal v ≡ (48 + v) ∷ []
decimal_one v h = digits_one 19 v h

-- the last digit comes after those of a tenth
pub decimal_more : (v : ℕ) → v < 18446744073709551616 → 10 ≤ v → decimal v ≡ decimal (v / 10) ++ ((48 + v % 10) ∷ [])
decimal_more v s h =
    digits_more 19 v h ∙ ap (λ (d : List ℕ). d ++ ((48 + v % 10) ∷ [])) (sym (digits_room 18 (v / 10) (omega arith)))

pub decimal_longer : (v : ℕ) → v < 18446744073709551616 → 10 ≤ v → length (decimal v) ≡ length (decimal (v / 10)) + 1
decimal_longer v s h = ap length (decimal_more v s h) ∙ length-append (decimal (v / 10)) ((48 + v % 10) ∷ [])

-- ---- what digits denote

denoted_append : (v : ℕ) (a b : List ℕ) → denoted v (a ++ b) ≡ denoted (denoted v a) b
unfolding denoted
denoted_append v [] b = refl
denoted_append v (d ∷ a) b = denoted_append (10 * v + (d - 48)) a b

none_denote : (v : ℕ) → denoted 0 (digits 0 v) ≡ 0
unfolding denoted digits
none_denote v = refl

digits_denote : (width v : ℕ) → v < 10 ^ width → denoted 0 (digits width v) ≡ v
unfolding denoted
digits_denote zero v h = omega (arith, none_denote v)
digits_denote (suc width) v h =
    elim (dec_lt v 10) [
      | yes l ↦ rw (digits_one width v l) (omega arith)
      | no l ↦
          (let p = pow-suc 10 width in
          let s : v / 10 < 10 ^ width = omega arith in
          rw (digits_more width v (omega arith), denoted_append 0 (digits width (v / 10)) ((48 + v % 10) ∷ []), digits_denote width (v / 10) s) (omega arith))
    ]

-- The decimal digits of a number of up to 8 bytes denote it.
pub decimal_denotes : (v : ℕ) → v < 18446744073709551616 → denoted 0 (decimal v) ≡ v
decimal_denotes v h = digits_denote most_digits v (omega arith)

-- They are those that the library writes.
pub decimal_written : (v : ℕ) → v < 18446744073709551616 → Written.decimal v ≡ decimal v
decimal_written v h = decimal_by_steps (λ m ds. m < 18446744073709551616 → ds ≡ decimal m) (λ m l _. sym (decimal_one m l)) step v h h
  where
    step : (m : ℕ) (ds : List ℕ) → 10 ≤ m → (m / 10 < 18446744073709551616 → ds ≡ decimal (m / 10)) → m < 18446744073709551616
        → ds ++ ((48 + m % 10) ∷ []) ≡ decimal m
    step m ds l more h = ap (λ (d : List ℕ). d ++ ((48 + m % 10) ∷ [])) (more (omega arith)) ∙ sym (decimal_more m h l)

-- ---- writing one text behind another

-- a text that is copied over as many bytes
pub wrote_copy : (l : List ℕ) (at : ℕ) (ys : List ℕ) (k : ℕ) → at + length ys ≤ length l → k ≡ length ys
    → Wrote l (put_mid at k l ys) at ys (at + length ys)
wrote_copy l at ys k room e = record { holds = rw e (sym (sets-eq ys l at room ∙ append_assoc (take at l) ys _ ∙ ap (λ (r : List ℕ). take at l ++ (ys ++ r)) (sym (drop-drop (length ys) at l)))); ends = refl }

pub wrote_then : {l m n : List ℕ} {at p q : ℕ} {a b : List ℕ} → Wrote l m at a p → Wrote m n p b q → Wrote l n at (a ++ b) q
wrote_then {l} {m} {n} {at} {p} {q} {a} {b} u v =
    record {
      holds = v.holds ∙ rw (u.holds, u.ends) (sym (sets_append l at a b));
      ends = omega (arith, u.ends, v.ends, length-append a b);
    }

pub wrote_length : {l m : List ℕ} {at p : ℕ} {a : List ℕ} → Wrote l m at a p → length m ≡ length l
wrote_length {l} {m} {at} {p} {a} u = ap length u.holds ∙ length-sets l at a

pub wrote_byte : (l : List ℕ) (at x : ℕ) → Wrote l (set l at x) at (x ∷ []) (at + 1)
wrote_byte l at x = record { holds = refl; ends = omega arith }
