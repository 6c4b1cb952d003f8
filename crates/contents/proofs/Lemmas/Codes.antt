-- Codes that are right: what question 2 says of them.
use Rattle.std.specs.Prelude.{ℕ, zero, suc, ◌+◌, ◌<◌, ◌≤◌, ◌≡◌, refl, Bool, true, false, not, cond, ◌&&◌, List, [], ◌∷◌, ◌++◌, map, ◌↔◌, ◌⊎◌, ltb, leb, eqb, length, get_or, drop}
use Rattle.std.proofs.Common.{sym, ap, ap₂, ◌∙◌, inl, inr, add-one, arith, drop_of_length-le, drop-cons, ltb-true, ltb-false, leb-true, lt-ltb, le-ltb, le-leb, eqb-true, eq-eqb, ne_eqb}
use Rattle.std.proofs.lemmas.Bool.{false≢true, lt-leb, eqb-false}
use mathlib.Core.List.Memᴰ
use mathlib.Core.List.{Memᴰ}
use Rattle.std.proofs.Math.Decide.{dec_lt, ℕ_discrete}
use Rattle.std.proofs.lemmas.List.{length-map}
use Rattle.contents.specs.Contents.{Part, ◌holds◌, codes_of, bodies_of, names, has, find, with_part}
use Rattle.contents.specs.Asking.{if_there}
use Rattle.contents.specs.Questions.{top_code, rising, codes_right}
use Rattle.lists.proofs.TestLaws.{by_cases, both_iff}
use Rattle.contents.proofs.Lemmas.Parts.{with_there, with_other_there}

-- ---- rising codes

-- the first of rising codes, and the rest
record Rises (low code : ℕ) (codes : List ℕ) : Type 0 where
  pub above : low < code
  pub within : code ≤ top_code
  pub rest : rising code codes ≡ true

rises : (low code : ℕ) (codes : List ℕ) → rising low (code ∷ codes) ≡ true → Rises low code codes
rises low code codes e =
    let p = (both_iff (ltb low code && leb code top_code) (rising code codes)).0 e in
    let q = (both_iff (ltb low code) (leb code top_code)).0 p.0 in
    record { above = ltb-true low code q.0; within = leb-true code top_code q.1; rest = p.1 }

rising_length : (low : ℕ) (codes : List ℕ) → low ≤ top_code → rising low codes ≡ true → low + length codes ≤ top_code
rising_length low [] h e = omega arith
rising_length low (code ∷ codes) h e = let r = rises low code codes e in omega (arith, r, rising_length code codes r.within r.rest)

rising_most : (low : ℕ) (codes : List ℕ) → rising low codes ≡ true → (i : ℕ) → get_or codes i 0 ≤ top_code
rising_most low [] e i = omega arith
rising_most low (code ∷ codes) e zero = (rises low code codes e).within
rising_most low (code ∷ codes) e (suc i) = rising_most code codes (rises low code codes e).rest i

rising_above : (low : ℕ) (codes : List ℕ) → rising low codes ≡ true → (j : ℕ) → j < length codes → low < get_or codes j 0
rising_above low [] e j l = absurd (omega arith)
rising_above low (code ∷ codes) e zero l = (rises low code codes e).above
rising_above low (code ∷ codes) e (suc j) l =
    let r = rises low code codes e in
    omega (arith, r.above, rising_above code codes r.rest j (omega arith))

rising_order : (low : ℕ) (codes : List ℕ) → rising low codes ≡ true → (i j : ℕ) → i < j → j < length codes → get_or codes i 0 < get_or codes j 0
rising_order low [] e i j l h = absurd (omega arith)
rising_order low (code ∷ codes) e zero zero l h = absurd (omega arith)
rising_order low (code ∷ codes) e (suc i) zero l h = absurd (omega arith)
rising_order low (code ∷ codes) e zero (suc j) l h = rising_above code codes (rises low code codes e).rest j (omega arith)
rising_order low (code ∷ codes) e (suc i) (suc j) l h = rising_order code codes (rises low code codes e).rest i j (omega arith) (omega arith)

-- rising codes, looked at from code i on
module _ (low : ℕ) (codes : List ℕ) (i : ℕ) where
  pub rising_on : i < length codes → low < get_or codes i 0 → get_or codes i 0 ≤ top_code
      → rising (get_or codes i 0) (drop (i + 1) codes) ≡ rising low (drop i codes)
  rising_on h a b = rw (add-one i, drop-cons codes i 0 h, lt-ltb low (get_or codes i 0) a, le-leb (get_or codes i 0) top_code b)

  pub rising_stops : i < length codes → (low < get_or codes i 0 → top_code < get_or codes i 0) → rising low (drop i codes) ≡ false
  rising_stops h n =
      rw (drop-cons codes i 0 h)
      (elim (dec_lt low (get_or codes i 0)) [
        | yes a ↦ rw (lt-ltb low (get_or codes i 0) a, lt-leb (get_or codes i 0) top_code (n a))
        | no a ↦ rw (le-ltb low (get_or codes i 0) (omega arith))
      ])

  pub rising_past : length codes ≤ i → rising low (drop i codes) ≡ true
  rising_past h = rw (drop_of_length-le codes h)

-- ---- codes that are right

-- beside part 2 parts 3 and 6 may be there or not
pub beside_two : (three six : Bool) → if_there three true && if_there six true ≡ true
beside_two true true = refl
beside_two true false = refl
beside_two false true = refl
beside_two false false = refl

-- the tests one after the other, as far as they are needed
pub by_tests : (codes : List ℕ) → codes_right codes
    ≡ cond (rising 0 codes && names codes 1) (cond (names codes 2) true (cond (names codes 3) false (not (names codes 6)))) false
unfolding codes_right
by_tests codes = go (rising 0 codes) (names codes 1) (names codes 2) (names codes 3) (names codes 6)
  where
    go : (r one two three six : Bool) → (r && (one && (if_there three two && if_there six two)))
        ≡ cond (r && one) (cond two true (cond three false (not six))) false
    go false one two three six = refl
    go true false two three six = refl
    go true true true three six = beside_two three six
    go true true false true six = refl
    go true true false false true = refl
    go true true false false false = refl

module _ (codes : List ℕ) (right : codes_right codes ≡ true) where
  is_rising : rising 0 codes ≡ true
  unfolding codes_right
  is_rising = ((both_iff (rising 0 codes) _).0 right).0

  pub one_there : names codes 1 ≡ true
  unfolding codes_right
  one_there = ((both_iff (names codes 1) _).0 ((both_iff (rising 0 codes) _).0 right).1).0

  -- parts 3 and 6, where they are there, are with part 2
  with_two : (if_there (names codes 3) (names codes 2) ≡ true) × (if_there (names codes 6) (names codes 2) ≡ true)
  unfolding codes_right
  with_two = (both_iff _ _).0 ((both_iff (names codes 1) _).0 ((both_iff (rising 0 codes) _).0 right).1).1

  pub two_there : names codes 3 ≡ true → names codes 2 ≡ true
  two_there e = rw e at with_two.0

  pub six_with_two : names codes 6 ≡ true → names codes 2 ≡ true
  six_with_two e = rw e at with_two.1

  pub codes_some : 1 ≤ length codes
  codes_some = some codes one_there
    where
      some : (l : List ℕ) → names l 1 ≡ true → 1 ≤ length l
      some [] e = absurd (false≢true e)
      some (c ∷ l) e = omega arith

  pub codes_few : length codes ≤ top_code
  codes_few = omega (arith, rising_length 0 codes (omega arith) is_rising)

  pub codes_most : (i : ℕ) → get_or codes i 0 ≤ top_code
  codes_most = rising_most 0 codes is_rising

  -- no code stands twice
  pub codes_differ : (i j : ℕ) → i < j → j < length codes → get_or codes i 0 < get_or codes j 0
  codes_differ = rising_order 0 codes is_rising

  pub codes_positive : (i : ℕ) → i < length codes → 0 < get_or codes i 0
  codes_positive = rising_above 0 codes is_rising

-- ---- under its own code a part is found

rising_find : (low : ℕ) (parts : List Part) → rising low (codes_of parts) ≡ true → (i : ℕ) → i < length parts
    → find parts (get_or (codes_of parts) i 0) ≡ get_or (bodies_of parts) i []
rising_find low [] e i l = absurd (omega arith)
rising_find low (p ∷ parts) e zero l = rw (eq-eqb p.code p.code refl)
rising_find low (p ∷ parts) e (suc i) l =
    let r = rises low p.code (codes_of parts) e in
    let above = rising_above p.code (codes_of parts) r.rest i (rw length-map (omega arith)) in
    rw (ne_eqb p.code (get_or (codes_of parts) i 0) (omega arith)) (rising_find p.code parts r.rest i (omega arith))

pub find_own : (parts : List Part) → codes_right (codes_of parts) ≡ true → (i : ℕ) → i < length parts
    → find parts (get_or (codes_of parts) i 0) ≡ get_or (bodies_of parts) i []
find_own parts right = rising_find 0 parts (is_rising (codes_of parts) right)

-- ---- every list of codes that is right

-- the lists that rise within the k codes above `low`: those without the first of these codes, and those with it
abbrev pub climbs : ℕ → ℕ → List (List ℕ)
climbs low zero = [] ∷ []
climbs low (suc k) = climbs (suc low) k ++ map (λ (l : List ℕ). suc low ∷ l) (climbs (suc low) k)

climbs_all : (low k : ℕ) (codes : List ℕ) → low + k ≡ top_code → rising low codes ≡ true → Memᴰ codes (climbs low k)
climbs_all low zero [] e r = Memᴰ.head refl
climbs_all low zero (code ∷ codes) e r = absurd (omega (arith, rises low code codes r))
climbs_all low (suc k) [] e r = Memᴰ.append_left _ (climbs_all (suc low) k [] (omega arith) refl)
climbs_all low (suc k) (code ∷ codes) e r =
    let h = rises low code codes r in
    elim (dec_lt (suc low) code) [
      | yes later ↦
          Memᴰ.append_left _
          (climbs_all (suc low) k (code ∷ codes) (omega arith) (rw (lt-ltb (suc low) code later, le-leb code top_code h.within) h.rest))
      | no now ↦
          (let first : code ≡ suc low = omega arith in
          Memᴰ.append_right (climbs (suc low) k)
          (Memᴰ.cast (rw first) (Memᴰ.map (λ (l : List ℕ). suc low ∷ l) (climbs_all (suc low) k codes (omega arith) (rw first at h.rest)))))
    ]

-- those of some lists that pass a test
abbrev pub passing : (List ℕ → Bool) → List (List ℕ) → List (List ℕ)
passing test [] = []
passing test (l ∷ lists) = cond (test l) (l ∷ passing test lists) (passing test lists)

module _ (test : List ℕ → Bool) (x : List ℕ) where
  passing_of : (lists : List (List ℕ)) → Memᴰ x lists → test x ≡ true → Memᴰ x (passing test lists)
  passing_of [] m pass = m
  passing_of (l ∷ lists) m pass = go (test l) refl (Memᴰ.cases_cons m) (λ n. passing_of lists n pass)
    where
      go : (b : Bool) → test l ≡ b → (x ≡ l) ⊎ Memᴰ x lists → (Memᴰ x lists → Memᴰ x (passing test lists))
          → Memᴰ x (cond b (l ∷ passing test lists) (passing test lists))
      go true e (inl is) rest = Memᴰ.head is
      go true e (inr n) rest = Memᴰ.tail (rest n)
      go false e (inl is) rest = absurd (false≢true (sym e ∙ ap test (sym is) ∙ pass))
      go false e (inr n) rest = rest n

  passing_at : (lists : List (List ℕ)) → Memᴰ x (passing test lists) → test x ≡ true
  passing_at [] m = absurd (Memᴰ.not-nil m)
  passing_at (l ∷ lists) m = go (test l) refl m (passing_at lists)
    where
      go : (b : Bool) → test l ≡ b → Memᴰ x (cond b (l ∷ passing test lists) (passing test lists))
          → (Memᴰ x (passing test lists) → test x ≡ true) → test x ≡ true
      go true e n rest = elim (Memᴰ.cases_cons n) [ inl is ↦ ap test is ∙ e | inr n ↦ rest n ]
      go false e n rest = rest n

-- Right are those of the lists within 1 to the top code that pass the test; Laws writes them out, as they are computed.
pub codes_iff : (codes : List ℕ) → (codes_right codes ≡ true) ↔ Memᴰ codes (passing codes_right (climbs 0 top_code))
codes_iff codes = (
  (λ right. passing_of codes_right codes (climbs 0 top_code) (climbs_all 0 top_code codes (omega arith) (is_rising codes right)) right),
  passing_at codes_right codes (climbs 0 top_code),
)

-- ---- the parts of right codes, code by code

abbrev pub there_of : ℕ → List Part → List Part
there_of code parts = cond (has parts code) ((code holds find parts code) ∷ []) []

-- those of k codes from this one on
abbrev pub in_order : ℕ → ℕ → List Part → List Part
in_order code zero parts = []
in_order code (suc k) parts = there_of code parts ++ in_order (suc code) k parts

order_none : (code k : ℕ) → in_order code k [] ≡ []
order_none code zero = refl
order_none code (suc k) = order_none (suc code) k

-- a part of a lower code is none of them
order_past : (p : Part) (parts : List Part) (code k : ℕ) → p.code < code → in_order code k (p ∷ parts) ≡ in_order code k parts
order_past p parts code zero h = refl
order_past p parts code (suc k) h = rw (ne_eqb p.code code (λ e. omega arith), order_past p parts (suc code) k (omega arith))

-- rising codes name none below them
rising_unnamed : (low code : ℕ) (codes : List ℕ) → code ≤ low → rising low codes ≡ true → names codes code ≡ false
rising_unnamed low code [] h e = refl
rising_unnamed low code (c ∷ codes) h e =
    let r = rises low c codes e in
    rw (ne_eqb c code (λ x. omega (arith, r.above)), rising_unnamed c code codes (omega (arith, r.above)) r.rest)

rising_order_all : (low k : ℕ) (parts : List Part) → low + k ≡ top_code → rising low (codes_of parts) ≡ true → parts ≡ in_order (suc low) k parts
rising_order_all low k [] t e = sym (order_none (suc low) k)
rising_order_all low zero (p ∷ parts) t e = let r = rises low p.code (codes_of parts) e in absurd (omega (arith, r.above, r.within))
rising_order_all low (suc k) (p ∷ parts) t e =
    let r = rises low p.code (codes_of parts) e in
    elim (ℕ_discrete p.code (suc low)) [
      | yes x ↦
          rw (eq-eqb p.code (suc low) x, order_past p parts (suc (suc low)) k (omega arith))
          (ap₂ (λ (c : ℕ) (l : List Part). (c holds p.body) ∷ l) x (rising_order_all (suc low) k parts (omega arith) (rw x at r.rest)))
      | no x ↦
          (let above : suc low < p.code = omega (arith, r.above) in
          let rest : rising (suc low) (codes_of (p ∷ parts)) ≡ true = rw (lt-ltb (suc low) p.code above, le-leb p.code top_code r.within) r.rest in
          rw (rising_unnamed (suc low) (suc low) (codes_of (p ∷ parts)) (omega arith) rest) (rising_order_all (suc low) k (p ∷ parts) (omega arith) rest))
    ]

pub in_order_lem : (parts : List Part) → codes_right (codes_of parts) ≡ true → parts ≡ in_order 1 top_code parts
in_order_lem parts right = rising_order_all 0 top_code parts (omega arith) (is_rising (codes_of parts) right)

-- ---- a body under a code

module _ (code : ℕ) (body : List ℕ) (within : code ≤ top_code) where
  with_rising : (low : ℕ) (parts : List Part) → low < code → rising low (codes_of parts) ≡ true → rising low (codes_of (with_part code body parts)) ≡ true
  with_rising low [] h e = rw (lt-ltb low code h, le-leb code top_code within)
  with_rising low (p ∷ parts) h e =
      let r = rises low p.code (codes_of parts) e in
      by_cases (ltb p.code code)
      (λ b.
      rw (b, lt-ltb low p.code r.above, le-leb p.code top_code r.within)
      (with_rising p.code parts (ltb-true p.code code b) r.rest))
      (λ b.
      by_cases (eqb p.code code)
      (λ q.
      rw (b, q, lt-ltb low code h, le-leb code top_code within, ← eqb-true p.code code q) r.rest)
      (λ q.
      rw (b, q, lt-ltb low code h, le-leb code top_code within, lt-ltb code p.code (later p b q), le-leb p.code top_code r.within) r.rest))
    where
      later : (p : Part) → ltb p.code code ≡ false → eqb p.code code ≡ false → code < p.code
      later p b q = omega (arith, ltb-false p.code code b, eqb-false p.code code q)

  with_kept : (parts : List Part) (other : ℕ) → has parts other ≡ true → has (with_part code body parts) other ≡ true
  with_kept parts other e =
      by_cases (eqb code other)
      (λ q. rw (← eqb-true code other q) (with_there code body parts))
      (λ q. with_other_there code body other q parts ∙ e)

  -- Beside part 2 any of the codes may stand.
  pub with_right : (parts : List Part) → 0 < code → has parts 2 ≡ true → codes_right (codes_of parts) ≡ true
      → codes_right (codes_of (with_part code body parts)) ≡ true
  unfolding codes_right
  with_right parts some two right =
      rw (
        with_rising 0 parts some (is_rising (codes_of parts) right),
        with_kept parts 1 (one_there (codes_of parts) right),
        with_kept parts 2 two,
      )
      (beside_two (has (with_part code body parts) 3) (has (with_part code body parts) 6))
