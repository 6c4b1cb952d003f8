-- Parts with a body under a code: putting it in its place again changes nothing, and how many parts and bytes there are then.
use Prim.Native.Nat.{ℕ, zero, suc, ◌+◌, ◌<◌}
use Rattle.std.specs.Prelude.{◌≡◌, refl, Bool, true, false, cond, ◌&&◌, ◌||◌, ltb, leb, eqb, length, get_or}
use Rattle.std.proofs.Common.{sym, ap, ◌∙◌, true≢false, inl, inr, arith, ltb-true, lt-ltb, le-ltb, eqb-true, eq-eqb}
use Rattle.std.proofs.lemmas.Bool.{false≢true}
use mathlib.Core.List.{List, [], ◌∷◌, ◌++◌}
use Rattle.std.proofs.Math.ListN.{length-append}
use Rattle.lists.proofs.TestLaws.{by_cases, both_iff, either}
use Rattle.numbers.specs.Little.{Bytes}
use Rattle.contents.specs.Contents.{Part, ◌holds◌, codes_of, bodies_of, names, has, find, with_part, chain}
use Rattle.contents.specs.Questions.{top_code, rising}

-- codes that rise from `low` lie above it
above_low : (low : ℕ) (codes : List ℕ) (code : ℕ) → rising low codes ≡ true → names codes code ≡ true → low < code
above_low low [] code r n = absurd (false≢true n)
above_low low (c ∷ codes) code r n =
    let a = (both_iff (ltb low c && leb c top_code) (rising c codes)).0 r in
    let b = ltb-true low c ((both_iff (ltb low c) (leb c top_code)).0 a.0).0 in
    elim (either (eqb c code) (names codes code) n) [
      | inl e ↦ omega (arith, b, eqb-true c code e)
      | inr e ↦ omega (arith, b, above_low c codes code a.1 e)
    ]

or_none : (a b : Bool) → a || b ≡ false → (a ≡ false) × (b ≡ false)
or_none true b e = absurd (true≢false e)
or_none false b e = (refl, e)

module _ (code : ℕ) where
  below_self : ltb code code ≡ false
  below_self = le-ltb code code (omega arith)

  same_self : eqb code code ≡ true
  same_self = eq-eqb code code refl

  -- one's own body
  pub with_own : (low : ℕ) (parts : List Part) → rising low (codes_of parts) ≡ true → has parts code ≡ true → with_part code (find parts code) parts ≡ parts
  with_own low [] r n = absurd (false≢true n)
  with_own low (p ∷ parts) r n =
      by_cases (eqb p.code code)
      (λ e.
      let same : p.code ≡ code = eqb-true p.code code e in
      let not_low : ltb p.code code ≡ false = le-ltb p.code code (omega (arith, same)) in
      rw (e, not_low) (ap (λ (c : ℕ). (c holds p.body) ∷ parts) (sym same)))
      (λ e.
      let later : has parts code ≡ true = rw e at n in
      let rest = ((both_iff (ltb low p.code && leb p.code top_code) (rising p.code (codes_of parts))).0 r).1 in
      let is-low : ltb p.code code ≡ true = lt-ltb p.code code (above_low p.code (codes_of parts) code rest later) in
      let found : find (p ∷ parts) code ≡ find parts code = ap (λ (b : Bool). cond b p.body (find parts code)) e in
      rw is-low (ap (λ (b : List ℕ). p ∷ with_part code b parts) found ∙ ap (λ (l : List Part). p ∷ l) (with_own p.code parts rest later)))

  module _ (body : List ℕ) where
    pub with_twice : (parts : List Part) → with_part code body (with_part code body parts) ≡ with_part code body parts
    with_twice [] = rw (below_self, same_self)
    with_twice (p ∷ parts) =
        by_cases (ltb p.code code) (λ low. rw (low, low) (ap (λ (l : List Part). p ∷ l) (with_twice parts)))
        (λ high. rw (high, below_self, same_self))

    -- where there was none, there is one part more, and its bytes
    pub with_more : (parts : List Part) → has parts code ≡ false
        → (length (with_part code body parts) ≡ suc (length parts))
        × (length (chain (bodies_of (with_part code body parts))) ≡ length (chain (bodies_of parts)) + length body)
    unfolding chain
    with_more [] none = (refl, omega (arith, length-append body []))
    with_more (p ∷ parts) none =
        let apart = or_none (eqb p.code code) (has parts code) none in
        by_cases (ltb p.code code)
        (λ low.
        let more = with_more parts apart.1 in
        let rest = bodies_of (with_part code body parts) in
        rw low (ap suc more.0, omega (arith, more.1, length-append p.body (chain rest), length-append p.body (chain (bodies_of parts)))))
        (λ high. rw (high, apart.0) (refl, omega (arith, length-append body (p.body ++ chain (bodies_of parts)))))

    -- of bodies that are lists of bytes
    pub with_bytes : Bytes body → (parts : List Part) → ((i : ℕ) → Bytes (get_or (bodies_of parts) i [])) → (i : ℕ) → Bytes (get_or (bodies_of (with_part code body parts)) i [])
    with_bytes b [] each zero = b
    with_bytes b [] each (suc i) = λ j. omega arith
    with_bytes b (p ∷ parts) each i =
        by_cases (ltb p.code code) (λ low. rw low (before (with_bytes b parts (λ j. each (suc j))) i)) (λ high. rw high (behind (eqb p.code code) i))
      where
        before : ((j : ℕ) → Bytes (get_or (bodies_of (with_part code body parts)) j [])) → (i : ℕ) → Bytes (get_or (bodies_of (p ∷ with_part code body parts)) i [])
        before rest zero = each 0
        before rest (suc i) = rest i

        behind : (same : Bool) (i : ℕ) → Bytes (get_or (bodies_of ((code holds body) ∷ cond same parts (p ∷ parts))) i [])
        behind same zero = b
        behind true (suc i) = each (suc i)
        behind false (suc i) = each i
