-- What the process's test on pairs decides, and what its choice of the next pair gives.
use Rattle.std.specs.Prelude.{ℕ, ◌*◌, ◌<◌, Bool, ◌&&◌, ◌||◌, eqb}
use Rattle.std.proofs.Math.Path.{◌≡◌, refl, subst}
use Rattle.std.proofs.Math.Bool.{true, false, cond}
use Rattle.std.proofs.Common.{true≢false, inl, inr, arith}
use Rattle.std.proofs.lemmas.Bool.{false≢true}
use Rattle.std.proofs.Math.Option.{Option, none, some}
use Rattle.std.proofs.Math.Dec.{ltb}
use borrow.Author.Tests.{eqb-true, eqb-false, ltb-true, ltb-false, lt-ltb}
use Rattle.fractions.specs.Order.{less, same, Less, AtMost}
use Rattle.fractions.proofs.Laws.{order, at_most_trans}
use Rattle.elimination.specs.Marks.{Marks, Proper}
use Rattle.elimination.proofs.Lemmas.Least.{least_from, least_below}
use Rattle.elimination.specs.Process.{Removal, stays, gone, lives, Pair, ◌over◌, worth, least, before, pair, next}
use Rattle.elimination.specs.Settled.{Ahead}

lives_stays : (r : Removal) → lives r ≡ true → r ≡ stays
lives_stays stays e = refl
lives_stays (gone h f) e = absurd (false≢true e)

module _ (M : Marks) where
  open M use {count as n, key, value}

  ahead_refl : (p : Pair) → Ahead M p p
  ahead_refl p = omega arith

  -- where the later pair's higher mark ranks higher, there was no tie
  pub ahead_less : {p q : Pair} → Ahead M p q → key q.high < key p.high → Less (worth M p) (worth M q)
  ahead_less {p} {q} a o =
      elim (order (worth M q) (worth M p)) [ inl b ↦ absurd (let c = a.tie (omega arith) in omega arith) | inr l ↦ l ]

  -- the tests in their order: a and b of the values, c and d of the higher marks, e of the lower ones
  module _ (p q : Pair) where
    abbrev x : ℕ
    x = (worth M p).num * (worth M q).den

    abbrev y : ℕ
    y = (worth M q).num * (worth M p).den

    abbrev k : ℕ
    k = key p.high

    abbrev l : ℕ
    l = key q.high

    decided : (a b c d e : Bool) → ltb x y ≡ a → eqb x y ≡ b → ltb k l ≡ c → eqb k l ≡ d
        → (a || (b && (c || (d && e))) ≡ true → Ahead M p q) × (a || (b && (c || (d && e))) ≡ false → Ahead M q p)
    decided true b c d e ea eb ec ed = ((λ _. let h = ltb-true x y ea in omega arith), (λ z. absurd (true≢false z)))
    decided false false c d e ea eb ec ed =
        ((λ z. absurd (false≢true z)), (λ _. let h = ltb-false x y ea in let g = eqb-false x y eb in omega arith))
    decided false true true d e ea eb ec ed =
        ((λ _. let h = eqb-true x y eb in let g = ltb-true k l ec in omega arith), (λ z. absurd (true≢false z)))
    decided false true false true e ea eb ec ed =
        let h = eqb-true x y eb in
        let g = eqb-true k l ed in
        ((λ _. omega arith), (λ _. omega arith))
    decided false true false false e ea eb ec ed =
        ((λ z. absurd (false≢true z)), (λ _. let h = eqb-true x y eb in let g = ltb-false k l ec in let f = eqb-false k l ed in omega arith))

    verdict : (before M p q ≡ true → Ahead M p q) × (before M p q ≡ false → Ahead M q p)
    unfolding before less same
    verdict = decided (ltb x y) (eqb x y) (ltb k l) (eqb k l) (ltb (key p.low) (key q.low)) refl refl refl refl

  -- two living marks, the first of higher rank
  pub record Living (s : ℕ → Removal) (h l : ℕ) : Type 0 where
    pub high_in : h < n
    pub low_in : l < n
    pub high_lives : s h ≡ stays
    pub low_lives : s l ≡ stays
    pub outranks : key h < key l

  pair_from : (s : ℕ → Removal) (h l : ℕ) (p : Pair) → pair M s h l ≡ some p
      → (h over l ≡ p) × (s h ≡ stays) × (s l ≡ stays) × (key h < key l)
  unfolding pair
  pair_from s h l p e = go (lives (s h)) (lives (s l)) (ltb (key h) (key l)) refl refl refl e
    where
      go : (a b c : Bool) → lives (s h) ≡ a → lives (s l) ≡ b → ltb (key h) (key l) ≡ c
          → cond (a && b && c) (some (h over l)) none ≡ some p
          → (h over l ≡ p) × (s h ≡ stays) × (s l ≡ stays) × (key h < key l)
      go true true true x y z w = (cc, lives_stays _ x, lives_stays _ y, ltb-true _ _ z)
      go true true false x y z w = absurd (let z : ◌≡◌ {A = ℕ} 0 1 = cc in omega arith)
      go true false c x y z w = absurd (let z : ◌≡◌ {A = ℕ} 0 1 = cc in omega arith)
      go false b c x y z w = absurd (let z : ◌≡◌ {A = ℕ} 0 1 = cc in omega arith)

  pair_of_lem : (s : ℕ → Removal) (h l : ℕ) → Living s h l → pair M s h l ≡ some (h over l)
  unfolding pair
  pair_of_lem s h l a = rw (a.high_lives, a.low_lives, lt-ltb (key h) (key l) a.outranks)

  pub next_living : (s : ℕ → Removal) (p : Pair) → next M s ≡ some p → Living s p.high p.low
  unfolding next
  next_living s p e =
      let (h, hn, eh) = least_from (before M) (λ h. least (before M) (pair M s h) n) n p e in
      let (l, ln, el) = least_from (before M) (pair M s h) n p eh in
      let (q, a, b, c) = pair_from s h l p el in
      subst (λ (x : Pair). Living s x.high x.low) q
      (record { high_in = hn; low_in = ln; high_lives = a; low_lives = b; outranks = c })

  module _ (ok : Proper M) where
    ahead_trans : (p q r : Pair) → Ahead M p q → Ahead M q r → Ahead M p r
    ahead_trans p q r x y =
        record {
          at_most = at_most_trans (ok.positive _ _) x.at_most y.at_most;
          tie = λ e.
              let b : AtMost (worth M r) (worth M p) = omega arith in
              let back = at_most_trans (ok.positive _ _) b x.at_most in
              let forth = at_most_trans (ok.positive _ _) y.at_most b in
              omega (arith, x.tie (omega arith), y.tie (omega arith));
        }

    chosen_below : (f : ℕ → Option Pair) (k i : ℕ) (b : Pair) → i < k → f i ≡ some b
        → (a : Pair) × (least (before M) f k ≡ some a) × Ahead M a b
    chosen_below = least_below (before M) (Ahead M) ahead_refl ahead_trans (λ p q. (verdict p q).0) (λ p q. (verdict p q).1)

    next_below : (s : ℕ → Removal) (h l : ℕ) → Living s h l → (p : Pair) × (next M s ≡ some p) × Ahead M p (h over l)
    unfolding next
    next_below s h l a =
        let (q, eq, aq) = chosen_below (pair M s h) n l _ a.low_in (pair_of_lem s h l a) in
        let (p, ep, ap) = chosen_below (λ x. least (before M) (pair M s x) n) n h q a.high_in eq in
        (p, ep, ahead_trans p q _ ap aq)

    pub next_ahead : (s : ℕ → Removal) (p : Pair) → next M s ≡ some p → (h l : ℕ) → Living s h l → Ahead M p (h over l)
    next_ahead s p e h l a =
        let (q, eq, aq) = next_below s h l a in
        let same : q ≡ p = cc in
        rw same at aq

    pub next_none : (s : ℕ → Removal) → next M s ≡ none → (h l : ℕ) → Living s h l → ⊥
    next_none s e h l a =
        let (q, eq, aq) = next_below s h l a in
        let z : ◌≡◌ {A = ℕ} 0 1 = cc in
        omega arith
