-- A settled list: each mark is what the marks above it make of it. One list is settled, and it keeps both rules.
use Rattle.std.specs.Prelude.{ℕ, zero, suc, ◌<◌, ◌≤◌, ◌≡◌, refl}
use Rattle.std.proofs.Common.{arith}
use Rattle.std.proofs.Math.Decide.{dec_lt}
use Rattle.fractions.specs.Order.{Less, Later, Sound}
use Rattle.elimination.specs.Marks.{Marks, Proper}
use Rattle.elimination.specs.Rules.{FirstRule, Cause, SecondRule, Keeps}
use Rattle.elimination.specs.Process.{Removal, stays, gone, when}
use Rattle.elimination.specs.Settled.{Candidate, SettledAt, Settled}

module _ (M : Marks) where
  open M use {count as n, key, value}

  -- only the marks above `m`, and `m`, bear on it
  module _ (s t : ℕ → Removal) (m : ℕ) (above : (h : ℕ) → h < n → key h < key m → s h ≡ t h) where
    candidate_like : (h : ℕ) → Candidate M s m h → Candidate M t m h
    candidate_like h x =
        let l = rw (above h x.inside x.outranks) at x.later in search

    candidate_back : (h : ℕ) → Candidate M t m h → Candidate M s m h
    candidate_back h x =
        let l : Later (when (s h)) (value h m) = rw (above h x.inside x.outranks) x.later in search

    pub settled_like : s m ≡ t m → SettledAt M s m → SettledAt M t m
    settled_like e a =
        record {
          stay = λ q h x. a.stay (cc) h (candidate_back h x);
          go = λ h f q. let x = a.go h f (cc) in
              record { candidate = candidate_like h x.candidate; exact = x.exact; first = λ g y. x.first g (candidate_back g y) };
        }

    same_at_lem : Proper M → SettledAt M s m → SettledAt M t m → s m ≡ t m
    same_at_lem ok ss st = cases (s m) (t m) refl refl
      where
        cases : (x y : Removal) → s m ≡ x → t m ≡ y → s m ≡ t m
        cases stays stays a b = cc
        cases stays (gone h f) a b = absurd (ss.stay a h (candidate_back h (st.go h f b).candidate))
        cases (gone h f) stays a b = absurd (st.stay b h (candidate_like h (ss.go h f a).candidate))
        cases (gone h f) (gone g k) a b =
            let x = ss.go h f a in
            let y = st.go g k b in
            let u = x.first g (candidate_back g y.candidate) in
            let v = y.first h (candidate_like h x.candidate) in
            let low : key h ≤ key g = u.tie (omega arith) in
            let high : key g ≤ key h = v.tie (omega arith) in
            let e : h ≡ g = ok.distinct h g x.candidate.inside y.candidate.inside (omega arith) in
            cc (x.exact, y.exact)

  module _ (ok : Proper M) where
    same_below : (s t : ℕ → Removal) → Settled M s → Settled M t → (k m : ℕ) → m < n → key m < k → s m ≡ t m
    same_below s t ss st zero m hm b = absurd (omega arith)
    same_below s t ss st (suc k) m hm b =
        same_at_lem s t m (λ h a c. same_below s t ss st k h a (omega arith)) ok (ss m hm) (st m hm)

    pub settled_unique : (s t : ℕ → Removal) → Settled M s → Settled M t → (m : ℕ) → m < n → s m ≡ t m
    settled_unique s t ss st m hm = same_below s t ss st (suc (key m)) m hm (omega arith)

    module _ (s : ℕ → Removal) (ss : Settled M s) where
      first_rule_ranked : (i j : ℕ) → i < n → j < n → key i < key j
          → Later (when (s i)) (value i j) → Later (when (s j)) (value i j) → ⊥
      first_rule_ranked i j hi hj o a b = cases (s j) refl
        where
          candidate : Candidate M s j i
          candidate = search

          cases : (x : Removal) → s j ≡ x → ⊥
          cases stays e = (ss j hj).stay e i candidate
          cases (gone h f) e =
              let x = (ss j hj).go h f e in
              let u = x.first i candidate in
              let v : Less (value i j) (value h j) = rw (← x.exact) (rw e at b) in
              omega arith

      settled_first_rule : FirstRule M (λ i. when (s i))
      settled_first_rule i j hi hj d a b =
          elim (dec_lt (key i) (key j)) [
            | yes o ↦ first_rule_ranked i j hi hj o a b
            | no p ↦
                elim (dec_lt (key j) (key i)) [
                  | yes o ↦ first_rule_ranked j i hj hi o (rw (ok.symmetric j i) b) (rw (ok.symmetric j i) a)
                  | no q ↦ d (ok.distinct i j hi hj (omega arith))
                ]
          ]

      settled_second_rule : SecondRule M (λ i. when (s i))
      settled_second_rule i hi f e = cases (s i) refl
        where
          cases : (x : Removal) → s i ≡ x → Cause M (λ i. when (s i)) i f
          cases stays q = absurd (let z : ◌≡◌ {A = ℕ} 0 1 = cc in omega arith)
          cases (gone h g) q =
              let x = (ss i hi).go h g q in
              let t = x.candidate in
              let same : f ≡ value h i = cc x.exact in
              record { high = h; inside = t.inside; outranks = t.outranks; equal = rw same (omega arith); later = t.later }

      settled_sound : (i : ℕ) → i < n → Sound (when (s i))
      settled_sound i hi = cases (s i) refl
        where
          cases : (x : Removal) → s i ≡ x → Sound (when (s i))
          cases stays e = rw e tt
          cases (gone h f) e = rw (e, ((ss i hi).go h f e).exact) (ok.positive h i)

      pub settled_keeps : Keeps M (λ i. when (s i))
      settled_keeps = record { sound = settled_sound; first_rule = settled_first_rule; second_rule = settled_second_rule }
