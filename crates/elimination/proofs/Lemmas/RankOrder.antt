-- Visiting the marks in rank order: what a scan of the marks visited so far has found for the next one, and that it settles that one.
use Rattle.std.specs.Prelude.{ℕ, suc, ◌<◌, ◌≤◌, ◌≡◌, refl, ◌≢◌}
use Rattle.std.proofs.Common.{ap, arith}
use Rattle.std.proofs.Math.Decide.{dec_lt, ℕ_discrete}
use Rattle.fractions.specs.declared.Fraction.{Fraction}
use Rattle.fractions.specs.Order.{Less, Same}
use Rattle.elimination.specs.Marks.{Marks}
use Rattle.elimination.specs.Process.{Removal, stays, gone, ◌over◌}
use Rattle.elimination.specs.Settled.{Ahead, Candidate, Best, SettledAt, Settled}
use Rattle.elimination.specs.RankOrder.{Ranking, Stands, Found}
use Rattle.elimination.proofs.Lemmas.Settled.{settled_like}

module _ (M : Marks) where
  open M use {count as n, key, value}

  -- a mark for which all the marks above it were scanned is settled
  module _ (order : ℕ → ℕ) (rank : Ranking M order) (s : ℕ → Removal) (p : ℕ) (hp : p < n) where
    above_before : (q : ℕ) → q < n → key (order q) < key (order p) → q < p
    above_before q hq o =
        elim (dec_lt p q) [
          | yes c ↦ absurd (let z = rank.rising p q c hq in omega arith)
          | no c ↦ elim (ℕ_discrete q p) [ yes e ↦ absurd (let z = ap (λ x. key (order x)) e in omega arith) | no d ↦ omega arith ]
        ]

    pub found_settled : (r : Removal) → s (order p) ≡ r → Found M order s (order p) p r → SettledAt M s (order p)
    found_settled stays e x = record { stay = stay; go = λ h f w. absurd (let z : ◌≡◌ {A = ℕ} 0 1 = cc in omega arith) }
      where
        stay : s (order p) ≡ stays → (h : ℕ) → Candidate M s (order p) h → ⊥
        stay w h t =
            let (q, hq, i) = rank.onto h t.inside in
            x q (above_before q hq (rw i t.outranks)) (rw i t.later)
    found_settled (gone h f) e (a, i, x) =
        record { stay = λ w. absurd (let z : ◌≡◌ {A = ℕ} 0 1 = cc in omega arith); go = λ h' f' w. rw (eh h' f' w, ef h' f' w) best }
      where
        eh : (h' : ℕ) (f' : Fraction) → s (order p) ≡ gone h' f' → h' ≡ order a
        eh h' f' w = cc

        ef : (h' : ℕ) (f' : Fraction) → s (order p) ≡ gone h' f' → f' ≡ value (order a) (order p)
        ef h' f' w = cc x.exact

        tie : (q : ℕ) → q < n → Stands M order s (order p) q → Same (value (order a) (order p)) (value (order q) (order p)) → key (order a) ≤ key (order q)
        tie q hq y same =
            elim (dec_lt q a) [
              | yes b ↦ absurd (let u : Less (value (order a) (order p)) (value (order q) (order p)) = rw (← x.exact) (x.less q b y) in omega arith)
              | no b ↦
                  elim (ℕ_discrete q a)
                  [ yes j ↦ rw j (omega arith) | no d ↦ (let u = rank.rising a q (omega arith) hq in omega arith) ]
            ]

        first : (g : ℕ) → Candidate M s (order p) g → Ahead M (order a over order p) (g over order p)
        first g t =
            let (q, hq, j) = rank.onto g t.inside in
            let y : Stands M order s (order p) q = rw j t.later in
            let b = above_before q hq (rw j t.outranks) in
            rw (← j) (record { at_most = rw (← x.exact) (x.at_most q b y); tie = tie q hq y })

        best : Best M s (order p) (order a) (value (order a) (order p))
        best =
            let ha : a < n = omega (arith, x.below) in
            record {
              candidate = record { inside = rank.inside a ha; outranks = rank.rising a p x.below hp; later = x.stands };
              exact = refl;
              first = first;
            }

  -- for the loops: the mark at `p` is stored as its scan found it, so that those up to `p` are settled
  module _ (order : ℕ → ℕ) (rank : Ranking M order) (s t : ℕ → Removal) (p : ℕ) (hp : p < n)
      (rest : (h : ℕ) → h < n → h ≢ order p → s h ≡ t h) where
    above_kept : (q h : ℕ) → q ≤ p → h < n → key h < key (order q) → s h ≡ t h
    above_kept q h b hh o =
        rest h hh
        (λ e. let k = ap key e in
        elim (ℕ_discrete q p)
        [ yes j ↦ (let z = ap (λ x. key (order x)) j in omega arith) | no d ↦ (let z = rank.rising q p (omega arith) hp in omega arith) ])

    order_kept : (q : ℕ) → q < p → s (order q) ≡ t (order q)
    order_kept q b = above_kept p (order q) (omega arith) (rank.inside q (omega arith)) (rank.rising q p b hp)

    found_kept : (r : Removal) → Found M order s (order p) p r → Found M order t (order p) p r
    found_kept stays x = λ q b y. x q b (rw (order_kept q b) y)
    found_kept (gone h f) (a, e, x) = (
      a,
      e,
      record {
        below = x.below;
        exact = x.exact;
        stands = rw (order_kept a x.below) at x.stands;
        less = λ q b y. let c : q < p = omega (arith, x.below) in x.less q b (rw (order_kept q c) y);
        at_most = λ q b y. x.at_most q b (rw (order_kept q b) y);
      },
    )

    pub visited : (r : Removal) → t (order p) ≡ r → Found M order s (order p) p r → ((q : ℕ) → q < p → SettledAt M s (order q))
        → (q : ℕ) → q < suc p → SettledAt M t (order q)
    visited r e x each q b =
        elim (ℕ_discrete q p) [
          | yes j ↦ rw j (found_settled order rank t p hp r e (found_kept r x))
          | no d ↦
              (let c : q < p = omega arith in
              settled_like M s t (order q) (λ h. above_kept q h (omega arith)) (order_kept q c) (each q c))
        ]

  pub all_settled : (order : ℕ → ℕ) → Ranking M order → (s : ℕ → Removal) → ((q : ℕ) → q < n → SettledAt M s (order q)) → Settled M s
  all_settled order rank s each m hm = let (q, hq, e) = rank.onto m hm in rw (← e) (each q hq)
