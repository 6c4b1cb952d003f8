-- The highest-ranked marks fare as they do by themselves: only the marks above a mark bear on it, and those are among them.
use Rattle.std.specs.Prelude.{ℕ, zero, suc, ◌<◌, ◌≤◌, ◌≡◌, refl}
use Rattle.std.proofs.Common.{sym, ap, subst, ◌∙◌, arith}
use Rattle.fractions.specs.declared.Fraction.{Fraction}
use Rattle.fractions.specs.Order.{Later}
use Rattle.elimination.specs.Marks.{Marks, Proper}
use Rattle.elimination.specs.Process.{Removal, stays, gone, when}
use Rattle.elimination.specs.Settled.{Candidate, Best, Settled}
use Rattle.elimination.specs.Alike.{among, Top, renumber}

-- the removal value knows no numbers
renumber_when : (f : ℕ → ℕ) (r : Removal) → when (renumber f r) ≡ when r
renumber_when f stays = refl
renumber_when f (gone j v) = refl

module _ (M : Marks) (ok : Proper M) (c : ℕ) (f : ℕ → ℕ) (top : Top M c f) where
  open M use {count as n, key, value}

  pub among_proper : Proper (among M c f)
  among_proper =
      record {
        distinct = λ i j hi hj e. top.once i j hi hj (ok.distinct (f i) (f j) (top.inside i hi) (top.inside j hj) e);
        positive = λ i j. ok.positive (f i) (f j);
        symmetric = λ i j. ok.symmetric (f i) (f j);
      }

  -- `s` is settled for all the marks, `t` for the highest-ranked by themselves
  module _ (s t : ℕ → Removal) (ss : Settled M s) (st : Settled (among M c f) t) where
    module _ (i : ℕ) (hi : i < c) (above : (j : ℕ) → j < c → key (f j) < key (f i) → s (f j) ≡ renumber f (t j)) where
      same_when : (j : ℕ) → j < c → key (f j) < key (f i) → when (s (f j)) ≡ when (t j)
      same_when j hj o = ap when (above j hj o) ∙ renumber_when f (t j)

      candidate_among : (j : ℕ) → j < c → Candidate M s (f i) (f j) → Candidate (among M c f) t i j
      candidate_among j hj x =
          record {
            inside = hj;
            outranks = x.outranks;
            later = subst (λ v. Later v (value (f j) (f i))) (same_when j hj x.outranks) x.later;
          }

      candidate_back : (j : ℕ) → Candidate (among M c f) t i j → Candidate M s (f i) (f j)
      candidate_back j x =
          record {
            inside = top.inside j x.inside;
            outranks = x.outranks;
            later = subst (λ v. Later v (value (f j) (f i))) (sym (same_when j x.inside x.outranks)) x.later;
          }

      -- whoever takes the mark is one of the highest-ranked
      best_among : (h : ℕ) (v : Fraction) → Best M s (f i) h v → (k : ℕ) × (k < c) × (f k ≡ h) × Best M s (f i) (f k) v
      best_among h v x =
          let (k, hk, e) = top.above i h hi x.candidate.inside x.candidate.outranks in
          (k, hk, e, subst (λ z. Best M s (f i) z v) (sym e) x)

      top_at : s (f i) ≡ renumber f (t i)
      top_at = cases (s (f i)) (t i) refl refl
        where
          cases : (x y : Removal) → s (f i) ≡ x → t i ≡ y → s (f i) ≡ renumber f (t i)
          cases stays stays a b = rw (a, b)
          cases stays (gone j w) a b =
              absurd ((ss (f i) (top.inside i hi)).stay a (f j) (candidate_back j ((st i hi).go j w b).candidate))
          cases (gone h v) stays a b =
              let (k, hk, e, x) = best_among h v ((ss (f i) (top.inside i hi)).go h v a) in
              absurd ((st i hi).stay b k (candidate_among k hk x.candidate))
          cases (gone h v) (gone j w) a b =
              let (k, hk, e, x) = best_among h v ((ss (f i) (top.inside i hi)).go h v a) in
              let y = (st i hi).go j w b in
              let here = x.first (f j) (candidate_back j y.candidate) in
              let there = y.first k (candidate_among k hk x.candidate) in
              let low : key (f k) ≤ key (f j) = here.tie (omega arith) in
              let high : key (f j) ≤ key (f k) = there.tie (omega arith) in
              let same : k ≡ j = among_proper.distinct k j hk y.candidate.inside (omega arith) in
              rw (a, b) (cc (x.exact, y.exact))

    top_below : (k i : ℕ) → i < c → key (f i) < k → s (f i) ≡ renumber f (t i)
    top_below zero i hi b = absurd (omega arith)
    top_below (suc k) i hi b = top_at i hi (λ j hj o. top_below k j hj (omega arith))

    pub top_settled : (i : ℕ) → i < c → s (f i) ≡ renumber f (t i)
    top_settled i hi = top_below (suc (key (f i))) i hi (omega arith)
