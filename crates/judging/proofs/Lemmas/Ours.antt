-- What the judge accepts is settled, so it is the process's, to the record; and the process's is accepted. Assumes nothing.
use Rattle.std.specs.Prelude.{ℕ, ◌<◌, ◌≡◌, refl}
use Rattle.std.proofs.Common.{sym, ap, ◌∙◌, inl, inr, arith}
use Rattle.fractions.specs.declared.Fraction.{Fraction}
use Rattle.fractions.specs.declared.Value.{Value}
use Rattle.fractions.specs.declared.Value.TheVariants.{Never, At}
use Rattle.fractions.specs.Order.{Later}
use Rattle.fractions.proofs.Laws.{order}
use Rattle.elimination.specs.Marks.{Marks, Proper}
use Rattle.elimination.specs.Rules.{FirstRule}
use Rattle.elimination.specs.Process.{Removal, stays, gone, when, process, ◌over◌}
use Rattle.elimination.specs.Settled.{Ahead, Candidate, Best, SettledAt}
use Rattle.elimination.proofs.Theorems.{process_keeps, process_eliminator, settled_process}
use Rattle.judging.proofs.Lemmas.Judged.{Highest, AllHighest}

-- what a proposed record stands for
abbrev pub removal_of : Value → ℕ → Removal
removal_of Never h = stays
removal_of (At f) h = gone h f

when_of : (v : Value) (h : ℕ) → when (removal_of v h) ≡ v
when_of Never h = refl
when_of (At f) h = refl

module _ (M : Marks) (ok : Proper M) (r : ℕ → Value) (by : ℕ → ℕ) where
  open M use {count as n, key, value}

  abbrev proposed : ℕ → Removal
  proposed m = removal_of (r m) (by m)

  -- ---- what is accepted is ours; `exact` is question 8's "as its two unreduced numbers"

  module _ (exact : (m : ℕ) (f : Fraction) → m < n → r m ≡ At f → f ≡ value (by m) m) (first : FirstRule M r) (names : AllHighest M r by) where
    no_candidate : (m h : ℕ) → m < n → Candidate M proposed m h → Later (r m) (value h m) → ⊥
    no_candidate m h hm c l =
        let a : Later (r h) (value h m) = rw (when_of (r h) (by h)) at c.later in
        first h m c.inside hm (λ e. let k = ap key e in omega (arith, c.outranks)) a l

    settled_at : (m : ℕ) → m < n → (v : Value) → r m ≡ v → SettledAt M proposed m
    settled_at m hm Never e =
        record {
          stay = λ q h c. no_candidate m h hm c (rw e tt);
          go = λ h f q. absurd (let x : stays ≡ gone h f = rw e at q in let z : ◌≡◌ {A = ℕ} 0 1 = cc in omega arith);
        }
    settled_at m hm (At f) e =
        record {
          stay = λ q h c. absurd (let x : gone (by m) f ≡ stays = rw e at q in let z : ◌≡◌ {A = ℕ} 0 1 = cc in omega arith);
          go = λ h k q. let x : gone (by m) f ≡ gone h k = rw e at q in
              let eh : by m ≡ h = cc in
              let ef : f ≡ k = cc in
              rw (← eh, ← ef) best;
        }
      where
        highest : Highest M r by m f
        highest = names m hm f e

        is : f ≡ value (by m) m
        is = exact m f hm e

        ahead : (g : ℕ) → Candidate M proposed m g → Ahead M (by m over m) (g over m)
        ahead g c =
            record {
              at_most = elim (order (value (by m) m) (value g m)) [
                | inl a ↦ a
                | inr a ↦ absurd (no_candidate m g hm c (rw (e, is) a))
              ];
              tie = λ s.
                  highest.top g c.inside
                  (record { outranks = c.outranks; equal = rw is s; later = rw (when_of (r g) (by g)) at c.later });
            }

        best : Best M proposed m (by m) f
        best =
            record {
              candidate = record {
                inside = highest.inside;
                outranks = highest.named.outranks;
                later = rw (when_of (r (by m)) (by (by m))) highest.named.later;
              };
              exact = is;
              first = ahead;
            }

    pub judged_ours : (m : ℕ) → m < n → proposed m ≡ process M m
    judged_ours = settled_process M ok proposed (λ m hm. settled_at m hm (r m) refl)

  -- ---- what is ours is accepted

  module _ (same : (m : ℕ) → m < n → proposed m ≡ process M m) where
    value_same : (m : ℕ) → m < n → when (process M m) ≡ r m
    value_same m hm = ap when (sym (same m hm)) ∙ when_of (r m) (by m)

    pub ours_first : FirstRule M r
    ours_first i j hi hj d a b =
        (process_keeps M ok).first_rule i j hi hj d (rw (value_same i hi) a) (rw (value_same j hj) b)

    pub ours_names : AllHighest M r by
    ours_names m hm f q =
        let e : process M m ≡ gone (by m) f = sym (same m hm) ∙ ap (λ (v : Value). removal_of v (by m)) q in
        let x = process_eliminator M ok m (by m) f hm e in
        record {
          inside = x.inside;
          named = record {
            outranks = x.outranks;
            equal = rw x.exact (record { cross = refl });
            later = rw (value_same (by m) x.inside, x.exact) at x.later;
          };
          top = λ g hg c. x.highest g hg c.outranks c.equal (rw (value_same g hg) c.later);
        }
