-- Two lists that keep both rules are equal, mark by mark: by induction on the rank, since a mark's removal depends on higher-ranked marks only.
use Rattle.std.specs.Prelude.{ℕ, zero, suc, ◌<◌, ◌≡◌, refl, ◌≢◌}
use Rattle.std.proofs.Common.{ap, inl, inr, arith}
use Rattle.fractions.specs.declared.Fraction.{Fraction}
use Rattle.fractions.specs.declared.Value.{Value}
use Rattle.fractions.specs.declared.Value.TheVariants.{Never, At}
use Rattle.fractions.specs.Order.{AtMost, Same, Later, Equal, Sound}
use Rattle.fractions.proofs.Laws.{order, same_trans, later_sooner, later_equal, equal_sym}
use Rattle.elimination.specs.Marks.{Marks, Proper}
use Rattle.elimination.specs.Rules.{FirstRule, Cause, SecondRule, Keeps}

module _ (M : Marks) where
  open M use {count as n, key, value}

  outranks_ne : (h i : ℕ) → key h < key i → h ≢ i
  outranks_ne h i p q = let e = ap key q in omega arith

  -- the rules speak of values only up to cross products
  pub keeps_like : (r s : ℕ → Value) → Keeps M r → ((i : ℕ) → i < n → Sound (s i)) → ((i : ℕ) → i < n → Equal (r i) (s i)) → Keeps M s
  keeps_like r s k sound same = record { sound = sound; first_rule = first_rule; second_rule = second_rule }
    where
      back : (i : ℕ) (f : Fraction) → i < n → Later (s i) f → Later (r i) f
      back i f hi = later_equal (s i) (r i) f (k.sound i hi) (equal_sym (r i) (s i) (same i hi))

      first_rule : FirstRule M s
      first_rule i j hi hj d a b = k.first_rule i j hi hj d (back i _ hi a) (back j _ hj b)

      second_rule : SecondRule M s
      second_rule i hi f e = cases (r i) refl
        where
          cases : (x : Value) → r i ≡ x → Cause M s i f
          cases Never q = absurd (let z : Equal Never (At f) = rw (q, e) at (same i hi) in z)
          cases (At g) q =
              let c = k.second_rule i hi g q in
              let z : Same g f = rw (q, e) at (same i hi) in
              let d : 0 < g.den = rw q at (k.sound i hi) in
              record {
                high = c.high;
                inside = c.inside;
                outranks = c.outranks;
                equal = same_trans {g = g} d (omega arith) c.equal;
                later = later_equal (r c.high) (s c.high) _ (sound _ c.inside) (same _ c.inside) c.later;
              }

  module _ (ok : Proper M) where
    -- where two lists agree above `i`, a mark that one removes at `f` outlives `f` in no other
    not_later : (r s : ℕ → Value) → Keeps M r → Keeps M s → (i : ℕ) → i < n
        → ((h : ℕ) → h < n → key h < key i → Equal (r h) (s h))
        → (f : Fraction) → r i ≡ At f → Later (s i) f → ⊥
    not_later r s kr ks i hi above f e l =
        let c = kr.second_rule i hi f e in
        let h = c.high in
        ks.first_rule h i c.inside hi (outranks_ne h i c.outranks)
        (later_equal (r h) (s h) (value h i) (ks.sound h c.inside) (above h c.inside c.outranks) c.later)
        (later_sooner (s i) {g = f} (ok.positive h i) (omega (arith, c.equal)) l)

    meet : (r s : ℕ → Value) → Keeps M r → Keeps M s → (i : ℕ) → i < n
        → ((h : ℕ) → h < n → key h < key i → Equal (r h) (s h)) → Equal (r i) (s i)
    meet r s kr ks i hi above =
        cases (r i) (s i) (not_later r s kr ks i hi above)
        (not_later s r ks kr i hi (λ h a b. equal_sym (r h) (s h) (above h a b)))
      where
        cases : (v w : Value) → ((f : Fraction) → v ≡ At f → Later w f → ⊥) → ((f : Fraction) → w ≡ At f → Later v f → ⊥) → Equal v w
        cases Never Never p q = tt
        cases (At f) Never p q = p f refl tt
        cases Never (At g) p q = q g refl tt
        cases (At f) (At g) p q =
            let a : AtMost f g = elim (order f g) [ inl a ↦ a | inr a ↦ absurd (q g refl a) ] in
            let b : AtMost g f = elim (order g f) [ inl a ↦ a | inr a ↦ absurd (p f refl a) ] in
            omega arith

    unique_below : (r s : ℕ → Value) → Keeps M r → Keeps M s → (k i : ℕ) → i < n → key i < k → Equal (r i) (s i)
    unique_below r s kr ks zero i hi b = absurd (omega arith)
    unique_below r s kr ks (suc k) i hi b =
        meet r s kr ks i hi (λ h a c. unique_below r s kr ks k h a (omega arith))

    pub unique : (r s : ℕ → Value) → Keeps M r → Keeps M s → (i : ℕ) → i < n → Equal (r i) (s i)
    unique r s kr ks i hi = unique_below r s kr ks (suc (key i)) i hi (omega arith)
