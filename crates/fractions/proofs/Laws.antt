-- Laws of the order of fractions and removal values. Assumes nothing.
use Rattle.std.specs.Prelude.{◌*◌, ◌<◌, ◌≤◌, ◌≡◌, refl, true, ◌⊎◌, ◌↔◌}
use Rattle.std.proofs.Common.{inl, inr, arith, mul-le-mul, mul-le-mul_right, le_of_mul-le-mul_right, ltb-true, eqb-true, lt-ltb, eq-eqb}
use Rattle.std.proofs.Math.Decide.{dec_le}
use Rattle.fractions.specs.declared.Fraction.{Fraction}
use Rattle.fractions.specs.declared.Value.{Value}
use Rattle.fractions.specs.declared.Value.TheVariants.{Never, At}
use Rattle.fractions.specs.Order.{less, same, later, Less, AtMost, Same, Later, Equal, Sound, Small}

-- ---- the order is total and transitive

-- the one law that multiplies; the others follow by deciding
pub at_most_trans : {f g h : Fraction} → 0 < g.den → AtMost f g → AtMost g h → AtMost f h
at_most_trans {f} {g} {h} d p q =
    record {
      cross = le_of_mul-le-mul_right {k = g.den}
          (omega (arith, mul-le-mul_right h.den p.cross, mul-le-mul_right f.den q.cross)) d;
    }

pub order : (f g : Fraction) → AtMost f g ⊎ Less g f
order f g = elim (dec_le (f.num * g.den) (g.num * f.den)) [ yes p ↦ inl (omega arith) | no q ↦ inr (omega arith) ]

pub less_at_most : {f g h : Fraction} → 0 < h.den → Less f g → AtMost g h → Less f h
less_at_most {f} {g} {h} d p q = elim (order h f) [ inl r ↦ (let s = at_most_trans d q r in omega arith) | inr r ↦ r ]

pub at_most_less : {f g h : Fraction} → 0 < f.den → AtMost f g → Less g h → Less f h
at_most_less {f} {g} {h} d p q = elim (order h f) [ inl r ↦ (let s = at_most_trans d r p in omega arith) | inr r ↦ r ]

-- what is below another has a denominator
pub less_positive : {f g : Fraction} → Less f g → 0 < f.den
less_positive {f} {g} l =
    elim (dec_le 1 f.den) [
      | yes h ↦ h
      | no h ↦ (let z : f.den ≡ 0 = omega arith in let x : f.num * g.den < g.num * 0 = rw z at l.cross in absurd (omega arith))
    ]

pub same_trans : {f g h : Fraction} → 0 < g.den → Same f g → Same g h → Same f h
same_trans {f} {g} {h} d p q =
    let up : AtMost f h = at_most_trans {g = g} d (omega arith) (omega arith) in
    let down : AtMost h f = at_most_trans {g = g} d (omega arith) (omega arith) in
    omega arith

-- ---- removal values

pub later_sooner : (v : Value) {f g : Fraction} → 0 < f.den → AtMost f g → Later v g → Later v f
later_sooner Never d p l = tt
later_sooner (At h) d p l = at_most_less d p l

pub later_equal : (v w : Value) (f : Fraction) → Sound w → Equal v w → Later v f → Later w f
later_equal Never Never f d e l = tt
later_equal (At g) (At k) f d e l = less_at_most {g = g} d l (omega arith)
later_equal Never (At k) f d e l = absurd e
later_equal (At g) Never f d e l = absurd e

pub equal_sym : (v w : Value) → Equal v w → Equal w v
equal_sym Never Never e = tt
equal_sym (At g) (At k) e = omega arith
equal_sym Never (At k) e = e
equal_sym (At g) Never e = e

-- ---- the tests decide the statements

pub less_iff : (f g : Fraction) → (less f g ≡ true) ↔ Less f g
unfolding less
less_iff f g = ((λ e. record { cross = ltb-true _ _ e }), (λ l. lt-ltb _ _ l.cross))

pub same_iff : (f g : Fraction) → (same f g ≡ true) ↔ Same f g
unfolding same
same_iff f g = ((λ e. record { cross = eqb-true _ _ e }), (λ l. eq-eqb _ _ l.cross))

pub later_iff : (v : Value) (f : Fraction) → (later v (At f) ≡ true) ↔ Later v f
unfolding later
later_iff Never f = ((λ e. tt), (λ l. refl))
later_iff (At g) f = less_iff f g

-- ---- products of small fractions fit 64 bits

pub small_cross : {f g : Fraction} → Small f → Small g → f.num * g.den < 9223372036854775808
small_cross {f} {g} p q = let h : f.num * g.den ≤ 8589672450 * 1073610756 = mul-le-mul p.num_small q.den_small in omega arith
