-- What question 8 says of mark m's record in part 2, `p`. Assumes nothing.
use Rattle.std.specs.Prelude.{ℕ, ◌<◌, ◌≡◌, true, List, ltb, eqb}
use Rattle.std.proofs.Common.{sym, ◌∙◌, inl, inr, arith, ltb-true, eqb-true, eq-eqb, ne_eqb}
use Rattle.std.proofs.Math.Decide.{ℕ_discrete}
use Rattle.lists.proofs.TestLaws.{both_iff, either, every_at}
use Rattle.fractions.specs.declared.Fraction.{Fraction}
use Rattle.fractions.specs.declared.Value.TheVariants.{Never, At}
use Rattle.fractions.specs.Order.{later}
use Rattle.marks.specs.Marks.{outranks}
use Rattle.marks.specs.Pairs.{pair_value}
use Rattle.marks.proofs.PairLaws.{pairs_positive}
use Rattle.elimination.specs.Records.{is_never, mark_record, eliminator_at, num_at, den_at, fraction_at, value_at}
use Rattle.elimination.specs.Reel.{Reel}
use Rattle.parts.specs.Questions.{exactly, names_right, record_right, is_schedule}

-- it names a higher-ranked mark, with the numbers of their pair, and that mark is removed later
pub record Named (r : Reel) (p : List ℕ) (m : ℕ) : Type 0 where
  pub below : eliminator_at p m < r.count
  pub higher : outranks r.edition r.marks (eliminator_at p m) m ≡ true
  pub num_is : num_at p m ≡ (pair_value r.shape r.marks r.popups (eliminator_at p m) m).num
  pub den_is : den_at p m ≡ (pair_value r.shape r.marks r.popups (eliminator_at p m) m).den
  pub stays : later (value_at p (eliminator_at p m)) (value_at p m) ≡ true

-- or it is the 'never' record
pub record Right (r : Reel) (p : List ℕ) (m : ℕ) : Type 0 where
  pub never : den_at p m ≡ 0 → (eliminator_at p m ≡ 65535) × (num_at p m ≡ 0)
  pub names : 0 < den_at p m → Named r p m

pub right_of_lem : (r : Reel) (p : List ℕ) (m : ℕ) → is_schedule r p ≡ true → m < r.count → Right r p m
unfolding is_schedule record_right is_never names_right
right_of_lem r p m q l =
    let by = eliminator_at p m in
    let f = pair_value r.shape r.marks r.popups by m in
    elim (either (is_never (mark_record p m)) _ (every_at (record_right r p) r.count q m l)) [
      | inl e ↦
          (let a = (both_iff (eqb by 65535) _).0 e in
          let b = (both_iff (eqb (num_at p m) 0) (eqb (den_at p m) 0)).0 a.1 in
          let d : den_at p m ≡ 0 = eqb-true (den_at p m) 0 b.1 in
          record {
            never = λ z. (eqb-true by 65535 a.0, eqb-true (num_at p m) 0 b.0);
            names = λ z. absurd (omega arith);
          })
      | inr e ↦
          (let a = (both_iff (names_right r (mark_record p m) m) _).0 e in
          let b = (both_iff _ (exactly (fraction_at p m) f)).0 a.0 in
          let c = (both_iff (ltb by r.count) (outranks r.edition r.marks by m)).0 b.0 in
          let d = (both_iff (eqb (num_at p m) f.num) (eqb (den_at p m) f.den)).0 b.1 in
          let den : den_at p m ≡ f.den = eqb-true (den_at p m) f.den d.1 in
          record {
            never = λ z. absurd (omega (arith, pairs_positive r.shape r.marks r.popups by m));
            names = λ z. record {
              below = ltb-true by r.count c.0;
              higher = c.1;
              num_is = eqb-true (num_at p m) f.num d.0;
              den_is = den;
              stays = a.1;
            };
          })
    ]

-- a removed mark's record has a denominator
pub removed_den : (p : List ℕ) (m : ℕ) (f : Fraction) → value_at p m ≡ At f → 0 < den_at p m
unfolding value_at
removed_den p m f e =
    elim (ℕ_discrete (den_at p m) 0) [
      | yes z ↦ absurd (let x : Never ≡ At f = rw (eq-eqb (den_at p m) 0 z) at e in let c : ◌≡◌ {A = ℕ} 0 1 = cc in omega arith)
      | no z ↦ omega arith
    ]

-- and its value is the pair's, "as its two unreduced numbers"
pub exact : (r : Reel) (p : List ℕ) → is_schedule r p ≡ true → (m : ℕ) (f : Fraction) → m < r.count → value_at p m ≡ At f
    → f ≡ pair_value r.shape r.marks r.popups (eliminator_at p m) m
unfolding value_at
exact r p q m f l e =
    let d = removed_den p m f e in
    let x : At (fraction_at p m) ≡ At f = rw (ne_eqb (den_at p m) 0 (λ z. omega arith)) at e in
    let y : fraction_at p m ≡ f = cc in
    let k = (right_of_lem r p m q l).names d in
    sym y ∙ rw (k.num_is, k.den_is)
