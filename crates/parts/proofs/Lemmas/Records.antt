-- What question 8 says of one record: each test of its definition as a statement.
use Rattle.std.specs.Prelude.{ℕ, ◌<◌, ◌≡◌, Bool, true, ◌&&◌, ◌||◌, List, ltb, eqb}
use Rattle.std.proofs.Common.{subst, inl, inr, arith, ltb-true, eqb-true}
use Rattle.lists.proofs.TestLaws.{both_iff, either, every_at}
use Rattle.fractions.specs.Order.{later, Small}
use Rattle.marks.specs.Marks.{outranks}
use Rattle.marks.specs.Pairs.{pair_value}
use Rattle.marks.proofs.PairLaws.{pairs_small}
use Rattle.elimination.specs.Records.{fraction_of, is_never, value_of, mark_record, value_at, eliminator_at, num_at, den_at, fraction_at}
use Rattle.elimination.specs.declared.Record.{Record}
use Rattle.elimination.specs.Reel.{Reel, GoodReel}
use Rattle.parts.specs.Questions.{exactly, names_right, record_right, is_schedule}

-- a record that names a mark rightly
pub record Named (r : Reel) (d : Record) (m : ℕ) : Type 0 where
  pub below : d.eliminator < r.count
  pub higher : outranks r.edition r.marks d.eliminator m ≡ true
  pub num_is : d.num ≡ (pair_value r.shape r.marks r.popups d.eliminator m).num
  pub den_is : d.den ≡ (pair_value r.shape r.marks r.popups d.eliminator m).den

pub named : (r : Reel) (d : Record) (m : ℕ) → names_right r d m ≡ true → Named r d m
unfolding names_right
named r d m e =
    let by = d.eliminator in
    let t = pair_value r.shape r.marks r.popups by m in
    let a = (both_iff _ (exactly (fraction_of d) t)).0 e in
    let b = (both_iff (ltb by r.count) (outranks r.edition r.marks by m)).0 a.0 in
    let c = (both_iff (eqb d.num t.num) (eqb d.den t.den)).0 a.1 in
    record {
      below = ltb-true by r.count b.0;
      higher = b.1;
      num_is = eqb-true d.num t.num c.0;
      den_is = eqb-true d.den t.den c.1;
    }

-- question 8 of mark m, asked of its record d as it was read
pub right_of_lem : (r : Reel) (p : List ℕ) (m : ℕ) {d : Record} → d ≡ mark_record p m → {b : Bool}
    → b ≡ (is_never d || (names_right r d m && later (value_at p d.eliminator) (value_of d))) → b ≡ record_right r p m
unfolding record_right value_at
right_of_lem r p m e {b} =
    subst (λ (d : Record). b ≡ (is_never d || (names_right r d m && later (value_at p d.eliminator) (value_of d)))) e

-- Both numbers of a record that passed are those of 'never' or of a pair, so they are small.
pub record_small : (r : Reel) (p : List ℕ) (m : ℕ) → GoodReel r → is_schedule r p ≡ true → m < r.count → Small (fraction_at p m)
unfolding is_schedule record_right is_never
record_small r p m right e l =
    let by = eliminator_at p m in
    elim (either (is_never (mark_record p m)) _ (every_at (record_right r p) r.count e m l)) [
      | inl never ↦
          (let z = (both_iff (eqb (num_at p m) 0) (eqb (den_at p m) 0)).0 ((both_iff (eqb by 65535) _).0 never).1 in
          record { num_small = omega (arith, eqb-true (num_at p m) 0 z.0); den_small = omega (arith, eqb-true (den_at p m) 0 z.1) })
      | inr rest ↦
          (let k = named r (mark_record p m) m ((both_iff (names_right r (mark_record p m) m) _).0 rest).0 in
          let small =
          pairs_small r.shape r.marks r.popups by m right.bytes (right.good.each by k.below).used (right.good.each m l).used
          (right.popped.each by k.below) (right.popped.each m l) in
          record { num_small = omega (arith, k.num_is, small.num_small); den_small = omega (arith, k.den_is, small.den_small) })
    ]
