-- What a clash is, as a statement, and what is known of removal values as fractions. Assumes nothing.
use Rattle.std.specs.Prelude.{ℕ, ◌*◌, ◌<◌, ◌≡◌, Bool, true, false, not, List, ◌≢◌, ◌⊎◌, length, eqb}
use Rattle.std.proofs.Common.{sym, ap, ◌∙◌, true≢false, arith}
use Rattle.std.proofs.Math.Logic.{inl, inr}
use Rattle.std.proofs.Math.Decide.{ℕ_discrete}
use borrow.Author.Tests.{ltb-false, eqb-false, eq-eqb, ne_eqb, not-true}
use Rattle.lists.proofs.TestLaws.{by_cases, both_iff, either, or_right}
use Rattle.numbers.specs.Little.{Bytes}
use Rattle.fractions.specs.declared.Fraction.{Fraction}
use Rattle.fractions.specs.declared.Value.{Value}
use Rattle.fractions.specs.declared.Value.TheVariants.{Never, At}
use Rattle.fractions.specs.Order.{less, Less, AtMost, Sound, Small}
use Rattle.fractions.proofs.Laws.{order, less_at_most, less_iff}
use Rattle.marks.specs.Marks.{outranks}
use Rattle.marks.specs.Pairs.{popup_size, pair_value}
use Rattle.marks.specs.Good.{GoodMarks}
use Rattle.marks.proofs.PairLaws.{pairs_positive}
use Rattle.elimination.specs.Records.{den_at, eliminator_at, value_at}
use Rattle.elimination.specs.Reel.{Reel, GoodReel}
use Rattle.parts.proofs.Laws.{record_small}
use Rattle.clashing.specs.Clash.{limit_of, limit_at, clash, Asked, Proposable}
use Rattle.clashing.proofs.Laws.Right.{right_of_lem}

-- ---- values as fractions

pub value_sound : (p : List ℕ) (m : ℕ) → Sound (value_at p m)
unfolding value_at
value_sound p m =
    elim (ℕ_discrete (den_at p m) 0) [
      | yes z ↦ rw (eq-eqb (den_at p m) 0 z) tt
      | no z ↦ rw (ne_eqb (den_at p m) 0 z) (omega arith)
    ]

-- what was asked is a good reel
good_reel : {r : Reel} {p : List ℕ} → Asked r p → Bytes r.marks → GoodReel r
good_reel a b = record { good = a.marks; bytes = b; popped = a.popped }

-- what a proposal carries, beside its good marks, is what was asked
pub asked_of : {r : Reel} {p : List ℕ} → GoodMarks r.marks r.count → Proposable r p → Asked r p
asked_of {r} good a = record { marks = good; popped = record { sized = sized; each = a.popups_small }; schedule_long = a.schedule_long; right = a.right }
  where
    sized : (length r.popups ≡ 0) ⊎ (length r.popups ≡ popup_size * r.count)
    sized = elim (ℕ_discrete (length r.popups) 0) [ yes e ↦ inl e | no e ↦ inr (a.popups_sized e) ]

pub proposable : {r : Reel} {p : List ℕ} → Asked r p → Proposable r p
proposable a = record {
  popups_sized = λ e. elim a.popped.sized [ inl z ↦ absurd (e z) | inr l ↦ l ];
  popups_small = a.popped.each;
  schedule_long = a.schedule_long;
  right = a.right;
}

pub limit_small : {r : Reel} {p : List ℕ} → Asked r p → Bytes r.marks → {m : ℕ} → m < r.count → Small (limit_at p m)
unfolding value_at limit_of
limit_small {r} {p} a b {m} l =
    elim (ℕ_discrete (den_at p m) 0) [
      | yes z ↦ rw (eq-eqb (den_at p m) 0 z) (record { num_small = omega arith; den_small = omega arith })
      | no z ↦ rw (ne_eqb (den_at p m) 0 z) (record_small r p m (good_reel a b) a.right l)
    ]

-- a fraction that is not below m's value has m removed, and so m names a mark
pub tie_named : {r : Reel} {p : List ℕ} → Asked r p → {m : ℕ} → m < r.count → (f : Fraction) → 0 < f.den → less f (limit_at p m) ≡ false → eliminator_at p m < r.count
unfolding value_at limit_of less
tie_named {r} {p} a {m} hm f d e =
    elim (ℕ_discrete (den_at p m) 0) [
      | yes z ↦
          absurd (let l = ltb-false (f.num * 0) (1 * f.den) (rw (eq-eqb (den_at p m) 0 z) at e) in omega (arith, l))
      | no z ↦ ((right_of_lem r p m a.right hm).names (omega arith)).below
    ]

-- who is later than a limit that f is below is later than f
limit_up : (v w : Value) (f : Fraction) → 0 < f.den → Sound w → Less f (limit_of v) → AtMost (limit_of v) (limit_of w) → Less f (limit_of w)
unfolding limit_of
limit_up v Never f d sw l a = record { cross = omega arith }
limit_up v (At g) f d sw l a = less_at_most {h = g} sw l a

-- ---- what a clash is

pub record Clash (r : Reel) (p : List ℕ) (m g : ℕ) : Type 0 where
  pub other : g ≢ m
  pub stays : AtMost (limit_at p m) (limit_at p g)
  pub kind : Less (pair_value r.shape r.marks r.popups g m) (limit_at p m)
      ⊎ (AtMost (pair_value r.shape r.marks r.popups g m) (limit_at p m) × AtMost (limit_at p m) (pair_value r.shape r.marks r.popups g m)
      × Less (pair_value r.shape r.marks r.popups g m) (limit_at p g)
      × (outranks r.edition r.marks g m ≡ true) × (outranks r.edition r.marks g (eliminator_at p m) ≡ true))

pub no_less : (f g : Fraction) → not (less f g) ≡ true → AtMost g f
no_less f g e = elim (order g f) [ inl a ↦ a | inr l ↦ absurd (true≢false (sym ((less_iff f g).1 l) ∙ not-true (less f g) e)) ]

pub not_less : (f g : Fraction) → AtMost g f → not (less f g) ≡ true
not_less f g a = by_cases (less f g) (λ e. absurd (let l = (less_iff f g).0 e in omega arith)) (λ e. ap not e)

module _ (r : Reel) (p : List ℕ) (m g : ℕ) where
  abbrev v : Fraction
  v = limit_at p m

  abbrev w : Fraction
  w = limit_at p g

  abbrev f : Fraction
  f = pair_value r.shape r.marks r.popups g m

  abbrev higher : ℕ → Bool
  higher = outranks r.edition r.marks g

  pub clash_there : clash r p m g ≡ true → Clash r p m g
  unfolding clash
  clash_there e =
      let a = (both_iff (not (eqb g m)) _).0 e in
      let b = (both_iff (not (less w v)) _).0 a.1 in
      record {
        other = eqb-false g m (not-true (eqb g m) a.0);
        stays = no_less w v b.0;
        kind = elim (either (less f v) _ b.1) [
          | inl l ↦ inl ((less_iff f v).0 l)
          | inr x ↦
              (let c = (both_iff (not (less v f)) _).0 x in
              let d = (both_iff (less f w) _).0 c.1 in
              let k = (both_iff (higher m) (higher (eliminator_at p m))).0 d.1 in
              elim (order v f) [
                | inl y ↦ inr (no_less v f c.0, y, (less_iff f w).0 d.0, k.0, k.1)
                | inr y ↦ inl y
              ])
        ];
      }

  pub clash_back : Clash r p m g → clash r p m g ≡ true
  unfolding clash
  clash_back c =
      (both_iff (not (eqb g m)) _).1 (
        rw (ne_eqb g m c.other),
        (both_iff (not (less w v)) _).1 (
          not_less w v c.stays,
          elim c.kind [
            | inl l ↦ rw ((less_iff f v).1 l)
            | inr k ↦
                or_right (less f v) ((both_iff (not (less v f)) _).1 (
                  not_less v f k.0,
                  (both_iff (less f w) _).1 ((less_iff f w).1 k.2, (both_iff (higher m) _).1 (k.3, k.4)),
                ))
          ],
        ),
      )

  -- who clashes is removed later than the pair's value
  pub clash_later : Clash r p m g → Less f w
  clash_later c =
      elim c.kind [
        | inl l ↦ limit_up (value_at p m) (value_at p g) f (pairs_positive r.shape r.marks r.popups g m) (value_sound p g) l c.stays
        | inr k ↦ k.2
      ]
