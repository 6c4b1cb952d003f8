-- Nobody clashes exactly where the judge accepts: a pair that breaks a rule is seen from the mark that is removed first. Assumes nothing.
use Rattle.std.specs.Prelude.{ℕ, ◌<◌, ◌≤◌, ◌≡◌, refl, true, List, ◌↔◌, ◌≢◌}
use Rattle.std.proofs.Common.{sym, ap, inl, inr, arith}
use Rattle.std.proofs.Math.Decide.{dec_lt}
use Rattle.lists.proofs.TestLaws.{same_test, every_of, every_at}
use Rattle.numbers.specs.Little.{Bytes}
use Rattle.fractions.specs.declared.Fraction.{Fraction}
use Rattle.fractions.specs.declared.Value.{Value}
use Rattle.fractions.specs.declared.Value.TheVariants.{Never, At}
use Rattle.fractions.specs.Order.{Less, AtMost, Same, Later}
use Rattle.fractions.proofs.Laws.{order, at_most_less, later_iff}
use Rattle.marks.specs.Marks.{outranks, rank_key}
use Rattle.marks.proofs.Laws.{outranks_key}
use Rattle.marks.specs.Pairs.{pair_value}
use Rattle.marks.proofs.PairLaws.{pairs_positive, pairs_symmetric}
use Rattle.elimination.specs.Records.{eliminator_at, value_at}
use Rattle.elimination.specs.Reel.{Reel, marks_of}
use Rattle.elimination.specs.Rules.{FirstRule}
use Rattle.clashing.specs.Clash.{limit_of, limit_at, clash, Asked}
use Rattle.clashing.proofs.Laws.Right.{Named, right_of_lem, removed_den, exact}
use Rattle.clashing.proofs.Laws.Clash.{Clash, clash_there, clash_back, clash_later}
use Rattle.judging.specs.Judge.{judge, judge_schedule}
use Rattle.judging.specs.Search.{is_clear, all_clear}
use Rattle.judging.proofs.Lemmas.Judged.{not_iff, Causes, AllHighest, judge_iff}

later_limit : (v : Value) (f : Fraction) → 0 < f.den → Later v f ↔ Less f (limit_of v)
unfolding limit_of
later_limit Never f d = ((λ l. record { cross = omega arith }), (λ l. tt))
later_limit (At g) f d = ((λ l. l), (λ l. l))

module _ {r : Reel} {p : List ℕ} (a : Asked r p) (bytes : Bytes r.marks) where
  open r use {marks as s, count as n, edition, shape, popups}

  abbrev value : ℕ → ℕ → Fraction
  value = pair_value shape s popups

  abbrev by : ℕ → ℕ
  by = eliminator_at p

  few : n ≤ 4096
  few = a.marks.few

  rank_iff : (g m : ℕ) → g < n → m < n → (outranks edition s g m ≡ true) ↔ (rank_key edition s g < rank_key edition s m)
  rank_iff g m hg hm =
      outranks_key edition s g m bytes (omega (arith, few)) (omega (arith, few)) (a.marks.each g hg).used (a.marks.each m hm).used

  limit_iff : (g m i : ℕ) → Later (value_at p i) (value g m) ↔ Less (value g m) (limit_at p i)
  limit_iff g m i = later_limit (value_at p i) (value g m) (pairs_positive shape s popups g m)

  removed : (m : ℕ) (f : Fraction) → value_at p m ≡ At f → limit_at p m ≡ f
  unfolding limit_of
  removed m f e = rw e

  module _ (none : (m g : ℕ) → m < n → g < n → Clash r p m g → ⊥) where
    seen : (m g : ℕ) → m < n → g < n → g ≢ m → AtMost (limit_at p m) (limit_at p g) → Less (value g m) (limit_at p m) → ⊥
    seen m g hm hg d x l = none m g hm hg (record { other = d; stays = x; kind = inl l })

    clear_first : FirstRule (marks_of r) (value_at p)
    clear_first i j hi hj d x y =
        let li = (limit_iff i j i).0 x in
        let lj = (limit_iff i j j).0 y in
        elim (order (limit_at p j) (limit_at p i)) [
          | inl o ↦ seen j i hj hi d o lj
          | inr o ↦ seen i j hi hj (λ e. d (sym e)) (record { cross = omega (arith, o.cross) }) (rw (pairs_symmetric shape s popups j i) li)
        ]

    clear_names : AllHighest (marks_of r) (value_at p) by
    clear_names m hm f e =
        record { inside = k.below; named = named; top = top }
      where
        k : Named r p m
        k = (right_of_lem r p m a.right hm).names (removed_den p m f e)

        is : f ≡ value (by m) m
        is = exact r p a.right m f hm e

        named : Causes (marks_of r) (value_at p) m f (by m)
        named =
            record {
              outranks = (rank_iff (by m) m k.below hm).0 k.higher;
              equal = rw is (record { cross = refl });
              later = rw (← is) ((later_iff (value_at p (by m)) f).0 (rw e at k.stays));
            }

        -- f equals the pair value with g, and g is removed later
        at_most_lem : (g : ℕ) → Less (value g m) (limit_at p g) → Same f (value g m) → AtMost f (limit_at p g)
        at_most_lem g l q =
            let d : 0 < f.den = rw is (pairs_positive shape s popups (by m) m) in
            let y : Less f (limit_at p g) = at_most_less {f = f} {g = value g m} d (record { cross = omega (arith, q.cross) }) l in
            record { cross = omega (arith, y.cross) }

        top : (g : ℕ) → g < n → Causes (marks_of r) (value_at p) m f g → rank_key edition s (by m) ≤ rank_key edition s g
        top g hg c =
            elim (dec_lt (rank_key edition s g) (rank_key edition s (by m))) [
              | no l ↦ omega arith
              | yes l ↦
                  (let later = (limit_iff g m g).0 c.later in
                  absurd (none m g hm hg (record {
                    other = λ q. let z = ap (rank_key edition s) q in omega (arith, c.outranks);
                    stays = rw (removed m f e) (at_most_lem g later c.equal);
                    kind = inr (
                      rw (removed m f e) (record { cross = omega (arith, c.equal.cross) }),
                      rw (removed m f e) (record { cross = omega (arith, c.equal.cross) }),
                      later,
                      (rank_iff g m hg hm).1 c.outranks,
                      (rank_iff g (by m) hg k.below).1 l,
                    );
                  })))
            ]

  module _ (first : FirstRule (marks_of r) (value_at p)) (names : AllHighest (marks_of r) (value_at p) by) where
    -- a tie has m removed
    tie_removed : (m g : ℕ) → AtMost (limit_at p m) (value g m) → (v : Value) → value_at p m ≡ v → (f : Fraction) × (value_at p m ≡ At f)
    unfolding limit_of
    tie_removed m g x Never e =
        absurd (let y : AtMost (record { num = 1; den = 0 }) (value g m) = rw e at x in omega (arith, y.cross, pairs_positive shape s popups g m))
    tie_removed m g x (At f) e = (f, e)

    judged_none : (m g : ℕ) → m < n → g < n → Clash r p m g → ⊥
    judged_none m g hm hg c =
        let lg = (limit_iff g m g).1 (clash_later r p m g c) in
        elim c.kind [
          | inl l ↦ first g m hg hm c.other lg ((limit_iff g m m).1 l)
          | inr k ↦
              (let (f, e) = tie_removed m g k.1 (value_at p m) refl in
              let h = names m hm f e in
              let low : AtMost (value g m) f = rw (removed m f e) at k.0 in
              let high : AtMost f (value g m) = rw (removed m f e) at k.1 in
              let cause : Causes (marks_of r) (value_at p) m f g =
              record {
                outranks = (rank_iff g m hg hm).0 k.3;
                equal = record { cross = omega (arith, low.cross, high.cross) };
                later = lg;
              } in
              omega (arith, h.top g hg cause, (rank_iff g (by m) hg h.inside).0 k.4))
        ]

  none_iff : (all_clear r p ≡ true) ↔ ((m g : ℕ) → m < n → g < n → Clash r p m g → ⊥)
  unfolding all_clear is_clear
  none_iff = (
    (λ e m g hm hg c. (not_iff (clash r p m g)).0 (every_at _ n (every_at _ n e m hm) g hg) (clash_back r p m g c)),
    (λ h. every_of _ n (λ m hm. every_of _ n (λ g hg. (not_iff (clash r p m g)).1 (λ e. h m g hm hg (clash_there r p m g e))))),
  )

  -- the judge accepts exactly where nobody clashes
  pub judge_clear : all_clear r p ≡ judge_schedule r p
  unfolding judge_schedule
  judge_clear =
      let j = judge_iff (marks_of r) (value_at p) by in
      same_test (all_clear r p) (judge (marks_of r) (value_at p) by)
      (λ e. let h = none_iff.0 e in j.1 (clear_first h, clear_names h))
      (λ e. none_iff.1 (judged_none (j.0 e).0 (j.0 e).1))
