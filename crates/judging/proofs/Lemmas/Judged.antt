-- The judge's tests as statements. Assumes nothing.
use Rattle.std.specs.Prelude.{ℕ, ◌<◌, ◌≤◌, ◌≡◌, refl, Bool, true, false, not, ◌&&◌, ◌||◌, ◌↔◌, ◌≢◌, eqb}
use Rattle.std.proofs.lemmas.Bool.{false≢true}
use native.Mathlib.Omega.{arith}
use Rattle.std.proofs.Math.Decide.{dec_lt, ℕ_discrete}
use borrow.Author.Tests.{ltb-true, lt-ltb, eq-eqb, ne_eqb}
use Rattle.std.proofs.Math.Dec.{ltb}
use Rattle.lists.specs.Tests.{every}
use Rattle.lists.proofs.TestLaws.{both_iff, every_of, every_at}
use Rattle.fractions.specs.declared.Fraction.{Fraction}
use Rattle.fractions.specs.declared.Value.{Value}
use Rattle.fractions.specs.declared.Value.TheVariants.{Never, At}
use Rattle.fractions.specs.Order.{same, later, Same, Later}
use Rattle.fractions.proofs.Laws.{same_iff, later_iff}
use Rattle.elimination.specs.Marks.{Marks}
use Rattle.elimination.specs.Rules.{FirstRule}
use Rattle.judging.specs.Judge.{some, if_removed, both_later, first_rule, causes, second_rule, names_highest, judge}

-- ---- tests

pub not_iff : (b : Bool) → (not b ≡ true) ↔ (b ≡ true → ⊥)
not_iff true = ((λ e p. false≢true e), (λ h. absurd (h refl)))
not_iff false = ((λ e p. false≢true p), (λ h. refl))

some_of : (test : ℕ → Bool) (n i : ℕ) → i < n → test i ≡ true → some test n ≡ true
unfolding some
some_of test n i l e =
    (not_iff (every (λ i. not (test i)) n)).1 (λ h. (not_iff (test i)).0 (every_at (λ i. not (test i)) n h i l) e)

removed_iff : (v : Value) (test : Fraction → Bool) → (if_removed v test ≡ true) ↔ ((f : Fraction) → v ≡ At f → test f ≡ true)
removed_iff Never test = ((λ e f q. absurd (let z : ◌≡◌ {A = ℕ} 0 1 = cc in omega arith)), (λ h. refl))
removed_iff (At g) test = ((λ e f q. let z : g ≡ f = cc in rw (← z) e), (λ h. h g refl))

module _ (M : Marks) (r : ℕ → Value) where
  open M use {count as n, key, value}

  -- ---- the first rule

  both_later_iff : (i j : ℕ) → (both_later M r i j ≡ true) ↔ (Later (r i) (value i j) × Later (r j) (value i j))
  unfolding both_later
  both_later_iff i j =
      let b = both_iff (later (r i) (At (value i j))) (later (r j) (At (value i j))) in (
        (λ e. ((later_iff (r i) (value i j)).0 (b.0 e).0, (later_iff (r j) (value i j)).0 (b.0 e).1)),
        (λ p. b.1 ((later_iff (r i) (value i j)).1 p.0, (later_iff (r j) (value i j)).1 p.1)),
      )

  pair_iff : (i j : ℕ) → (eqb i j || not (both_later M r i j) ≡ true) ↔ (i ≢ j → Later (r i) (value i j) → Later (r j) (value i j) → ⊥)
  pair_iff i j =
      elim (ℕ_discrete i j) [
        | yes e ↦ ((λ h d. absurd (d e)), (λ h. rw (eq-eqb i j e)))
        | no d ↦ (
          (λ h k a b. (not_iff (both_later M r i j)).0 (rw (ne_eqb i j d) at h) ((both_later_iff i j).1 (a, b))),
          (λ h. rw (ne_eqb i j d) ((not_iff (both_later M r i j)).1 (λ e. let l = (both_later_iff i j).0 e in h d l.0 l.1))),
        )
      ]

  first_iff : (first_rule M r ≡ true) ↔ FirstRule M r
  unfolding first_rule
  first_iff = (
    (λ e i j hi hj. (pair_iff i j).0 (every_at _ n (every_at _ n e i hi) j hj)),
    (λ h. every_of _ n (λ i hi. every_of _ n (λ j hj. (pair_iff i j).1 (h i j hi hj)))),
  )

  -- ---- the marks that have m's value with it

  pub record Causes (m : ℕ) (f : Fraction) (g : ℕ) : Type 0 where
    pub outranks : key g < key m
    pub equal : Same f (value g m)
    pub later : Later (r g) (value g m)

  causes_iff : (m : ℕ) (f : Fraction) (g : ℕ) → (causes M r m f g ≡ true) ↔ Causes m f g
  unfolding causes
  causes_iff m f g = (
    (λ e.
        let a = (both_iff (ltb (key g) (key m)) _).0 e in
        let b = (both_iff (same f (value g m)) _).0 a.1 in
        record {
          outranks = ltb-true _ _ a.0;
          equal = (same_iff f (value g m)).0 b.0;
          later = (later_iff (r g) (value g m)).0 b.1;
        }),
    (λ c.
        (both_iff (ltb (key g) (key m)) _).1 (
          lt-ltb _ _ c.outranks,
          (both_iff (same f (value g m)) _).1 ((same_iff f (value g m)).1 c.equal, (later_iff (r g) (value g m)).1 c.later),
        )),
  )

  module _ (by : ℕ → ℕ) where
    -- m names the highest-ranked of them
    pub record Highest (m : ℕ) (f : Fraction) : Type 0 where
      pub inside : by m < n
      pub named : Causes m f (by m)
      pub top : (g : ℕ) → g < n → Causes m f g → key (by m) ≤ key g

    highest_iff : (m : ℕ) (f : Fraction) → (names_highest M r by m f ≡ true) ↔ Highest m f
    unfolding names_highest
    highest_iff m f = (
      (λ e.
          let a = (both_iff (ltb (by m) n && causes M r m f (by m)) _).0 e in
          let b = (both_iff (ltb (by m) n) _).0 a.0 in
          record {
            inside = ltb-true _ _ b.0;
            named = (causes_iff m f (by m)).0 b.1;
            top = λ g hg c.
                elim (dec_lt (key g) (key (by m))) [
                  | yes l ↦
                      absurd ((not_iff (causes M r m f g && ltb (key g) (key (by m)))).0 (every_at _ n a.1 g hg)
                      ((both_iff (causes M r m f g) _).1 ((causes_iff m f g).1 c, lt-ltb _ _ l)))
                  | no l ↦ omega arith
                ];
          }),
      (λ h.
          (both_iff (ltb (by m) n && causes M r m f (by m)) _).1 (
            (both_iff (ltb (by m) n) _).1 (lt-ltb _ _ h.inside, (causes_iff m f (by m)).1 h.named),
            every_of _ n (λ g hg. (not_iff (causes M r m f g && ltb (key g) (key (by m)))).1 (λ e.
                let a = (both_iff (causes M r m f g) _).0 e in
                omega (arith, h.top g hg ((causes_iff m f g).0 a.0), ltb-true (key g) (key (by m)) a.1))),
          )),
    )

    abbrev pub AllHighest : Type 0
    AllHighest = (m : ℕ) → m < n → (f : Fraction) → r m ≡ At f → Highest m f

    names_iff : (every (λ m. if_removed (r m) (names_highest M r by m)) n ≡ true) ↔ AllHighest
    names_iff = (
      (λ e m hm f q. (highest_iff m f).0 ((removed_iff (r m) (names_highest M r by m)).0 (every_at _ n e m hm) f q)),
      (λ h. every_of _ n (λ m hm. (removed_iff (r m) (names_highest M r by m)).1 (λ f q. (highest_iff m f).1 (h m hm f q)))),
    )

    -- where each removed mark names rightly, the second rule holds
    second_of : AllHighest → second_rule M r ≡ true
    unfolding second_rule
    second_of h =
        every_of _ n (λ m hm. (removed_iff (r m) _).1 (λ f q.
        let x = h m hm f q in
        some_of (causes M r m f) n (by m) x.inside ((causes_iff m f (by m)).1 x.named)))

    -- ---- the whole

    pub judge_iff : (judge M r by ≡ true) ↔ (FirstRule M r × AllHighest)
    unfolding judge
    judge_iff = (
      (λ e.
          let a = (both_iff (first_rule M r) _).0 e in
          let b = (both_iff (second_rule M r) _).0 a.1 in
          (first_iff.0 a.0, names_iff.0 b.1)),
      (λ p. (both_iff (first_rule M r) _).1 (first_iff.1 p.0, (both_iff (second_rule M r) _).1 (second_of p.1, names_iff.1 p.1))),
    )
