-- The steps of the search of a block: what its root and its halves say of who clashes. Assumes nothing.
use Rattle.std.specs.Prelude.{ℕ, ◌+◌, ◌-◌, ◌*◌, ◌/◌, ◌<◌, ◌≤◌, ◌≡◌, refl, Bool, not, cond, ◌||◌, List, ◌≢◌, ◌⊎◌, eqb, get_or}
use Rattle.std.proofs.Math.Path.{ap}
use Rattle.std.proofs.Common.{◌∙◌, true≢false, arith}
use Rattle.std.proofs.Math.Bool.{true, false}
use Rattle.std.proofs.lemmas.Bool.{false≢true}
use Rattle.std.proofs.Math.Logic.{inl, inr}
use Rattle.std.proofs.Math.Decide.{dec_lt, ℕ_discrete}
use Rattle.lists.proofs.TestLaws.{by_cases}
use Rattle.fractions.specs.declared.Fraction.{Fraction}
use Rattle.fractions.specs.Order.{less}
use Rattle.fractions.proofs.Laws.{less_iff}
use Rattle.marks.specs.Marks.{used_at}
use Rattle.elimination.specs.Reel.{Reel}
use Rattle.index.specs.Index.{beats, coordinate}
use Rattle.index.specs.Blocks.{entry_at}
use Rattle.index.specs.Check.{AllBelow}
use Rattle.clashing.specs.declared.Subject.{Subject}
use Rattle.clashing.specs.Clash.{limit_at, clash, subject_of}
use Rattle.clashing.specs.Cuts.{is_over, gap_to, is_far, size_to_search}
use Rattle.clashing.proofs.Laws.Clash.{Clash}
use Rattle.clashing.proofs.Laws.Cuts.{no_clash, over_none, over_under, far_none}
use Rattle.judging.specs.Search.{Splits, none, node, Table, Searchable, Searched}

-- ---- a root that is not over

-- it is not removed before the subject
pub still_there : (tight : Bool) (w v : Fraction) → is_over tight w v ≡ false → less w v ≡ false
still_there tight w v e = cases tight (eqb w.num 0) (less v w) (less w v) refl refl refl e
  where
    cases : (t a b c : Bool) → eqb w.num 0 ≡ a → less v w ≡ b → less w v ≡ c → a || cond t (not b) c ≡ false → less w v ≡ false
    cases t true b c x y z e = absurd (true≢false e)
    cases false false b c x y z e = z ∙ e
    cases true false false c x y z e = absurd (true≢false e)
    cases true false true false x y z e = z
    cases true false true true x y z e = absurd (let l = (less_iff v w).0 y in let k = (less_iff w v).0 z in omega arith)

-- ---- the parts of a block

record Node (s p : List ℕ) (e z : ℕ → ℕ) (lo size : ℕ) (axis : Bool) : Type 0 where
  pub last : (i : ℕ) → lo < i → i < lo + size → beats p (e lo) (e i) ≡ true
  pub left_at : (i : ℕ) → lo < i → i < lo + 1 + size / 2 → coordinate s axis (e i) ≤ z lo
  pub right_at : (i : ℕ) → lo + 1 + size / 2 ≤ i → i < lo + size → z lo ≤ coordinate s axis (e i)
  pub left : Splits s p e z (lo + 1) (size / 2) (not axis)
  pub right : Splits s p e z (lo + 1 + size / 2) (size - 1 - size / 2) (not axis)

node_of : {s p : List ℕ} {e z : ℕ → ℕ} {lo size : ℕ} {axis : Bool} → size ≢ 0 → Splits s p e z lo size axis → Node s p e z lo size axis
node_of h none = absurd (h refl)
node_of h (node some last l r a b) = record { last = last; left_at = l; right_at = r; left = a; right = b }

abbrev start_of : Bool → ℕ → ℕ → ℕ
start_of left lo size = cond left (lo + 1) (lo + 1 + size / 2)

abbrev size_of : Bool → ℕ → ℕ
size_of left size = cond left (size / 2) (size - 1 - size / 2)

-- ---- what a subject has

module _ (shape : ℕ) (s popups p : List ℕ) (q : Subject) (bound : ℕ) (is : q ≡ subject_of shape s popups p bound q.m) where
  subject_place : (axis : Bool) → cond axis q.x q.y ≡ coordinate s axis q.m
  unfolding subject_of
  subject_place true = ap (λ (u : Subject). u.x) is
  subject_place false = ap (λ (u : Subject). u.y) is

  subject_reach : q.reach ≡ (used_at s q.m + bound) * (used_at s q.m + bound)
  unfolding subject_of
  subject_reach = ap (λ (u : Subject). u.reach) is

-- ---- a block

module _ {r : Reel} {p t z : List ℕ} {q : Subject} {lo size : ℕ} {axis : Bool} (a : Searchable r p t z q lo size axis) (some : size ≢ 0) where
  open r use {marks as s, count as n, shape, popups}

  at : Node s p (entry_at t) (λ i. get_or z i 0) lo size axis
  at = node_of some a.splits

  pub root_below : AllBelow t n → {root : ℕ} → root ≡ entry_at t lo → root < n
  root_below below e = rw e (below lo (omega (arith, a.there)))

  -- the root is over
  pub searched_over : {root : ℕ} {w : Fraction} → root ≡ entry_at t lo → w ≡ limit_at p root → is_over q.tight w q.value ≡ true → Searched r p t q lo size true
  searched_over {root} {w} e ew o =
      record {
        clear = λ u bound is i h k l. no_clash r p q.m (entry_at t i) (over_none r p q.m q.tight a.tight_is (entry_at t i) (each i h k));
        found = λ u. absurd (true≢false u);
      }
    where
      here : is_over q.tight (limit_at p (entry_at t lo)) (limit_at p q.m) ≡ true
      here = rw (← e, ← ew, ← a.subject.value_is) o

      each : (i : ℕ) → lo ≤ i → i < lo + size → is_over q.tight (limit_at p (entry_at t i)) (limit_at p q.m) ≡ true
      each i h k =
          elim (ℕ_discrete lo i) [
            | yes x ↦ rw (← x) here
            | no x ↦ over_under r p q.m q.tight a.tight_is (entry_at t lo) (entry_at t i) (at.last i (omega arith) k) here
          ]

  -- the root clashes
  pub searched_root : {root : ℕ} → root ≡ entry_at t lo → clash r p q.m root ≡ true → Searched r p t q lo size false
  searched_root e c =
      record {
        clear = λ u. absurd (false≢true u);
        found = λ u. (lo, omega arith, omega arith, rw (← e) c);
      }

  module _ (left : Bool) {m : ℕ} (is : m ≡ size_to_search q axis left (get_or z lo 0) (size_of left size)) where
    size_is : (m ≡ size_of left size) ⊎ ((m ≡ 0) × (is_far q axis left (get_or z lo 0) ≡ true))
    unfolding size_to_search
    size_is = by_cases (is_far q axis left (get_or z lo 0)) (λ f. inr (is ∙ rw f, f)) (λ f. inl (is ∙ rw f))

    half_fits : start_of left lo size + size_of left size ≤ lo + size
    half_fits = go left
      where
        go : (l : Bool) → start_of l lo size + size_of l size ≤ lo + size
        go true = omega arith
        go false = omega arith

    most : m ≤ size_of left size
    most = elim size_is [ inl e ↦ omega arith | inr e ↦ omega (arith, e.0) ]

    -- a half is smaller, and can be searched
    pub half_call : {top : ℕ} → size ≡ top → (m < top) × Searchable r p t z q (start_of left lo size) m (not axis)
    half_call is-top = (
      omega (arith, most, smaller left),
      record {
        subject = a.subject;
        fits = a.fits;
        tight_is = a.tight_is;
        shape_is = a.shape_is;
        there = omega (arith, most, half_fits, a.there);
        splits = elim size_is [ inl e ↦ rw e (whole left) | inr e ↦ rw e.0 none ];
      },
    )
      where
        smaller : (l : Bool) → size_of l size < size
        smaller true = omega arith
        smaller false = omega arith

        whole : (l : Bool) → Table s p t z (start_of l lo size) (size_of l size) (not axis)
        whole true = at.left
        whole false = at.right

    half_clear : Searched r p t q (start_of left lo size) m true → (bound : ℕ) → q ≡ subject_of shape s popups p bound q.m
        → (i : ℕ) → start_of left lo size ≤ i → i < start_of left lo size + size_of left size → used_at s (entry_at t i) ≤ bound
        → clash r p q.m (entry_at t i) ≡ false
    half_clear x bound qi i h k u =
        elim size_is [
          | inl e ↦ x.clear refl bound qi i h (omega (arith, e)) u
          | inr e ↦ no_clash r p q.m (entry_at t i) (far left h k e.1)
        ]
      where
        place : ℕ
        place = coordinate s axis q.m

        split : ℕ
        split = get_or z lo 0

        told : (l : Bool) → is_far q axis l split ≡ true
            → less (limit_at p q.m) (record { num = gap_to l place split * gap_to l place split; den = (used_at s q.m + bound) * (used_at s q.m + bound) }) ≡ true
        told l f = rw (subject_place shape s popups p q bound qi axis, subject_reach shape s popups p q bound qi, a.subject.value_is) at f

        far : (l : Bool) → start_of l lo size ≤ i → i < start_of l lo size + size_of l size → is_far q axis l split ≡ true → Clash r p q.m (entry_at t i) → ⊥
        far true h k f =
            far_none r p q.m (entry_at t i) axis (gap_to true place split) bound
            (let o : coordinate s axis (entry_at t i) ≤ split = at.left_at i (omega arith) (omega arith) in omega arith) u (told true f)
        far false h k f =
            far_none r p q.m (entry_at t i) axis (gap_to false place split) bound
            (let o : split ≤ coordinate s axis (entry_at t i) = at.right_at i (omega arith) (omega arith) in omega arith) u (told false f)

    -- a mark of a half clashes
    pub searched_half : Searched r p t q (start_of left lo size) m false → Searched r p t q lo size false
    searched_half x =
        record {
          clear = λ u. absurd (false≢true u);
          found = λ u. let (i, h, k, c) = x.found refl in (i, low left h, omega (arith, k, most, half_fits), c);
        }
      where
        low : (l : Bool) {i : ℕ} → start_of l lo size ≤ i → lo ≤ i
        low true h = omega arith
        low false h = omega arith

  -- the root does not clash, nor does a mark of the first half
  pub searched_both : {root l u : ℕ} {b : Bool} → root ≡ entry_at t lo → clash r p q.m root ≡ false
      → l ≡ size_to_search q axis true (get_or z lo 0) (size / 2) → Searched r p t q (lo + 1) l true
      → u ≡ size_to_search q axis false (get_or z lo 0) (size - 1 - size / 2) → Searched r p t q (lo + 1 + size / 2) u b
      → Searched r p t q lo size b
  searched_both {b = false} e c il xl iu xu = searched_half false iu xu
  searched_both {b = true} e c il xl iu xu =
      record {
        clear = λ v bound qi i h k w.
            elim (ℕ_discrete lo i) [
              | yes x ↦ rw (← x, ← e) c
              | no x ↦
                  elim (dec_lt i (lo + 1 + size / 2)) [
                    | yes y ↦ half_clear true il xl bound qi i (omega arith) (omega arith) w
                    | no y ↦ half_clear false iu xu bound qi i (omega arith) (omega arith) w
                  ]
            ];
        found = λ v. absurd (true≢false v);
      }

pub searched_none : {r : Reel} {p t : List ℕ} {q : Subject} {lo size : ℕ} → size ≡ 0 → Searched r p t q lo size true
searched_none e =
    record { clear = λ u bound is i h k l. absurd (omega arith); found = λ u. absurd (true≢false u) }
