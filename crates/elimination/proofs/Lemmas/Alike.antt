-- The process of marks that are alike: step by step it takes the same pair. No rank need be distinct, and no value symmetric.
use Prim.Native.Nat.{ℕ, zero, suc, ◌<◌}
use Rattle.std.proofs.Math.Path.{◌≡◌, refl, subst}
use Rattle.std.specs.Prelude.{Bool, ◌&&◌, ◌↔◌, eqb}
use Rattle.std.proofs.Math.Bool.{true, false, cond}
use Rattle.std.proofs.Math.Option.{Option, none, some}
use Rattle.std.proofs.Common.{arith, lt-ltb, le-ltb, eq-eqb, ne_eqb}
use Rattle.std.proofs.Math.Decide.{dec_lt, ℕ_discrete}
use Rattle.std.proofs.Math.Dec.{ltb}
use Rattle.elimination.specs.Marks.{Marks}
use Rattle.elimination.specs.Process.{Removal, lives, Pair, ◌over◌, better, least, put, worth, before, pair, next, remove, run, process}
use Rattle.elimination.specs.Records.{records}
use Rattle.elimination.specs.Alike.{Alike}
use Rattle.elimination.proofs.Lemmas.Least.{least_from}
use Rattle.elimination.proofs.Lemmas.Ahead.{next_living}

-- ---- comparisons that agree

module _ (a b c d : ℕ) (up : (a < b) ↔ (c < d)) where
  same_ltb : ltb a b ≡ ltb c d
  same_ltb =
      elim (dec_lt a b) [
        | yes h ↦ rw (lt-ltb a b h, lt-ltb c d (up.0 h))
        | no h ↦ (let k : c < d → ⊥ = λ x. h (up.1 x) in rw (le-ltb a b (omega arith), le-ltb c d (omega arith)))
      ]

  module _ (down : (b < a) ↔ (d < c)) where
    same_eqb : eqb a b ≡ eqb c d
    same_eqb =
        elim (ℕ_discrete a b) [
          | yes e ↦
              (let k : c < d → ⊥ = λ x. let y = up.1 x in omega arith in
              let l : d < c → ⊥ = λ x. let y = down.1 x in omega arith in
              rw (eq-eqb a b e, eq-eqb c d (omega arith)))
          | no e ↦
              (let k : c ≡ d → ⊥ = λ q. elim (dec_lt a b) [
                | yes x ↦ (let y = up.0 x in omega arith)
                | no x ↦ (let y = down.0 (omega arith) in omega arith)
              ] in
              rw (ne_eqb a b e, ne_eqb c d k))
        ]

-- ---- the least of the same offers by tests that agree on them

module _ {A : Type 0} (test other : A → A → Bool) (In : A → Type 0) (agree : (x y : A) → In x → In y → test x y ≡ other x y) where
  better_alike : (x y : Option A) → ((a : A) → x ≡ some a → In a) → ((a : A) → y ≡ some a → In a) → better test x y ≡ better other x y
  better_alike none y p q = refl
  better_alike (some x) none p q = refl
  better_alike (some x) (some y) p q = rw (agree y x (q y refl) (p x refl))

  least_alike : (f g : ℕ → Option A) (k : ℕ) → ((i : ℕ) → i < k → f i ≡ g i) → ((i : ℕ) → i < k → (a : A) → f i ≡ some a → In a)
      → least test f k ≡ least other g k
  unfolding least
  least_alike f g zero same inside = refl
  least_alike f g (suc k) same inside =
      rw (← same k (omega arith), ← least_alike f g k (λ i h. same i (omega arith)) (λ i h. inside i (omega arith)))
      (better_alike (least test f k) (f k) below (inside k (omega arith)))
    where
      below : (a : A) → least test f k ≡ some a → In a
      below a e = let (i, h, q) = least_from test f k a e in inside i (omega arith) a q

-- ---- the process

module _ (M N : Marks) (like : Alike M N) where
  open M use {count as n, key, value}

  -- a pair of marks
  record In (p : Pair) : Type 0 where
    high_in : p.high < n
    low_in : p.low < n

  same_worth : (p : Pair) → In p → worth M p ≡ worth N p
  same_worth p i = like.values p.high p.low i.high_in i.low_in

  same_less : (i j : ℕ) → i < n → j < n → ltb (key i) (key j) ≡ ltb (N.key i) (N.key j)
  same_less i j hi hj = same_ltb (key i) (key j) (N.key i) (N.key j) (like.ranks i j hi hj)

  same_key : (i j : ℕ) → i < n → j < n → eqb (key i) (key j) ≡ eqb (N.key i) (N.key j)
  same_key i j hi hj = same_eqb (key i) (key j) (N.key i) (N.key j) (like.ranks i j hi hj) (like.ranks j i hj hi)

  same_before : (p q : Pair) → In p → In q → before M p q ≡ before N p q
  unfolding before
  same_before p q ip iq =
      rw (
        same_worth p ip,
        same_worth q iq,
        same_less p.high q.high ip.high_in iq.high_in,
        same_key p.high q.high ip.high_in iq.high_in,
        same_less p.low q.low ip.low_in iq.low_in,
      )

  module _ (s t : ℕ → Removal) (same : (i : ℕ) → i < n → s i ≡ t i) where
    same_pair : (h l : ℕ) → h < n → l < n → pair M s h l ≡ pair N t h l
    unfolding pair
    same_pair h l hh hl =
        rw (same h hh, same l hl, same_less h l hh hl)

    pair_in : (h l : ℕ) → h < n → l < n → (p : Pair) → pair M s h l ≡ some p → In p
    unfolding pair
    pair_in h l hh hl p e = go (lives (s h) && lives (s l) && ltb (key h) (key l)) e
      where
        go : (b : Bool) → cond b (some (h over l)) none ≡ some p → In p
        go true q = let r : h over l ≡ p = cc in subst In r (record { high_in = hh; low_in = hl })
        go false q = absurd (let z : ◌≡◌ {A = ℕ} 0 1 = cc in omega arith)

    chosen_in : (h : ℕ) → h < n → (p : Pair) → least (before M) (pair M s h) n ≡ some p → In p
    chosen_in h hh p e = let (l, hl, q) = least_from (before M) (pair M s h) n p e in pair_in h l hh hl p q

    same_chosen : (h : ℕ) → h < n → least (before M) (pair M s h) n ≡ least (before N) (pair N t h) n
    same_chosen h hh = least_alike (before M) (before N) In same_before (pair M s h) (pair N t h) n (λ l. same_pair h l hh) (λ l. pair_in h l hh)

    same_next : next M s ≡ next N t
    unfolding next
    same_next =
        subst (λ k. next M s ≡ least (before N) (λ h. least (before N) (pair N t h) k) k) like.counts
        (least_alike (before M) (before N) In same_before (λ h. least (before M) (pair M s h) n) (λ h. least (before N) (pair N t h) n) n same_chosen chosen_in)

    same_remove : (o : Option Pair) → ((p : Pair) → o ≡ some p → In p) → (i : ℕ) → i < n → remove M s o i ≡ remove N t o i
    unfolding put
    same_remove none inside i h = same i h
    same_remove (some p) inside i h = rw (same_worth p (inside p refl), same i h)

  same_run : (k i : ℕ) → i < n → run M k i ≡ run N k i
  unfolding run
  same_run zero i h = refl
  same_run (suc k) i h =
      rw (← same_next (run M k) (run N k) (same_run k))
      (same_remove (run M k) (run N k) (same_run k) (next M (run M k)) inside i h)
    where
      inside : (p : Pair) → next M (run M k) ≡ some p → In p
      inside p e = let l = next_living M (run M k) p e in record { high_in = l.high_in; low_in = l.low_in }

  pub same_process : (m : ℕ) → m < n → process M m ≡ process N m
  unfolding process
  same_process m h = subst (λ k. run M n m ≡ run N k m) like.counts (same_run n m h)

-- ---- its records

pub records_same : (s t : ℕ → Removal) (n : ℕ) → ((i : ℕ) → i < n → s i ≡ t i) → records s n ≡ records t n
unfolding records
records_same s t zero same = refl
records_same s t (suc n) same = rw (records_same s t n (λ i h. same i (omega arith)), same n (omega arith))
