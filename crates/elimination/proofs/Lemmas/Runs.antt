-- The process ends in a settled list.
use Prim.Native.Nat.{ℕ, zero, suc, ◌+◌, ◌<◌, ◌≤◌}
use Rattle.std.specs.Prelude.{◌≡◌, true, false, cond, ◌⊎◌, ◌≢◌}
use Rattle.std.proofs.Math.Path.{refl}
use Rattle.std.proofs.Common.{ap, arith, eq-eqb, ne_eqb}
use Rattle.std.proofs.Math.Option.{Option, none, some}
use Rattle.std.proofs.Math.Logic.{inl, inr}
use Rattle.std.proofs.Math.Decide.{dec_lt, ℕ_discrete}
use Rattle.fractions.specs.declared.Fraction.{Fraction}
use Rattle.fractions.specs.Order.{Less, AtMost, Later}
use Rattle.elimination.specs.Marks.{Marks, Proper}
use Rattle.elimination.specs.Process.{Removal, stays, gone, when, lives, Pair, ◌over◌, worth, put, remove, next, run, process}
use Rattle.elimination.specs.Settled.{Ahead, Candidate, Best, Settled}
use Rattle.elimination.proofs.Lemmas.Ahead.{ahead_less, Living, next_living, next_ahead, next_none}

stays≢gone : (h : ℕ) (f : Fraction) → stays ≢ gone h f
stays≢gone h f e = let z : ◌≡◌ {A = ℕ} 0 1 = cc in omega arith

module _ (s : ℕ → Removal) (l : ℕ) (r : Removal) where
  put_same : put s l r l ≡ r
  unfolding put
  put_same = rw (eq-eqb l l refl)

  put_other : (i : ℕ) → i ≢ l → put s l r i ≡ s i
  unfolding put
  put_other i d = rw (ne_eqb i l d)

-- how many of the first k marks live
living : (ℕ → Removal) → ℕ → ℕ
living s zero = 0
living s (suc k) = cond (lives (s k)) 1 0 + living s k

living_le : (s : ℕ → Removal) (k : ℕ) → living s k ≤ k
unfolding living
living_le s zero = omega arith
living_le s (suc k) =
    elim (lives (s k)) as (λ b. cond b 1 0 + living s k ≤ suc k)
    [ true ↦ omega (arith, living_le s k) | false ↦ omega (arith, living_le s k) ]

living_pos : (s : ℕ → Removal) (k i : ℕ) → i < k → s i ≡ stays → 0 < living s k
unfolding living
living_pos s zero i h e = absurd (omega arith)
living_pos s (suc k) i h e =
    elim (ℕ_discrete i k)
    [ yes q ↦ (let z : s k ≡ stays = cc in rw z (omega arith)) | no d ↦ omega (arith, living_pos s k i (omega arith) e) ]

module _ (s : ℕ → Removal) (l h : ℕ) (f : Fraction) where
  living_past : (k : ℕ) → k ≤ l → living (put s l (gone h f)) k ≡ living s k
  unfolding living
  living_past zero b = refl
  living_past (suc k) b = rw (put_other s l (gone h f) k (omega arith), living_past k (omega arith))

  living_put : (k : ℕ) → l < k → s l ≡ stays → suc (living (put s l (gone h f)) k) ≡ living s k
  unfolding living
  living_put zero b e = absurd (omega arith)
  living_put (suc k) b e =
      elim (ℕ_discrete k l) [
        | yes q ↦
            (let now : put s l (gone h f) k ≡ gone h f = cc (put_same s l (gone h f)) in
            let was : s k ≡ stays = cc in
            rw (now, was) (omega (arith, living_past k (omega arith))))
        | no d ↦ rw (put_other s l (gone h f) k d) (omega (arith, living_put k (omega arith) e))
      ]

module _ (M : Marks) where
  open M use {count as n, key, value}

  -- what holds after each step
  record Inv (s : ℕ → Removal) : Type 0 where
    -- a removed mark went at most at its value with any mark that still lives
    fallen : (h m : ℕ) → h < n → m < n → (a : ℕ) (f : Fraction) → s h ≡ gone a f → s m ≡ stays → AtMost f (value h m)
    -- a removed mark is settled
    best : (m : ℕ) → m < n → (h : ℕ) (f : Fraction) → s m ≡ gone h f → Best M s m h f
    -- the pairs best so far go before any that still lives
    past : (m : ℕ) → m < n → (h : ℕ) (f : Fraction) → s m ≡ gone h f → (a b : ℕ) → Living M s a b → Ahead M (h over m) (a over b)

  start : Inv (λ i. stays)
  start =
      record {
        fallen = λ h m hh hm a f e x. absurd (stays≢gone a f e);
        best = λ m hm h f e. absurd (stays≢gone h f e);
        past = λ m hm h f e. absurd (stays≢gone h f e);
      }

  -- with no pair left the list is settled
  end : (s : ℕ → Removal) → Inv s → ((h l : ℕ) → Living M s h l → ⊥) → Settled M s
  end s v done m hm = record { stay = stay; go = v.best m hm }
    where
      stay : s m ≡ stays → (h : ℕ) → Candidate M s m h → ⊥
      stay e h t = cases (s h) refl
        where
          cases : (x : Removal) → s h ≡ x → ⊥
          cases stays q =
              done h m (search)
          cases (gone a f) q =
              let x = v.fallen h m t.inside hm a f q e in
              let y : Less (value h m) f = rw q at t.later in
              omega arith

  -- one step: the pair `p` is best in `s`
  module _ (ok : Proper M) (s : ℕ → Removal) (v : Inv s) (p : Pair) (live : Living M s p.high p.low)
      (least : (h l : ℕ) → Living M s h l → Ahead M p (h over l)) where
    abbrev t : ℕ → Removal
    t = remove M s (some p)

    at_low : t p.low ≡ gone p.high (worth M p)
    at_low = put_same s p.low (gone p.high (worth M p))

    elsewhere : (i : ℕ) → i ≢ p.low → t i ≡ s i
    elsewhere = put_other s p.low (gone p.high (worth M p))

    -- what a mark of the new list was in the old one
    was_living : (i : ℕ) → t i ≡ stays → (i ≢ p.low) × (s i ≡ stays)
    was_living i e =
        let d : i ≢ p.low = λ q. let z : ◌≡◌ {A = ℕ} 0 1 = cc at_low in omega arith in
        (d, cc (elsewhere i d))

    was_gone : (i a : ℕ) (f : Fraction) → t i ≡ gone a f
        → ((i ≡ p.low) × (a ≡ p.high) × (f ≡ worth M p)) ⊎ (s i ≡ gone a f)
    was_gone i a f e =
        elim (ℕ_discrete i p.low) [ yes q ↦ inl (q, cc at_low, cc at_low) | no d ↦ inr (cc (elsewhere i d)) ]

    was_later : (i : ℕ) (f : Fraction) → Later (when (t i)) f → Later (when (s i)) f
    was_later i f a =
        elim (ℕ_discrete i p.low)
        [ yes q ↦ (let e : s i ≡ stays = cc live.low_lives in rw e tt) | no d ↦ rw (elsewhere i d) at a ]

    was_pair : (a b : ℕ) → Living M t a b → Living M s a b
    was_pair a b x =
        let u = was_living a x.high_lives in
        let w = was_living b x.low_lives in
        search

    was_candidate : (m h : ℕ) → Candidate M t m h → Candidate M s m h
    was_candidate m h x = search was_later

    -- the removed mark's pair with any living one is no less
    low_fallen : (m : ℕ) → m < n → m ≢ p.low → s m ≡ stays → AtMost (worth M p) (value p.low m)
    low_fallen m hm d e =
        elim (dec_lt (key p.low) (key m)) [
          | yes o ↦ (least p.low m (search)).at_most
          | no a ↦
              elim (dec_lt (key m) (key p.low)) [
                | yes o ↦
                    rw (ok.symmetric p.low m)
                    (least m p.low (search)).at_most
                | no b ↦ absurd (d (ok.distinct m p.low hm live.low_in (omega arith)))
              ]
        ]

    step_fallen : (h m : ℕ) → h < n → m < n → (a : ℕ) (f : Fraction) → t h ≡ gone a f → t m ≡ stays → AtMost f (value h m)
    step_fallen h m hh hm a f e x =
        let (d, y) = was_living m x in
        elim (was_gone h a f e)
        [ inl (q, _, g) ↦ rw (g, q) (low_fallen m hm d y) | inr g ↦ v.fallen h m hh hm a f g y ]

    -- the new removal: its eliminator lives, and any other candidate to it makes a pair that lives too
    low_best : Best M t p.low p.high (worth M p)
    low_best = record { candidate = candidate; exact = refl; first = first }
      where
        candidate : Candidate M t p.low p.high
        candidate =
            let d : p.high ≢ p.low = λ q. let e = ap key q in let o = live.outranks in omega arith in
            let l : Later (when (t p.high)) (worth M p) = rw (elsewhere p.high d, live.high_lives) tt in
            search

        first : (g : ℕ) → Candidate M t p.low g → Ahead M p (g over p.low)
        first g x = cases (s g) refl
          where
            w : Candidate M s p.low g
            w = was_candidate p.low g x

            cases : (y : Removal) → s g ≡ y → Ahead M p (g over p.low)
            cases stays e =
                least g p.low
                (search)
            cases (gone a f) e =
                let u = v.fallen g p.low w.inside live.low_in a f e live.low_lives in
                let z : Less (value g p.low) f = rw e at w.later in
                absurd (omega arith)

    -- an earlier removal: its eliminator, if that goes now, goes later than it did
    still_best : (m h : ℕ) (f : Fraction) → m < n → s m ≡ gone h f → Best M t m h f
    still_best m h f hm e =
        record {
          candidate = let l = later in let y = x.candidate in search;
          exact = x.exact;
          first = λ g y. x.first g (was_candidate m g y);
        }
      where
        x : Best M s m h f
        x = v.best m hm h f e

        later : Later (when (t h)) (value h m)
        later =
            elim (ℕ_discrete h p.low) [
              | yes q ↦
                  (let o : key p.high < key h = rw q live.outranks in
                  let z = ahead_less M (v.past m hm h f e p.high p.low live) o in
                  let r : t h ≡ gone p.high (worth M p) = cc at_low in
                  rw r z)
              | no d ↦ rw (elsewhere h d) x.candidate.later
            ]

    step_best : (m : ℕ) → m < n → (h : ℕ) (f : Fraction) → t m ≡ gone h f → Best M t m h f
    step_best m hm h f e =
        elim (was_gone m h f e) [ inl (q, a, g) ↦ rw (q, a, g) low_best | inr g ↦ still_best m h f hm g ]

    step_past : (m : ℕ) → m < n → (h : ℕ) (f : Fraction) → t m ≡ gone h f → (a b : ℕ) → Living M t a b → Ahead M (h over m) (a over b)
    step_past m hm h f e a b x =
        elim (was_gone m h f e)
        [ inl (q, y, g) ↦ rw (q, y) (least a b (was_pair a b x)) | inr g ↦ v.past m hm h f g a b (was_pair a b x) ]

    step : Inv t
    step = search (step_fallen, step_best, step_past)

  module _ (ok : Proper M) where
    move : (s : ℕ → Removal) → Inv s → (o : Option Pair) → next M s ≡ o → Inv (remove M s o)
    move s v none e = v
    move s v (some p) e = step ok s v p (next_living M s p e) (next_ahead M ok s p e)

    ran : (k : ℕ) → Inv (run M k)
    unfolding run
    ran zero = start
    ran (suc k) = move (run M k) (ran k) (next M (run M k)) refl

    -- each step that finds a pair leaves one mark fewer alive
    fewer : (k : ℕ) → (next M (run M k) ≡ none) ⊎ (living (run M k) n + k ≤ n)
    unfolding run
    fewer zero = inr (omega (arith, living_le (λ i. stays) n))
    fewer (suc k) = elim (fewer k) [ inl e ↦ inl (rw e e) | inr b ↦ cases b (next M (run M k)) refl ]
      where
        s : ℕ → Removal
        s = run M k

        cases : living s n + k ≤ n → (o : Option Pair) → next M s ≡ o
            → (next M (remove M s o) ≡ none) ⊎ (living (remove M s o) n + suc k ≤ n)
        cases b none e = inl e
        cases b (some p) e =
            let a = next_living M s p e in
            inr (omega (arith, living_put s p.low p.high (worth M p) n a.low_in a.low_lives))

    pub ended : next M (run M n) ≡ none
    ended = elim (fewer n) [ inl e ↦ e | inr b ↦ cases b (next M (run M n)) refl ]
      where
        cases : living (run M n) n + n ≤ n → (o : Option Pair) → next M (run M n) ≡ o → next M (run M n) ≡ none
        cases b none e = e
        cases b (some p) e =
            let a = next_living M (run M n) p e in
            absurd (omega (arith, living_pos (run M n) n p.low a.low_in a.low_lives))

    pub process_settled : Settled M (process M)
    unfolding process
    process_settled = end (run M n) (ran n) (next_none M ok (run M n) ended)
