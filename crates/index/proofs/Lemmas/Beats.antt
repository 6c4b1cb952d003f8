-- Who beats whom is a strict total order, for all bytes: by 'removed no later', which is total and transitive, and then by number.
use Rattle.std.specs.Prelude.{ℕ, ◌<◌, ◌≤◌, ◌≡◌, refl, List, Bool, true, false, ◌&&◌, ◌||◌, ltb, eqb}
use Rattle.std.proofs.Common.{arith, sym, ◌∙◌, true≢false, inl, inr}
use Rattle.std.proofs.lemmas.Bool.{false≢true}
use borrow.Author.Tests.{ltb-true, ltb-false, eqb-false}
use Rattle.lists.proofs.TestLaws.{by_cases}
use Rattle.fractions.specs.declared.Fraction.{Fraction}
use Rattle.fractions.specs.declared.Value.{Value}
use Rattle.fractions.specs.declared.Value.TheVariants.{Never, At}
use Rattle.fractions.specs.Order.{later, level, Less, AtMost, Same, Later, Sound}
use Rattle.fractions.proofs.Laws.{order, at_most_trans, less_at_most, less_iff, same_iff, later_iff}
use Rattle.elimination.specs.Records.{den_at, value_at}
use Rattle.index.specs.Index.{beats}
use Rattle.index.specs.Valid.{Order}

-- ---- removed no later

-- v is removed no later than w
abbrev NoLater : Value → Value → Type 0
NoLater v Never = Unit {0}
NoLater Never (At g) = ⊥
NoLater (At f) (At g) = AtMost f g

later_yes : (v w : Value) → later v w ≡ true → NoLater w v × (NoLater v w → ⊥)
unfolding later
later_yes Never Never h = absurd (false≢true h)
later_yes Never (At g) h = (tt, λ e. e)
later_yes (At f) Never h = absurd (false≢true h)
later_yes (At f) (At g) h = let l : Less g f = (less_iff g f).0 h in (omega arith, λ e. omega arith)

later_no : (v w : Value) → later v w ≡ false → NoLater v w
unfolding later
later_no Never Never h = tt
later_no Never (At g) h = absurd (true≢false h)
later_no (At f) Never h = tt
later_no (At f) (At g) h = elim (order f g) [ inl l ↦ l | inr l ↦ absurd (true≢false (sym ((less_iff g f).1 l) ∙ h)) ]

level_yes : (v w : Value) → level v w ≡ true → NoLater w v
unfolding level
level_yes Never Never h = tt
level_yes Never (At g) h = absurd (false≢true h)
level_yes (At f) Never h = absurd (false≢true h)
level_yes (At f) (At g) h = let l : Same f g = (same_iff f g).0 h in omega arith

level_no : (v w : Value) → level v w ≡ false → NoLater v w → NoLater w v → ⊥
unfolding level
level_no Never Never h p q = true≢false h
level_no Never (At g) h p q = p
level_no (At f) Never h p q = q
level_no (At f) (At g) h p q = let l : Same f g = omega arith in true≢false (sym ((same_iff f g).1 l) ∙ h)

no_later_trans : (u v w : Value) → Sound v → NoLater u v → NoLater v w → NoLater u w
no_later_trans u v Never d p q = tt
no_later_trans u Never (At h) d p q = absurd q
no_later_trans Never (At g) (At h) d p q = absurd p
no_later_trans (At f) (At g) (At h) d p q = at_most_trans {g = g} d p q

-- ---- who beats whom

module _ (v w : Value) (a b : ℕ) where
  ahead : later v w || (level v w && ltb a b) ≡ true → NoLater w v × (NoLater v w → a < b)
  ahead = go (later v w) (level v w) refl refl
    where
      go : (l e : Bool) → later v w ≡ l → level v w ≡ e → l || (e && ltb a b) ≡ true → NoLater w v × (NoLater v w → a < b)
      go true e p q h = ((later_yes v w p).0, λ n. absurd ((later_yes v w p).1 n))
      go false true p q h = (level_yes v w q, λ n. ltb-true a b h)
      go false false p q h = absurd (false≢true h)

  behind : later v w || (level v w && ltb a b) ≡ false → NoLater v w × (NoLater w v → b ≤ a)
  behind = go (later v w) (level v w) refl refl
    where
      go : (l e : Bool) → later v w ≡ l → level v w ≡ e → l || (e && ltb a b) ≡ false → NoLater v w × (NoLater w v → b ≤ a)
      go true e p q h = absurd (true≢false h)
      go false true p q h = (later_no v w p, λ n. ltb-false a b h)
      go false false p q h = (later_no v w p, λ n. absurd (level_no v w q (later_no v w p) n))

module _ (p : List ℕ) where
  value_sound : (m : ℕ) → Sound (value_at p m)
  unfolding value_at
  value_sound m = by_cases (eqb (den_at p m) 0) (λ e. rw e tt) (λ e. rw e (omega (arith, eqb-false (den_at p m) 0 e)))

  -- mark a is removed no later than mark b
  abbrev Within : ℕ → ℕ → Type 0
  Within a b = NoLater (value_at p a) (value_at p b)

  within_trans : (a b c : ℕ) → Within a b → Within b c → Within a c
  within_trans a b c = no_later_trans (value_at p a) (value_at p b) (value_at p c) (value_sound b)

  -- who beats is removed no sooner, and where the values are equal is the lower number
  beats_yes : (a b : ℕ) → beats p a b ≡ true → Within b a × (Within a b → a < b)
  unfolding beats
  beats_yes a b = ahead (value_at p a) (value_at p b) a b

  beats_no : (a b : ℕ) → beats p a b ≡ false → Within a b × (Within b a → b ≤ a)
  unfolding beats
  beats_no a b = behind (value_at p a) (value_at p b) a b

  pub beats_order : Order (beats p)
  beats_order = record { asym = asym; trans = trans; total = total }
    where
      asym : (a b : ℕ) → beats p a b ≡ true → beats p b a ≡ false
      asym a b h = by_cases (beats p b a) (λ q. absurd (clash q)) (λ q. q)
        where
          clash : beats p b a ≡ true → ⊥
          clash q =
              let x = beats_yes a b h in
              let y = beats_yes b a q in
              omega (arith, x.1 y.0, y.1 x.0)

      trans : (a b c : ℕ) → beats p a b ≡ true → beats p b c ≡ true → beats p a c ≡ true
      trans a b c h k = by_cases (beats p a c) (λ q. q) (λ q. absurd (clash q))
        where
          -- otherwise all three are equal, and a < b < c ≤ a
          clash : beats p a c ≡ false → ⊥
          clash q =
              let x = beats_yes a b h in
              let y = beats_yes b c k in
              let z = beats_no a c q in
              omega (
                arith,
                x.1 (within_trans a c b z.0 y.0),
                y.1 (within_trans b a c x.0 z.0),
                z.1 (within_trans c b a y.0 x.0),
              )

      total : (a b : ℕ) → beats p a b ≡ false → beats p b a ≡ false → a ≡ b
      total a b h k =
          let x = beats_no a b h in
          let y = beats_no b a k in
          omega (arith, x.1 y.0, y.1 x.0)

  -- who beats a mark that is removed later than f is removed later than f
  pub beats_later : (a b : ℕ) (f : Fraction) → beats p a b ≡ true → later (value_at p b) (At f) ≡ true
      → later (value_at p a) (At f) ≡ true
  beats_later a b f h l =
      (later_iff (value_at p a) f).1
      (up (value_at p b) (value_at p a) (value_sound a) (beats_yes a b h).0 ((later_iff (value_at p b) f).0 l))
    where
      up : (v w : Value) → Sound w → NoLater v w → Later v f → Later w f
      up v Never d n k = tt
      up Never (At g) d n k = absurd n
      up (At e) (At g) d n k = less_at_most {g = e} d k n
