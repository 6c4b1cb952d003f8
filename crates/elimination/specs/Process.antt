-- 01's process: z grows from 0, and at each first touch the lower-ranked of two living marks is removed.
use Rattle.std.specs.Prelude.{ℕ, zero, suc, Bool, true, false, cond, ◌&&◌, ◌||◌, ltb, eqb}
use Rattle.std.proofs.Math.Option.{Option, none, some}
use Rattle.fractions.specs.declared.Fraction.{Fraction}
use Rattle.fractions.specs.declared.Value.{Value}
use Rattle.fractions.specs.declared.Value.TheVariants.{Never, At}
use Rattle.fractions.specs.Order.{less, same}
use Rattle.elimination.specs.Marks.{Marks}

-- ---- what becomes of a mark

-- It stays for good; or it is gone, with its eliminator's number and its removal value.
pub data Removal : Type 0 where
  stays : Removal
  gone : ℕ → Fraction → Removal

-- the removal value
abbrev pub when : Removal → Value
when stays = Never
when (gone h f) = At f

abbrev pub lives : Removal → Bool
lives stays = true
lives (gone h f) = false

-- ---- pairs and their order

-- two marks, the first of higher rank
pub record Pair : Type 0 where
  pub high : ℕ
  pub low : ℕ

infix 60 ◌over◌
abbrev pub ◌over◌ : ℕ → ℕ → Pair
h over l = record { high = h; low = l }

-- ---- the least of the offers 0, .., k - 1 by a test; the first of equals; an offer of `none` is passed over

module _ {A : Type 0} (before : A → A → Bool) where
  abbrev pub better : Option A → Option A → Option A
  better none y = y
  better (some x) none = some x
  better (some x) (some y) = some (cond (before y x) y x)

  unfoldable pub least : (ℕ → Option A) → ℕ → Option A
  least f zero = none
  least f (suc k) = better (least f k) (f k)

-- ---- the process

-- `s` with `r` at mark l
unfoldable pub put : (ℕ → Removal) → ℕ → Removal → ℕ → Removal
put s l r i = cond (eqb i l) r (s i)

module _ (M : Marks) where
  open M use {count as n, key, value}

  abbrev pub worth : Pair → Fraction
  worth p = value p.high p.low

  -- "it takes the least touching value; among equal values the pair whose higher mark ranks highest, then the pair whose lower mark ranks highest"
  unfoldable pub before : Pair → Pair → Bool
  before p q =
      less (worth p) (worth q)
      || (same (worth p) (worth q) && (ltb (key p.high) (key q.high) || (eqb (key p.high) (key q.high) && ltb (key p.low) (key q.low))))

  -- the pair of `h` and `l`, where both live and `h` outranks `l`
  unfoldable pub pair : (ℕ → Removal) → ℕ → ℕ → Option Pair
  pair s h l = cond (lives (s h) && lives (s l) && ltb (key h) (key l)) (some (h over l)) none

  -- "Of all touching pairs of living marks": the one that is taken next
  unfoldable pub next : (ℕ → Removal) → Option Pair
  next s = least before (λ h. least before (pair s h) n) n

  -- "The lower-ranked mark of that pair is removed at that value, and the other is its eliminator."
  abbrev pub remove : (ℕ → Removal) → Option Pair → ℕ → Removal
  remove s none = s
  remove s (some p) = put s p.low (gone p.high (worth p))

  unfoldable pub run : ℕ → ℕ → Removal
  run zero = λ i. stays
  run (suc k) = remove (run k) (next (run k))

  -- "It goes on until no pair lives": each step removes a mark, so that n steps are enough.
  unfoldable pub process : ℕ → Removal
  process = run n
