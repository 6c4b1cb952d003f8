-- Runs of stores: one after another, turn by turn, and what they leave as it was. Assumes nothing.
use Rattle.std.specs.Prelude.{ℕ, suc, ◌+◌, ◌<◌, ◌≤◌, ◌≡◌, refl, List, [], ◌∷◌, ◌++◌, length, get_or, set, take, drop}
use Rattle.std.proofs.Common.{sym, ap, ◌∙◌, append-nil, add-zero, zero-add, add-one, arith, length-set, length-take, length-drop, drop_of_length-le, ext_get_or, drop-cons, get_or-take, get_or-drop, get_or-set_other}
use Rattle.std.proofs.lemmas.List.Edits.{sets, sets-eq}
use Rattle.lists.specs.Stores.{over, Clear, Kept}

-- ---- runs

-- one run of stores after another is the run of both
pub sets_append : (l : List ℕ) (i : ℕ) (v w : List ℕ) → sets l i (v ++ w) ≡ sets (sets l i v) (i + length v) w
sets_append l i [] w = rw (add-zero i)
sets_append l i (a ∷ v) w =
    let e : i + suc (length v) ≡ suc i + length v = omega arith in
    rw e (sets_append (set l i a) (suc i) v w)

-- One turn of a loop that stores the elements of v from index i on: the rest of v still makes the whole.
pub sets_turn : (l : List ℕ) (i j : ℕ) (v : List ℕ) → j < length v
    → sets (set l (i + j) (get_or v j 0)) (i + (j + 1)) (drop (j + 1) v) ≡ sets l (i + j) (drop j v)
sets_turn l i j v h =
    let e : i + (j + 1) ≡ suc (i + j) = omega arith in
    rw (e, add-one j, drop-cons v j 0 h)

-- what stands behind a run from the start is kept
pub over_sets : (w buffer : List ℕ) → length w ≤ length buffer → sets buffer 0 w ≡ over w buffer
unfolding over
over_sets w buffer h = rw (← zero-add (length w)) (sets-eq w buffer 0 (rw zero-add h))

-- a run as long as the buffer leaves nothing of it
pub sets_whole : (w buffer : List ℕ) → length w ≡ length buffer → sets buffer 0 w ≡ w
unfolding over
sets_whole w buffer e =
    over_sets w buffer (omega arith)
    ∙ ap (λ (l : List ℕ). w ++ l) (drop_of_length-le buffer {i = length w} (omega arith)) ∙ append-nil w

-- ---- ranges

-- clear of a range is clear of its parts
pub clear_in : {p w a b c d : ℕ} → Clear p w a b → a ≤ c → d ≤ b → Clear p w c d
clear_in o h l = omega arith

pub kept_none : (s : List ℕ) (a b : ℕ) → Kept s s a b
kept_none s a b = record { long = refl; rest = λ p o. refl }

-- a wider range
pub kept_wide : {s t : List ℕ} {a b c d : ℕ} → Kept s t c d → a ≤ c → d ≤ b → Kept s t a b
kept_wide k h l = record { long = k.long; rest = λ p o. k.rest p (omega arith) }

pub kept_then : {s t u : List ℕ} {a b : ℕ} → Kept s t a b → Kept t u a b → Kept s u a b
kept_then k l = record { long = l.long ∙ k.long; rest = λ p o. l.rest p o ∙ k.rest p o }

-- before the range and behind it
module _ {s t : List ℕ} {a b : ℕ} (k : Kept s t a b) where
  pub kept_cut : (from m : ℕ) → from + m ≤ a → take m (drop from t) ≡ take m (drop from s)
  kept_cut from m h =
      ext_get_or 0 (take m (drop from t)) (take m (drop from s))
      (omega (arith, length-take m (drop from t), length-take m (drop from s), length-drop from t, length-drop from s))
      (λ i g.
      let l : i < m = omega (arith, length-take m (drop from t)) in
      get_or-take m (drop from t) i 0 l ∙ get_or-drop from t i 0 ∙ k.rest (from + i) (omega arith)
      ∙ sym (get_or-take m (drop from s) i 0 l ∙ get_or-drop from s i 0))

  pub kept_take : (m : ℕ) → m ≤ a → take m t ≡ take m s
  kept_take m h = kept_cut 0 m (omega arith)

  pub kept_drop : (m : ℕ) → b ≤ m → drop m t ≡ drop m s
  kept_drop m h =
      ext_get_or 0 (drop m t) (drop m s) (omega (arith, length-drop m s, length-drop m t))
      (λ i g. get_or-drop m t i 0 ∙ k.rest (m + i) (omega arith) ∙ sym (get_or-drop m s i 0))

pub kept_one : (s : List ℕ) (i v : ℕ) → Kept s (set s i v) i (suc i)
kept_one s i v = record { long = length-set s i v; rest = λ p o. get_or-set_other s i p v 0 (omega arith) }

pub kept_sets : (vs s : List ℕ) (i : ℕ) → Kept s (sets s i vs) i (i + length vs)
kept_sets [] s i = kept_none s i (i + 0)
kept_sets (v ∷ vs) s i =
    kept_then (kept_wide (kept_one s i v) (omega arith) (omega arith))
    (kept_wide (kept_sets vs (set s i v) (suc i)) (omega arith) (omega arith))
