-- Lists of questions: by induction on the list, since the first 'no' ends it.
use Rattle.std.specs.Prelude.{ℕ, zero, suc, ◌<◌, ◌≡◌, refl, Bool, true, false, cond, List, [], ◌∷◌, ◌++◌, ◌↔◌, eqb}
use Rattle.std.proofs.Common.{sym, ◌∙◌, arith, eq-eqb, ne_eqb}
use Rattle.std.proofs.lemmas.Bool.{false≢true}
use Rattle.contents.specs.Asking.{Question, ◌asks◌, answer}

-- No question bears the number 0, which is success.
abbrev pub Numbered : List Question → Type 0
Numbered [] = Unit {0}
Numbered (q ∷ rest) = (0 < q.number) × Numbered rest

pub numbered_append : (first rest : List Question) → Numbered first → Numbered rest → Numbered (first ++ rest)
numbered_append [] rest p q = q
numbered_append (a ∷ first) rest p q = (p.0, numbered_append first rest p.1 q)

-- ---- one question, and one list after another

pub none_asked : answer [] ≡ 0
unfolding answer
none_asked = refl

pub asked_yes : (k : ℕ) {b : Bool} (rest : List Question) → b ≡ true → answer ((k asks b) ∷ rest) ≡ answer rest
unfolding answer
asked_yes k rest e = rw e

pub asked_no : (k : ℕ) {b : Bool} (rest : List Question) → b ≡ false → answer ((k asks b) ∷ rest) ≡ k
unfolding answer
asked_no k rest e = rw e

pub asked_iff : (k : ℕ) (b : Bool) (rest : List Question) → 0 < k
    → (answer ((k asks b) ∷ rest) ≡ 0) ↔ ((b ≡ true) × (answer rest ≡ 0))
unfolding answer
asked_iff k true rest h = ((λ e. (refl, e)), (λ p. p.1))
asked_iff k false rest h = ((λ e. absurd (omega arith)), (λ p. absurd (false≢true p.0)))

pub answer_append : (first rest : List Question) → Numbered first
    → answer (first ++ rest) ≡ cond (eqb (answer first) 0) (answer rest) (answer first)
unfolding answer
answer_append [] rest h = refl
answer_append (q ∷ first) rest h = go q.holds (answer_append first rest h.1)
  where
    go : (b : Bool) → answer (first ++ rest) ≡ cond (eqb (answer first) 0) (answer rest) (answer first)
        → cond b (answer (first ++ rest)) q.number ≡ cond (eqb (cond b (answer first) q.number) 0) (answer rest) (cond b (answer first) q.number)
    go true e = e
    go false e = rw (ne_eqb q.number 0 (omega arith))

pub append_yes : (first rest : List Question) → Numbered first → answer first ≡ 0 → answer (first ++ rest) ≡ answer rest
append_yes first rest h e = answer_append first rest h ∙ rw e

pub append_no : (first rest : List Question) → Numbered first → 0 < answer first → answer (first ++ rest) ≡ answer first
append_no first rest h l = answer_append first rest h ∙ rw (ne_eqb (answer first) 0 (omega arith))

pub append_iff : (first rest : List Question) → Numbered first
    → (answer (first ++ rest) ≡ 0) ↔ ((answer first ≡ 0) × (answer rest ≡ 0))
append_iff first rest h = (there, back)
  where
    split : (a : ℕ) → cond (eqb a 0) (answer rest) a ≡ 0 → (a ≡ 0) × (answer rest ≡ 0)
    split zero e = (refl, e)
    split (suc a) e = absurd (let z : suc a ≡ 0 = rw (ne_eqb (suc a) 0 (omega arith)) at e in omega arith)

    there : answer (first ++ rest) ≡ 0 → (answer first ≡ 0) × (answer rest ≡ 0)
    there e = split (answer first) (sym (answer_append first rest h) ∙ e)

    back : (answer first ≡ 0) × (answer rest ≡ 0) → answer (first ++ rest) ≡ 0
    back p = rw (answer_append first rest h, eq-eqb (answer first) 0 p.0) p.1
