-- Reading a map: question 13, the walk's ends, and walking on until none is left. Assumes nothing.
use Prim.Native.Nat.{ℕ, zero, suc, ◌+◌, ◌<◌, ◌≤◌}
use Rattle.std.specs.Prelude.{◌≡◌, Bool, true, false, cond, List, [], ◌∷◌, ◌++◌, ◌↔◌, leb, eqb, length}
use Rattle.std.proofs.Math.Path.{refl}
use Rattle.std.proofs.Common.{sym, ◌∙◌, arith}
use Rattle.std.proofs.Math.Decide.{dec_lt}
use borrow.Author.Tests.{leb-true, le-leb, lt-ltb, le-ltb, ne_eqb}
use Rattle.lists.specs.Tests.{passing}
use Rattle.lists.proofs.TestLaws.{both_iff}
use Rattle.contents.specs.Asking.{answer}
use Rattle.bitmap.specs.Map.{map_size, bit_at, is_set, walk}
use Rattle.bitmap.proofs.Laws.{walked, walk_end, walk_here, walk_past}
use Rattle.reaching.specs.Questions.{is_map, walk_questions}
use Rattle.jobs.specs.Jobs.{outcome, walk_job, walks_from, is_shown_job}
use Rattle.jobs.specs.Answers.{refusal, answer_of}

module _ (bytes : List ℕ) (n : ℕ) where
  pub map_iff : (is_map bytes n ≡ true) ↔ ((n ≤ 4096) × (map_size n ≤ length bytes))
  unfolding is_map
  map_iff = (
    (λ e. let p = (both_iff (leb n 4096) _).0 e in (leb-true n 4096 p.0, leb-true (map_size n) (length bytes) p.1)),
    (λ p. (both_iff (leb n 4096) _).1 (le-leb n 4096 p.0, le-leb (map_size n) (length bytes) p.1)),
  )

  -- 13 is all that is asked
  pub map_asked : answer (walk_questions bytes n) ≡ cond (is_map bytes n) 0 13
  unfolding walk_questions answer
  map_asked = refl

  pub map_taken : answer (walk_questions bytes n) ≡ 0 → is_map bytes n ≡ true
  map_taken e = go (is_map bytes n) refl (sym map_asked ∙ e)
    where
      go : (b : Bool) → is_map bytes n ≡ b → ◌≡◌ {A = ℕ} (cond b 0 13) 0 → is_map bytes n ≡ true
      go true f g = f
      go false f g = absurd (omega arith)

-- ---- the walk

module _ (bytes : List ℕ) (n start : ℕ) where
  pub walk_refused : is_map bytes n ≡ false → record { number = 13; value = 65535 } ≡ answer_of (walk_job bytes n start)
  unfolding walk_job
  walk_refused e = rw (map_asked bytes n, e)

  pub walk_goes : is_map bytes n ≡ true → record { number = 0; value = walk bytes n start } ≡ answer_of (walk_job bytes n start)
  unfolding walk_job
  walk_goes e = rw (map_asked bytes n, e)

  pub walk_small : n ≤ 4096 → walk bytes n start ≤ 65535
  walk_small few =
      let w = walked bytes n start few in
      elim (dec_lt (walk bytes n start) n) [ yes h ↦ omega arith | no h ↦ (let z = w.none (omega arith) in omega arith) ]

-- Walking on from any number: the set bits from there on, and then 65,535.
module _ (bytes : List ℕ) (n : ℕ) (ok : is_map bytes n ≡ true) where
  value_is : (start : ℕ) → (walk_job bytes n start).value ≡ walk bytes n start
  unfolding walk_job
  value_is start = rw (map_asked bytes n, ok)

  one_turn : (turns start : ℕ) → walks_from bytes n (suc turns) start ≡ walk bytes n start ∷ cond (eqb (walk bytes n start) 65535) [] (walks_from bytes n turns (suc (walk bytes n start)))
  unfolding walks_from
  one_turn turns start = rw (value_is start)

  pub walks_all : (left start turns : ℕ) → start + left ≡ n → left < turns
      → walks_from bytes n turns start ≡ passing (is_set bytes) left start ++ (65535 ∷ [])
  unfolding passing
  walks_all left start zero e h = absurd (omega arith)
  walks_all zero start (suc turns) e h = one_turn turns start ∙ rw (walk_end bytes n start (omega arith))
  walks_all (suc left) start (suc turns) e h =
      go (is_set bytes start) refl (walks_all left (suc start) turns (omega arith) (omega arith)) (walks_all left (suc start) (suc turns) (omega arith) (omega arith))
    where
      few : n ≤ 4096
      few = ((map_iff bytes n).0 ok).0

      rest : List ℕ
      rest = passing (is_set bytes) left (suc start) ++ (65535 ∷ [])

      go : (b : Bool) → is_set bytes start ≡ b → walks_from bytes n turns (suc start) ≡ rest → walks_from bytes n (suc turns) (suc start) ≡ rest
          → walks_from bytes n (suc turns) start ≡ cond b (start ∷ passing (is_set bytes) left (suc start)) (passing (is_set bytes) left (suc start)) ++ (65535 ∷ [])
      go true b next same =
          one_turn turns start ∙ rw (walk_here bytes n start (omega arith) b, ne_eqb start 65535 (λ q. omega (arith, few)), next)
      go false b next same =
          one_turn turns start ∙ rw (walk_past bytes n start (omega arith) b) (sym (one_turn turns (suc start)) ∙ same)

-- ---- one mark

module _ (bytes : List ℕ) (n m : ℕ) where
  pub shown_refused : is_map bytes n ≡ false → refusal 13 ≡ answer_of (is_shown_job bytes n m)
  unfolding is_shown_job outcome
  shown_refused e = rw (map_asked bytes n, e)

  pub shown_outside : is_map bytes n ≡ true → n ≤ m → record { number = 0; value = 0 } ≡ answer_of (is_shown_job bytes n m)
  unfolding is_shown_job outcome
  shown_outside e h = rw (map_asked bytes n, e, le-ltb m n h)

  pub shown_inside : is_map bytes n ≡ true → m < n → record { number = 0; value = bit_at bytes m } ≡ answer_of (is_shown_job bytes n m)
  unfolding is_shown_job outcome
  shown_inside e h = rw (map_asked bytes n, e, lt-ltb m n h)
