-- What the project cites of the process, for any rank and any symmetric pair value. Their proofs are in Lemmas.
use Rattle.std.specs.Prelude.{ℕ, ◌<◌, ◌≤◌, ◌≡◌, ◌↔◌}
use Rattle.std.proofs.Math.Option.{none}
use Rattle.fractions.specs.declared.Fraction.{Fraction}
use Rattle.fractions.specs.declared.Value.{Value}
use Rattle.fractions.specs.Order.{Same, Later, Equal}
use Rattle.fractions.proofs.Laws.{later_equal, equal_sym}
use Rattle.elimination.specs.Marks.{Marks, Proper}
use Rattle.elimination.specs.Rules.{FirstRule, SecondRule, AllSound, Keeps}
use Rattle.elimination.specs.Process.{Removal, gone, when, next, process}
use Rattle.elimination.specs.Settled.{Settled}
use Rattle.elimination.proofs.Lemmas.Unique as Unique
use Rattle.elimination.proofs.Lemmas.Settled.{settled_unique, settled_keeps}
use Rattle.elimination.proofs.Lemmas.Runs.{ended, process_settled}

module _ (M : Marks) where
  open M use {count as n, key, value}

  -- The eliminator h of mark m, removed at f: the two numbers are the pair's own, unreduced; h outranks m and is removed later;
  -- and of all marks of which that is true at an equal value, h ranks highest.
  pub record Eliminator (s : ℕ → Removal) (m h : ℕ) (f : Fraction) : Type 0 where
    pub inside : h < n
    pub exact : f ≡ value h m
    pub outranks : key h < key m
    pub later : Later (when (s h)) f
    pub highest : (g : ℕ) → g < n → key g < key m → Same f (value g m) → Later (when (s g)) (value g m) → key h ≤ key g

  module _ (ok : Proper M) where
    -- "It goes on until no pair lives": after the process there is none to take.
    pub process_ends : next M (process M) ≡ none
    unfolding process
    process_ends = ended M ok

    -- The process keeps both rules.
    pub process_keeps : Keeps M (λ i. when (process M i))
    process_keeps = settled_keeps M ok (process M) (process_settled M ok)

    pub process_eliminator : (m h : ℕ) (f : Fraction) → m < n → process M m ≡ gone h f → Eliminator (process M) m h f
    process_eliminator m h f hm e =
        let b = (process_settled M ok m hm).go h f e in
        let c = b.candidate in
        record {
          inside = c.inside;
          exact = b.exact;
          outranks = c.outranks;
          later = rw b.exact c.later;
          highest = λ g hg o s l.
              let a = b.first g (record { inside = hg; outranks = o; later = l }) in
              a.tie (rw b.exact at s);
        }

    -- Two lists that keep both rules are equal, mark by mark.
    pub unique : (r s : ℕ → Value) → Keeps M r → Keeps M s → (i : ℕ) → i < n → Equal (r i) (s i)
    unique = Unique.unique M ok

    -- A list that is settled in rank order is the process's, to the record: eliminator, numerator, denominator.
    pub settled_process : (s : ℕ → Removal) → Settled M s → (m : ℕ) → m < n → s m ≡ process M m
    settled_process s ss = settled_unique M ok s (process M) ss (process_settled M ok)

    module _ (r : ℕ → Value) (sound : AllSound M r) where
      -- Demand 3: whatever list someone holds, it equals the process's, mark by mark, exactly when it keeps both rules.
      pub process_iff : ((i : ℕ) → i < n → Equal (when (process M i)) (r i)) ↔ (FirstRule M r × SecondRule M r)
      process_iff = (
        (λ same. let k = Unique.keeps_like M _ r process_keeps sound same in (k.first_rule, k.second_rule)),
        (λ rules. unique _ r process_keeps (record { sound = sound; first_rule = rules.0; second_rule = rules.1 })),
      )

      -- Every list that keeps both rules has the same marks removed later than f, whatever f is.
      pub process_later : FirstRule M r × SecondRule M r → (i : ℕ) (f : Fraction) → i < n → Later (r i) f ↔ Later (when (process M i)) f
      process_later rules i f hi =
          let e = process_iff.1 rules i hi in (
            later_equal (r i) (when (process M i)) f (process_keeps.sound i hi) (equal_sym (when (process M i)) (r i) e),
            later_equal (when (process M i)) (r i) f (sound i hi) e,
          )
