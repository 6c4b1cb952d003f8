-- Part 2, `p`, is the records of the removals that it stands for, byte for byte. Assumes nothing.
use Prim.Native.Nat.{ℕ, zero, suc, ◌+◌, ◌*◌, ◌<◌, ◌≤◌}
use Rattle.std.specs.Prelude.{◌≡◌, length, drop}
use Rattle.std.proofs.Math.Path.{refl, sym, ap₂}
use Rattle.std.proofs.Common.{ap, ◌∙◌, eq-eqb, ne_eqb, drop-drop, take_all}
use mathlib.Core.List.{List, ◌++◌}
use native.Mathlib.Omega.{arith}
use Rattle.std.proofs.Math.Decide.{ℕ_discrete}
use Rattle.std.proofs.Math.ListN.{take}
use Rattle.std.proofs.Math.Seq.{take-add}
use Rattle.numbers.specs.Little.{le_bytes, Bytes}
use Rattle.numbers.proofs.Laws.{write_back}
use Rattle.elimination.specs.Process.{Removal}
use Rattle.elimination.specs.Reel.{Reel}
use Rattle.elimination.specs.Records.{record_size, num_offset, den_offset, record_bytes, mark_record, eliminator_at, num_at, den_at, value_at, removal_record, records}
use Rattle.clashing.proofs.Laws.Right.{Right}
use Rattle.judging.proofs.Lemmas.Ours.{removal_of}

-- the record that stands for what a right record proposes is that record
pub removal_back : {r : Reel} {p : List ℕ} {m : ℕ} → Right r p m → removal_record (removal_of (value_at p m) (eliminator_at p m)) ≡ mark_record p m
unfolding value_at
removal_back {r} {p} {m} right =
    elim (ℕ_discrete (den_at p m) 0) [
      | yes z ↦ (let w = right.never z in rw (eq-eqb (den_at p m) 0 z, w.0, w.1, z))
      | no z ↦ rw (ne_eqb (den_at p m) 0 z)
    ]

module _ (p : List ℕ) (b : Bytes p) where
  record_back : (m : ℕ) → record_size * m + record_size ≤ length p → record_bytes (mark_record p m) ≡ take record_size (drop (record_size * m) p)
  record_back m h =
      let at = record_size * m in
      let l = drop at p in
      let a : le_bytes 2 (eliminator_at p m) ≡ take 2 l = write_back 2 p at b (omega arith) in
      let c : le_bytes 8 (num_at p m) ≡ take 8 (drop 2 l) = rw (drop-drop 2 at p) (write_back 8 p (at + num_offset) b (omega arith)) in
      let d : le_bytes 4 (den_at p m) ≡ take 4 (drop 8 (drop 2 l)) =
      rw (drop-drop 8 2 (drop at p), drop-drop 10 at p) (write_back 4 p (at + den_offset) b (omega arith)) in
      ap₂ ◌++◌ a (ap₂ ◌++◌ c d ∙ sym (take-add 8 4 (drop 2 l))) ∙ sym (take-add 2 12 l)

  module _ (s : ℕ → Removal) (n : ℕ) (same : (m : ℕ) → m < n → removal_record (s m) ≡ mark_record p m) where
    records_take : (k : ℕ) → k ≤ n → record_size * k ≤ length p → records s k ≡ take (record_size * k) p
    unfolding records
    records_take zero l h = refl
    records_take (suc k) l h =
        let e : record_size * suc k ≡ record_size * k + record_size = omega arith in
        ap₂ ◌++◌ (records_take k (omega arith) (omega arith)) (ap record_bytes (same k (omega arith)) ∙ record_back k (omega arith))
        ∙ sym (ap (λ (i : ℕ). take i p) e ∙ take-add (record_size * k) record_size p)

    pub records_back : length p ≡ record_size * n → records s n ≡ p
    records_back long = records_take n (omega arith) (omega arith) ∙ take_all (record_size * n) p (omega arith)
