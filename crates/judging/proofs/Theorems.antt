-- Request 10: "whoever made it, an accepted schedule is then ours byte for byte". Assumes nothing.
use Rattle.std.specs.Prelude.{ℕ, ◌*◌, ◌<◌, ◌≡◌, refl, true, List, ◌↔◌, length}
use Rattle.std.proofs.Math.Path.{sym, ap}
use Rattle.std.proofs.Common.{◌∙◌}
use Rattle.numbers.specs.Little.{Bytes}
use Rattle.fractions.specs.declared.Fraction.{Fraction}
use Rattle.fractions.specs.declared.Value.{Value}
use Rattle.fractions.specs.declared.Value.TheVariants.{Never, At}
use Rattle.elimination.specs.Marks.{Marks, Proper}
use Rattle.elimination.specs.Process.{Removal, stays, gone, when, process}
use Rattle.elimination.specs.Records.{record_size, value_at, eliminator_at, removal_record}
use Rattle.elimination.specs.Reel.{Reel, marks_of, GoodReel, schedule_of}
use Rattle.elimination.proofs.Sheet.{sheet_proper}
use Rattle.elimination.proofs.Schedule.{schedule_value, schedule_reads}
use Rattle.parts.specs.Questions.{is_schedule}
use Rattle.clashing.proofs.Laws.Right.{right_of_lem, exact}
use Rattle.judging.specs.Judge.{judge, judge_schedule}
use Rattle.judging.proofs.Lemmas.Judged.{judge_iff}
use Rattle.judging.proofs.Lemmas.Ours.{removal_of, judged_ours, ours_first, ours_names}
use Rattle.judging.proofs.Lemmas.Bytes.{removal_back, records_back}

-- For any rank and any symmetric pair value: a proposal whose values are those of the pairs that it names, number for number, is accepted exactly where it
-- is the process's, to the record.
pub judge_ours : (M : Marks) → Proper M → (r : ℕ → Value) (by : ℕ → ℕ)
    → ((m : ℕ) (f : Fraction) → m < M.count → r m ≡ At f → f ≡ M.value (by m) m)
    → (judge M r by ≡ true) ↔ ((m : ℕ) → m < M.count → removal_of (r m) (by m) ≡ process M m)
judge_ours M ok r by exact =
    let j = judge_iff M r by in (
      (λ e. judged_ours M ok r by exact (j.0 e).0 (j.0 e).1),
      (λ same. j.1 (ours_first M ok r by same, ours_names M ok r by same)),
    )

-- `p` is part 2 of the reel r, of its size, and passed question 8.
module _ (r : Reel) (p : List ℕ) (good : GoodReel r) (bytes : Bytes p) (long : length p ≡ record_size * r.count) (asked : is_schedule r p ≡ true) where
  -- what part 2 proposes where it is the schedule of the reel
  same : p ≡ schedule_of r → (m : ℕ) → m < r.count → removal_of (value_at p m) (eliminator_at p m) ≡ process (marks_of r) m
  same e m l = rw e (cases (process (marks_of r) m) refl)
    where
      cases : (x : Removal) → process (marks_of r) m ≡ x
          → removal_of (value_at (schedule_of r) m) (eliminator_at (schedule_of r) m) ≡ process (marks_of r) m
      cases stays q =
          let v : value_at (schedule_of r) m ≡ Never = schedule_value r good m l ∙ ap when q in rw (v, q)
      cases (gone h f) q =
          let v : value_at (schedule_of r) m ≡ At f = schedule_value r good m l ∙ ap when q in
          let w = rw q at (schedule_reads r good m l) in
          rw (v, q, w.eliminator)

  -- The judge accepts part 2 exactly where its bytes are those that scheduling writes for the reel.
  pub judge_schedule_lem : (judge_schedule r p ≡ true) ↔ (p ≡ schedule_of r)
  unfolding judge_schedule schedule_of
  judge_schedule_lem =
      let j = judge_ours (marks_of r) (sheet_proper r good.good.few) (value_at p) (eliminator_at p) (exact r p asked) in (
        (λ e.
            sym (records_back p bytes (process (marks_of r)) r.count
            (λ m l. ap removal_record (sym (j.0 e m l)) ∙ removal_back (right_of_lem r p m asked l)) long)),
        (λ e. j.1 (same e)),
      )
