-- What scheduling writes passes the questions: its records are right, and its index is the tree of its own schedule. Assumes nothing.
use Rattle.std.specs.Prelude.{ℕ, zero, suc, ◌*◌, ◌<◌, ◌≤◌, ◌≡◌, Bool, true, false, List, [], ◌↔◌, eqb, length, get_or}
use Rattle.std.proofs.Math.Path.{refl}
use Rattle.std.proofs.Common.{sym, ap, ◌∙◌, true≢false, arith, lt-ltb, eq-eqb}
use Rattle.lists.proofs.TestLaws.{or_right, every_of}
use Rattle.numbers.specs.Little.{Bytes}
use Rattle.fractions.specs.declared.Fraction.{Fraction}
use Rattle.fractions.specs.declared.Value.{Value}
use Rattle.fractions.specs.declared.Value.TheVariants.{At}
use Rattle.fractions.specs.Order.{later, Later}
use Rattle.fractions.proofs.Laws.{later_iff}
use Rattle.marks.specs.Marks.{outranks}
use Rattle.marks.specs.Pairs.{pair_value}
use Rattle.marks.specs.Good.{GoodMarks}
use Rattle.marks.proofs.Laws.{outranks_key}
use Rattle.elimination.specs.Process.{Removal, stays, gone, when, process}
use Rattle.elimination.specs.Records.{is_never, mark_record, value_at}
use Rattle.elimination.specs.Reel.{Reel, marks_of, GoodReel}
use Rattle.elimination.proofs.Sheet.{sheet_proper}
use Rattle.elimination.proofs.Theorems.{process_eliminator}
use Rattle.elimination.proofs.Schedule.{schedule_length, schedule_bytes, schedule_reads, schedule_value}
use Rattle.index.specs.Index.{index_of}
use Rattle.index.proofs.Laws.{index_long, index_bytes_lem, index_iff}
use Rattle.counting.proofs.Laws.{counts_bytes}
use Rattle.contents.specs.Contents.{Part, bodies_of, find, has, split, join, marks_part, popups_part}
use Rattle.contents.proofs.Laws.{find_bytes, join_bytes}
use Rattle.bodies.proofs.Laws.{popups_good}
use Rattle.parts.specs.Questions.{mark_count, names_right, record_right, is_schedule, reel_from}
use Rattle.bodies.specs.Questions.{edition_of, shape_of, reel_of}
use Rattle.bodies.specs.Fitting.{Fitting}
use Rattle.sheet.specs.Questions.{sheet_count, check}
use Rattle.sheet.proofs.Laws.{accepted_iff}
use Rattle.jobs.specs.Jobs.{new_schedule, new_index, new_counts, new_parts, with_counts}
use Rattle.jobs.proofs.Laws.Kept.{KeptRight, beside_found, beside_there, beside_bytes, counts_found}

-- ---- tests and counts

-- two values that are both later than f, or neither, have the same test
pub later_same : (v w : Value) (f : Fraction) → Later v f ↔ Later w f → later v (At f) ≡ later w (At f)
later_same v w f e = cases (later v (At f)) (later w (At f)) refl refl
  where
    cases : (a b : Bool) → later v (At f) ≡ a → later w (At f) ≡ b → later v (At f) ≡ later w (At f)
    cases true true p q = p ∙ sym q
    cases false false p q = p ∙ sym q
    cases true false p q = absurd (true≢false (sym ((later_iff w f).1 (e.0 ((later_iff v f).0 p))) ∙ q))
    cases false true p q = absurd (true≢false (sym ((later_iff v f).1 (e.1 ((later_iff w f).0 q))) ∙ p))

-- ---- the parts that scheduling writes for the marks `s`, with parts that are kept

module _ (s : List ℕ) (kept : List Part) (good : GoodMarks s (mark_count s)) (long : length s ≡ 11 * mark_count s) (bytes : Bytes s)
    (kept_right : KeptRight (mark_count s) kept) where
  abbrev edition : ℕ
  edition = edition_of kept

  abbrev shape : ℕ
  shape = shape_of kept

  abbrev popups : List ℕ
  popups = popups_part kept

  -- each record that scheduling writes is right: question 8
  new_right : (m : ℕ) → m < mark_count s → record_right (reel_from edition shape popups s) (new_schedule s kept) m ≡ true
  unfolding record_right is_never names_right
  new_right m h = cases (process (marks_of r) m) refl
    where
      r : Reel
      r = reel_from edition shape popups s

      p : List ℕ
      p = new_schedule s kept

      right : GoodReel r
      right = record { good = good; bytes = bytes; popped = popups_good kept (mark_count s) kept_right.popups_right }

      cases : (x : Removal) → process (marks_of r) m ≡ x → record_right r p m ≡ true
      cases stays e =
          let w = rw e at (schedule_reads r right m h) in
          rw (w.eliminator, w.numerator, w.denominator)
      cases (gone g f) e =
          let x = process_eliminator (marks_of r) (sheet_proper r good.few) m g f h e in
          let w = rw e at (schedule_reads r right m h) in
          let o : outranks edition s g m ≡ true =
          (outranks_key edition s g m bytes (omega (arith, x.inside, good.few)) (omega (arith, h, good.few)) (good.each g x.inside).used (good.each m h).used).1 x.outranks in
          let num : f.num ≡ (pair_value shape s popups g m).num = ap (λ (q : Fraction). q.num) x.exact in
          let den : f.den ≡ (pair_value shape s popups g m).den = ap (λ (q : Fraction). q.den) x.exact in
          let vm : value_at p m ≡ At f = schedule_value r right m h ∙ ap when e in
          let l : later (value_at p g) (value_at p m) ≡ true =
          rw (schedule_value r right g x.inside, vm) ((later_iff (when (process (marks_of r) g)) f).1 x.later) in
          or_right (is_never (mark_record p m))
          (rw (w.eliminator, w.numerator, w.denominator, lt-ltb g (mark_count s) x.inside, o, eq-eqb _ _ num, eq-eqb _ _ den, l))

  new_every : is_schedule (reel_from edition shape popups s) (new_schedule s kept) ≡ true
  unfolding is_schedule
  new_every = every_of (record_right (reel_from edition shape popups s) (new_schedule s kept)) (mark_count s) new_right

  -- the counts are those of the new schedule, and the popups beside them those that are kept
  new_counts_lem : (counted : Bool) → has (with_counts counted (new_counts s kept) kept) 6 ≡ true
      → find (with_counts counted (new_counts s kept) kept) 6 ≡ new_counts s kept
  new_counts_lem true h = counts_found kept (new_counts s kept)
  new_counts_lem false h = absurd (true≢false (sym h ∙ kept_right.no_counts))

  -- the parts that scheduling writes fit one another: questions 4 to 9 and 23 say yes
  pub new_fitting : (counted : Bool) → Fitting (new_parts s kept counted)
  new_fitting counted =
      record {
        marks = good;
        marks_long = long;
        schedule_long = λ h. schedule_length (reel_from edition shape popups s);
        index_long = λ h. index_long s (new_schedule s kept) (mark_count s) few;
        edition_right = λ h. rw (found 4 refl) (kept_right.edition_right (rw (there 4 refl) at h));
        popups_right = λ h. rw (found 5 refl) (kept_right.popups_right (rw (there 5 refl) at h));
        shape_right = λ h. rw (found 7 refl) (kept_right.shape_right (rw (there 7 refl) at h));
        schedule_right = λ h. rw (found 4 refl, found 5 refl, found 7 refl) new_every;
        index_right = λ h. (index_iff s (new_schedule s kept) (mark_count s) few (new_index s kept)).1 refl;
        counts_right = λ h. rw (found 5 refl) (new_counts_lem counted h);
      }
    where
      few : mark_count s ≤ 65536
      few = omega (arith, good.few)

      found : (code : ℕ) → eqb 6 code ≡ false → find (with_counts counted (new_counts s kept) kept) code ≡ find kept code
      found code = beside_found kept counted (new_counts s kept) code

      there : (code : ℕ) → eqb 6 code ≡ false → has (with_counts counted (new_counts s kept) kept) code ≡ has kept code
      there code = beside_there kept counted (new_counts s kept) code

-- its bytes are bytes
pub new_bytes : (s : List ℕ) (kept : List Part) (counted : Bool) → Bytes s → ((i : ℕ) → Bytes (get_or (bodies_of kept) i [])) → Bytes (join (new_parts s kept counted))
new_bytes s kept counted bytes each = join_bytes (new_parts s kept counted) go
  where
    go : (i : ℕ) → Bytes (get_or (bodies_of (new_parts s kept counted)) i [])
    go zero = bytes
    go (suc zero) = schedule_bytes (reel_from (edition_of kept) (shape_of kept) (popups_part kept) s)
    go (suc (suc zero)) = index_bytes_lem (index_of s (new_schedule s kept) (mark_count s))
    go (suc (suc (suc i))) =
        beside_bytes kept counted (new_counts s kept) (counts_bytes s (new_schedule s kept) (popups_part kept) (mark_count s)) each i

-- ---- an accepted sheet's marks

module _ (g : List ℕ) (bytes : Bytes g) (ok : check g ≡ 0) where
  pub good : GoodMarks (marks_part (split g)) (sheet_count g)
  good = ((accepted_iff g).0 ok).fitting.marks

  pub marks_long : length (marks_part (split g)) ≡ 11 * sheet_count g
  marks_long = ((accepted_iff g).0 ok).fitting.marks_long

  pub marks_bytes : Bytes (marks_part (split g))
  marks_bytes = find_bytes g bytes 1

  pub good_reel : GoodReel (reel_of (split g))
  good_reel = record { good = good; bytes = marks_bytes; popped = popups_good (split g) (sheet_count g) ((accepted_iff g).0 ok).fitting.popups_right }
