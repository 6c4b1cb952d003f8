-- The schedule that was worked out for the marks says, record by record, what the process makes of them. Assumes nothing.
use Rattle.std.specs.Prelude.{ℕ, ◌+◌, ◌*◌, ◌<◌, ◌≤◌, ◌≡◌, refl, true, false, List, ◌++◌, eqb, length}
use Rattle.std.proofs.Common.{sym, ◌∙◌, true≢false, arith, ne_eqb, length-append}
use Rattle.lists.proofs.TestLaws.{and_no}
use Rattle.numbers.proofs.Laws.{le_append}
use Rattle.fractions.specs.declared.Fraction.{Fraction}
use Rattle.fractions.specs.Order.{Small}
use Rattle.elimination.specs.declared.Record.{Record}
use Rattle.elimination.specs.Process.{Removal, stays, gone, process}
use Rattle.elimination.specs.Records.{record_size, num_offset, den_offset, is_never, mark_record, eliminator_at, num_at, Reads, removal_record}
use Rattle.elimination.specs.Reel.{Reel, marks_of, GoodReel, schedule_of}
use Rattle.elimination.proofs.Schedule.{schedule_length, schedule_reads, gone_small}
use Rattle.listing.specs.Listed.{removal_at, Zoomable, Printable}

-- a record reads the same with more bytes behind the schedule
reads_append : (p rest : List ℕ) (m : ℕ) {d : Record} → record_size * m + record_size ≤ length p → Reads p m d → Reads (p ++ rest) m d
reads_append p rest m k r =
    record {
      eliminator = le_append 2 p rest (record_size * m) (omega arith) ∙ r.eliminator;
      numerator = le_append 8 p rest (record_size * m + num_offset) (omega arith) ∙ r.numerator;
      denominator = le_append 4 p rest (record_size * m + den_offset) (omega arith) ∙ r.denominator;
    }

-- record m reads as what becomes of mark m
record Says (p : List ℕ) (m : ℕ) (r : Removal) : Type 0 where
  removal : removal_at p m ≡ r
  zoom : is_never (mark_record p m) ≡ false → Zoomable p m

says_stays : (p : List ℕ) (m : ℕ) → Reads p m (removal_record stays) → Says p m stays
unfolding removal_at is_never
says_stays p m r =
    let e : is_never (mark_record p m) ≡ true = rw (r.eliminator, r.numerator, r.denominator) in
    record { removal = rw e; zoom = λ n. absurd (true≢false (sym e ∙ n)) }

says_gone : (p : List ℕ) (m h : ℕ) (f : Fraction) → Reads p m (removal_record (gone h f)) → Small f → 0 < f.den → Says p m (gone h f)
unfolding removal_at is_never
says_gone p m h f r small positive =
    let some : eqb f.den 0 ≡ false = ne_eqb f.den 0 (λ z. omega arith) in
    let e : is_never (mark_record p m) ≡ false = rw (r.denominator, some) (and_no (eqb (eliminator_at p m) 65535) (and_no (eqb (num_at p m) 0) refl)) in
    record {
      removal = rw (e, r.eliminator, r.numerator, r.denominator);
      zoom = λ n. record { small = rw (r.numerator, r.denominator) small; positive = rw r.denominator positive };
    }

module _ (r : Reel) (rest : List ℕ) (right : GoodReel r) where
  open r use {count as n}

  says : (m : ℕ) → m < n → Says (schedule_of r ++ rest) m (process (marks_of r) m)
  says m k = cases (process (marks_of r) m) refl
    where
      inside : record_size * m + record_size ≤ length (schedule_of r)
      inside = omega (arith, schedule_length r)

      cases : (x : Removal) → process (marks_of r) m ≡ x → Says (schedule_of r ++ rest) m x
      cases stays e = says_stays _ m (reads_append (schedule_of r) rest m inside (rw e at (schedule_reads r right m k)))
      cases (gone h f) e =
          let g = gone_small r right m h f k e in
          says_gone _ m h f (reads_append (schedule_of r) rest m inside (rw e at (schedule_reads r right m k))) g.0 g.1

  pub removal_process : (m : ℕ) → m < n → removal_at (schedule_of r ++ rest) m ≡ process (marks_of r) m
  removal_process m k = (says m k).removal

  pub schedule_printable : Printable (schedule_of r ++ rest) n
  schedule_printable =
      record {
        long = omega (arith, length-append (schedule_of r) rest, schedule_length r);
        zooms = λ m k. (says m k).zoom;
      }
