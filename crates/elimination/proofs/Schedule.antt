-- What the schedule of a reel says, read back from its bytes: demand 3's first half, over part 2. Assumes nothing.
use Rattle.std.specs.Prelude.{ℕ, zero, suc, ◌*◌, ◌<◌, ◌≡◌, refl, ◌↔◌, length}
use Rattle.std.proofs.Common.{sym, subst, ap, arith}
use Rattle.numbers.specs.Little.{le_bytes, Bytes}
use Rattle.numbers.proofs.Laws.{le_bytes_lem, bytes_append}
use Rattle.fractions.specs.declared.Fraction.{Fraction}
use Rattle.fractions.specs.declared.Value.{Value}
use Rattle.fractions.specs.declared.Value.TheVariants.{At}
use Rattle.fractions.specs.Order.{AtMost, Later, Equal, Small}
use Rattle.fractions.proofs.Laws.{at_most_trans}
use Rattle.marks.specs.Pairs.{popup_at, popup_value}
use Rattle.marks.proofs.Laws.{larger_least}
use Rattle.marks.proofs.PairLaws.{popup_grows, pairs_positive, pairs_small, pairs_popup}
use Rattle.elimination.specs.declared.Record.{Record}
use Rattle.elimination.specs.Process.{Removal, stays, gone, when, process}
use Rattle.elimination.specs.Records.{record_size, record_bytes, value_at, Reads, removal_record, records}
use Rattle.elimination.specs.Reel.{Reel, marks_of, GoodReel, schedule_of}
use Rattle.elimination.specs.Rules.{FirstRule, SecondRule, AllSound}
use Rattle.elimination.proofs.Sheet.{sheet_proper}
use Rattle.elimination.proofs.Theorems.{process_eliminator, process_iff, process_later}
use Rattle.elimination.proofs.Lemmas.Records as Records
use Rattle.elimination.proofs.Lemmas.Records.{Fits, stays_fits, gone_fits, records_length, records_read, value_is}

pub record_length : (r : Record) → length (record_bytes r) ≡ record_size
record_length = Records.record_length

pub schedule_length : (r : Reel) → length (schedule_of r) ≡ record_size * r.count
unfolding schedule_of
schedule_length r = records_length (process (marks_of r)) r.count

-- It is made of bytes.
pub schedule_bytes : (r : Reel) → Bytes (schedule_of r)
unfolding schedule_of records
schedule_bytes r = all (process (marks_of r)) r.count
  where
    one : (d : Record) → Bytes (record_bytes d)
    one d = bytes_append (le_bytes 2 d.eliminator) _ (le_bytes_lem 2 d.eliminator) (bytes_append (le_bytes 8 d.num) (le_bytes 4 d.den) (le_bytes_lem 8 d.num) (le_bytes_lem 4 d.den))

    all : (s : ℕ → Removal) (n : ℕ) → Bytes (records s n)
    all s zero = λ i. omega arith
    all s (suc n) = bytes_append (records s n) (record_bytes (removal_record (s n))) (all s n) (one (removal_record (s n)))

module _ (r : Reel) (right : GoodReel r) where
  open r use {marks as s, count as n, popups as q}
  open right use {good, bytes, popped}

  -- the value at which a mark goes is its pair value with another
  pub gone_small : (i g : ℕ) (f : Fraction) → i < n → process (marks_of r) i ≡ gone g f → Small f × (0 < f.den)
  gone_small i g f h e =
      let x = process_eliminator (marks_of r) (sheet_proper r good.few) i g f h e in (
        subst Small (sym x.exact)
            (pairs_small r.shape s q g i bytes (good.each g x.inside).used (good.each i h).used (popped.each g x.inside) (popped.each i h)),
        rw x.exact (pairs_positive r.shape s q g i),
      )

  -- Nobody is removed before it pops up.
  pub popped_before : (i g : ℕ) (f : Fraction) → i < n → process (marks_of r) i ≡ gone g f → AtMost (popup_value (popup_at q i)) f
  popped_before i g f h e =
      let x = process_eliminator (marks_of r) (sheet_proper r good.few) i g f h e in
      subst (AtMost (popup_value (popup_at q i))) (sym x.exact)
      (at_most_trans (omega arith) (popup_grows (larger_least (popup_at q g) (popup_at q i)).1) (pairs_popup r.shape s q g i))

  -- a removal of the process fits its record's fields
  process_fits : (i : ℕ) → i < n → Fits (process (marks_of r) i)
  process_fits i h = cases (process (marks_of r) i) refl
    where
      cases : (x : Removal) → process (marks_of r) i ≡ x → Fits x
      cases stays e = stays_fits
      cases (gone g f) e =
          let x = process_eliminator (marks_of r) (sheet_proper r good.few) i g f h e in
          let y = gone_small i g f h e in
          gone_fits {h = g} {f = f} (omega (arith, x.inside, good.few)) (omega (arith, y.0.num_small)) y.1 (omega (arith, y.0.den_small))

  -- record i is that of the process's removal
  pub schedule_reads : (i : ℕ) → i < n → Reads (schedule_of r) i (removal_record (process (marks_of r) i))
  unfolding schedule_of
  schedule_reads i h = records_read (process (marks_of r)) n i h (process_fits i h)

  -- the removal value that record i names is the process's
  pub schedule_value : (i : ℕ) → i < n → value_at (schedule_of r) i ≡ when (process (marks_of r) i)
  unfolding schedule_of
  schedule_value i h = value_is (process (marks_of r)) n i h (process_fits i h)

  -- and where it names one, the mark had popped up by then
  pub schedule_popped : (i : ℕ) → i < n → (f : Fraction) → value_at (schedule_of r) i ≡ At f → AtMost (popup_value (popup_at q i)) f
  schedule_popped i h f is = cases (process (marks_of r) i) refl
    where
      cases : (x : Removal) → process (marks_of r) i ≡ x → AtMost (popup_value (popup_at q i)) f
      cases stays e = let z : ◌≡◌ {A = ℕ} 0 1 = cc (schedule_value i h, ap when e) in omega arith
      cases (gone g d) e = let same : d ≡ f = cc (schedule_value i h, ap when e) in rw same at (popped_before i g d h e)

  module _ (list : ℕ → Value) (sound : AllSound (marks_of r) list) where
    -- Whatever list someone holds: it equals part 2, mark by mark, exactly when it keeps both rules.
    pub schedule_iff : ((i : ℕ) → i < n → Equal (value_at (schedule_of r) i) (list i)) ↔ (FirstRule (marks_of r) list × SecondRule (marks_of r) list)
    schedule_iff =
        let p = process_iff (marks_of r) (sheet_proper r good.few) list sound in (
          (λ same. p.0 (λ i h. rw (schedule_value i h) at (same i h))),
          (λ rules i h. rw (schedule_value i h) (p.1 rules i h)),
        )

    -- and then it has the same marks removed later than f, whatever f is
    pub schedule_later : FirstRule (marks_of r) list × SecondRule (marks_of r) list → (i : ℕ) (f : Fraction) → i < n
        → Later (list i) f ↔ Later (value_at (schedule_of r) i) f
    schedule_later rules i f h =
        rw (schedule_value i h) (process_later (marks_of r) (sheet_proper r good.few) list sound rules i f h)
