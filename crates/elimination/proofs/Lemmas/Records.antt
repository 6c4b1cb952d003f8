-- A schedule's records, read back: each is what was written. Assumes nothing.
use Rattle.std.specs.Prelude.{ℕ, zero, suc, ◌+◌, ◌*◌, ◌<◌, ◌≡◌, refl, cond, eqb, length}
use Rattle.std.proofs.Common.{sym, ap, ◌∙◌, arith, ne_eqb, length-append}
use mathlib.Core.List.{List, [], ◌++◌, append-nil, append_assoc}
use Rattle.std.proofs.Math.Decide.{ℕ_discrete}
use Rattle.numbers.specs.Little.{le_bytes}
use Rattle.numbers.proofs.Laws.{le_length, read_back}
use Rattle.fractions.specs.declared.Fraction.{Fraction}
use Rattle.fractions.specs.declared.Value.TheVariants.{Never, At}
use Rattle.elimination.specs.declared.Record.{Record}
use Rattle.elimination.specs.Process.{Removal, stays, gone, when}
use Rattle.elimination.specs.Records.{record_size, num_offset, den_offset, record_bytes, eliminator_at, num_at, den_at, fraction_at, value_at, Reads, removal_record, records}

-- a record whose numbers fit their fields
pub record FitsRecord (r : Record) : Type 0 where
  pub eliminator : r.eliminator < 65536
  pub num : r.num < 18446744073709551616
  pub den : r.den < 4294967296

-- a removal whose numbers fit them
pub data Fits : Removal → Type 0 where
  stays_fits : Fits stays
  gone_fits : {h : ℕ} {f : Fraction} → h < 65535 → f.num < 18446744073709551616 → 0 < f.den → f.den < 4294967296 → Fits (gone h f)

removal_fits : (r : Removal) → Fits r → FitsRecord (removal_record r)
removal_fits stays f = record { eliminator = omega arith; num = omega arith; den = omega arith }
removal_fits (gone h f) (gone_fits a b c d) = record { eliminator = omega arith; num = b; den = d }

pub record_length : (r : Record) → length (record_bytes r) ≡ record_size
unfolding le_bytes
record_length r = refl

pub records_length : (s : ℕ → Removal) (n : ℕ) → length (records s n) ≡ record_size * n
unfolding records
records_length s zero = refl
records_length s (suc n) =
    let r : Record = removal_record (s n) in
    length-append (records s n) (record_bytes r) ∙ omega (arith, records_length s n, record_length r)

-- record i, with what stands before and behind it
record Cut (s : ℕ → Removal) (n i : ℕ) : Type 0 where
  before : List ℕ
  behind : List ℕ
  place : length before ≡ record_size * i
  whole : records s n ≡ before ++ record_bytes (removal_record (s i)) ++ behind

cut : (s : ℕ → Removal) (n i : ℕ) → i < n → Cut s n i
unfolding records
cut s zero i h = absurd (omega arith)
cut s (suc n) i h =
    elim (ℕ_discrete i n) [
      | yes e ↦
          record {
            before = records s n;
            behind = [];
            place = omega (arith, records_length s n);
            whole = sym (append-nil (records s n ++ record_bytes (removal_record (s i))) ∙ ap (λ (k : ℕ). records s n ++ record_bytes (removal_record (s k))) e);
          }
      | no d ↦
          (let c = cut s n i (omega arith) in
          let last : List ℕ = record_bytes (removal_record (s n)) in
          record {
            before = c.before;
            behind = c.behind ++ last;
            place = c.place;
            whole = ap (λ (l : List ℕ). l ++ last) c.whole ∙ append_assoc (c.before ++ record_bytes (removal_record (s i))) c.behind last;
          })
    ]

-- the three fields of a record, wherever it stands
module _ (a b : List ℕ) (i : ℕ) (r : Record) (place : length a ≡ record_size * i) (fits : FitsRecord r) where
  bytes : List ℕ
  bytes = a ++ record_bytes r ++ b

  eliminator_is : eliminator_at bytes i ≡ r.eliminator
  unfolding bytes
  eliminator_is = rw (regroup_first) (read_back 2 a _ r.eliminator (record_size * i) place fits.eliminator)
    where
      regroup_first : a ++ record_bytes r ++ b ≡ a ++ le_bytes 2 r.eliminator ++ (le_bytes 8 r.num ++ le_bytes 4 r.den ++ b)
      regroup_first = simp append_assoc

  num_is : num_at bytes i ≡ r.num
  unfolding bytes
  num_is = rw (regroup) (read_back 8 (a ++ le_bytes 2 r.eliminator) _ r.num (record_size * i + num_offset) (length-append a (le_bytes 2 r.eliminator) ∙ omega (arith, le_length 2 r.eliminator)) fits.num)
    where
      regroup : a ++ record_bytes r ++ b ≡ a ++ le_bytes 2 r.eliminator ++ le_bytes 8 r.num ++ (le_bytes 4 r.den ++ b)
      regroup = simp append_assoc

  den_is : den_at bytes i ≡ r.den
  unfolding bytes
  den_is = rw (regroup) (read_back 4 (a ++ le_bytes 2 r.eliminator ++ le_bytes 8 r.num) b r.den (record_size * i + den_offset) place' fits.den)
    where
      regroup : a ++ record_bytes r ++ b ≡ a ++ le_bytes 2 r.eliminator ++ le_bytes 8 r.num ++ le_bytes 4 r.den ++ b
      regroup = simp append_assoc

      place' : length (a ++ le_bytes 2 r.eliminator ++ le_bytes 8 r.num) ≡ record_size * i + den_offset
      place' = length-append (a ++ le_bytes 2 r.eliminator) (le_bytes 8 r.num) ∙ omega (arith, length-append a (le_bytes 2 r.eliminator), le_length 2 r.eliminator, le_length 8 r.num)

-- ---- what is read of a schedule

pub records_read : (s : ℕ → Removal) (n i : ℕ) → i < n → Fits (s i) → Reads (records s n) i (removal_record (s i))
unfolding bytes
records_read s n i k fits =
    let c = cut s n i k in
    let f = removal_fits (s i) fits in
    rw c.whole
    (record {
      eliminator = eliminator_is c.before c.behind i _ c.place f;
      numerator = num_is c.before c.behind i _ c.place f;
      denominator = den_is c.before c.behind i _ c.place f;
    })

-- the removal value that record i names
pub value_is : (s : ℕ → Removal) (n i : ℕ) → i < n → Fits (s i) → value_at (records s n) i ≡ when (s i)
unfolding value_at
value_is s n i k fits = cases (s i) fits (records_read s n i k fits)
  where
    cases : (r : Removal) → Fits r → Reads (records s n) i (removal_record r)
        → cond (eqb (den_at (records s n) i) 0) Never (At (fraction_at (records s n) i)) ≡ when r
    cases stays w r = rw r.denominator
    cases (gone h f) (gone_fits a b c d) r = rw (r.denominator, r.numerator, ne_eqb f.den 0 (λ z. omega arith))
