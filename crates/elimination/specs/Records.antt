-- Part 2 of a sheet, the schedule. `p` is the part's bytes and `m` a mark's number.
use Rattle.std.specs.Prelude.{ℕ, zero, suc, ◌+◌, ◌*◌, ◌≡◌, Bool, cond, ◌&&◌, List, [], ◌++◌, eqb}
use Rattle.numbers.specs.Little.{le_at, le_bytes}
use Rattle.fractions.specs.declared.Fraction.{Fraction}
use Rattle.fractions.specs.declared.Value.{Value}
use Rattle.fractions.specs.declared.Value.TheVariants.{Never, At}
use Rattle.elimination.specs.declared.Record.{Record}
use Rattle.elimination.specs.Process.{Removal, stays, gone}

-- ---- a record: "14 bytes a mark: eliminator's number (2), numerator (8), denominator (4) of the removal value"

abbrev pub record_size : ℕ
record_size = 14

-- where the fields behind the eliminator begin
abbrev pub num_offset : ℕ
num_offset = 2

abbrev pub den_offset : ℕ
den_offset = 10

-- the record that stands at `at`
abbrev pub record_at : List ℕ → ℕ → Record
record_at p at = record { num = le_at 8 p (at + num_offset); den = le_at 4 p (at + den_offset); eliminator = le_at 2 p at }

-- and its bytes
abbrev pub record_bytes : Record → List ℕ
record_bytes r = le_bytes 2 r.eliminator ++ (le_bytes 8 r.num ++ le_bytes 4 r.den)

-- its two numbers as they stand
abbrev pub fraction_of : Record → Fraction
fraction_of r = record { num = r.num; den = r.den }

-- "Never removed: 65,535, 0, 0."
abbrev pub never_record : Record
never_record = record { num = 0; den = 0; eliminator = 65535 }

unfoldable pub is_never : Record → Bool
is_never r = eqb r.eliminator 65535 && (eqb r.num 0 && eqb r.den 0)

-- The removal value that a record names. Only 'never' has the denominator 0: question 8 refuses any other such record.
abbrev pub value_of : Record → Value
value_of r = cond (eqb r.den 0) Never (At (fraction_of r))

-- ---- the record of mark m

abbrev pub mark_record : List ℕ → ℕ → Record
mark_record p m = record_at p (record_size * m)

abbrev pub eliminator_at : List ℕ → ℕ → ℕ
eliminator_at p m = (mark_record p m).eliminator

abbrev pub num_at : List ℕ → ℕ → ℕ
num_at p m = (mark_record p m).num

abbrev pub den_at : List ℕ → ℕ → ℕ
den_at p m = (mark_record p m).den

abbrev pub fraction_at : List ℕ → ℕ → Fraction
fraction_at p m = fraction_of (mark_record p m)

unfoldable pub value_at : List ℕ → ℕ → Value
value_at p m = value_of (mark_record p m)

-- it is the record r
pub record Reads (p : List ℕ) (m : ℕ) (r : Record) : Type 0 where
  pub eliminator : eliminator_at p m ≡ r.eliminator
  pub numerator : num_at p m ≡ r.num
  pub denominator : den_at p m ≡ r.den

-- ---- writing

abbrev pub removal_record : Removal → Record
removal_record stays = never_record
removal_record (gone h f) = record { num = f.num; den = f.den; eliminator = h }

-- the records of the first n marks
unfoldable pub records : (ℕ → Removal) → ℕ → List ℕ
records s zero = []
records s (suc n) = records s n ++ record_bytes (removal_record (s n))
