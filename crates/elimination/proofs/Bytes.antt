-- A record's three numbers, written one after the other. Assumes nothing.
use Prim.Native.Nat.{ℕ, ◌+◌}
use mathlib.Core.Path.{◌≡◌, refl}
use mathlib.Core.List.{List}
use native.Mathlib.Omega.{arith}
use lib.Seq.{sets}
use Rattle.numbers.specs.Little.{le_bytes}
use Rattle.numbers.proofs.Laws.{write_joined}
use Rattle.elimination.specs.declared.Record.{Record}
use Rattle.elimination.specs.Records.{num_offset, den_offset, record_bytes}

pub record_put : (s : List ℕ) (at : ℕ) (r : Record) {t u v : List ℕ}
    → t ≡ sets s at (le_bytes 2 r.eliminator) → u ≡ sets t (at + num_offset) (le_bytes 8 r.num)
    → v ≡ sets u (at + den_offset) (le_bytes 4 r.den) → v ≡ sets s at (record_bytes r)
record_put s at r {t} p q w = write_joined 2 r.eliminator s at _ refl p (write_joined 8 r.num t (at + num_offset) _ (omega arith) q w)
