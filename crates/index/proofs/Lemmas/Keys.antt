-- A coordinate and a mark's number have 16 bits each, so a key is below 2³², and two marks never have the same key.
use Rattle.std.specs.Prelude.{ℕ, ◌+◌, ◌*◌, ◌<◌, ◌≤◌, ◌≡◌, Bool, List, ltb}
use native.Mathlib.Omega.{arith}
use Rattle.std.proofs.Common.{ltb-true}
use Rattle.lists.proofs.TestLaws.{by_cases}
use Rattle.numbers.specs.Little.{le_at, signed}
use Rattle.marks.specs.Marks.{shifted}
use Rattle.index.specs.Index.{coordinate, axis_key}
use Rattle.index.specs.Check.{key_bound}

shifted_small : (u : ℕ) → shifted (signed 2 u) < 65536
shifted_small u = by_cases (ltb u 32768) (λ e. rw e (omega (arith, ltb-true u 32768 e))) (λ e. rw e (omega arith))

module _ (s : List ℕ) (axis : Bool) where
  pub coordinate_small : (m : ℕ) → coordinate s axis m < 65536
  unfolding coordinate
  coordinate_small m =
      by_cases axis (λ e. rw e (shifted_small (le_at 2 s (11 * m)))) (λ e. rw e (shifted_small (le_at 2 s (11 * m + 2))))

  pub key_small : (m : ℕ) → m < 65536 → axis_key s axis m < key_bound
  unfolding axis_key
  key_small m h = omega (arith, coordinate_small m)

  pub keys_differ : (n : ℕ) → n ≤ 65536 → (a b : ℕ) → a < b → b < n → axis_key s axis a ≡ axis_key s axis b → ⊥
  unfolding axis_key
  keys_differ n h a b p q e = omega arith
