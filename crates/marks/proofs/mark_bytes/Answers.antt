-- `marks::mark_bytes` meets its contract: each number's low byte and then its high one. Assumes nothing.
use Prim.Native.Nat.{◌%◌}
use mathlib.Core.Path.{◌≡◌, ap, ◌∙◌}
use native.Mathlib.Omega.{arith}
use borrow.Author.Rules.{rules}
use mir.Facts.{to_z-of_z}
use mir.Syntax.{w16}
use Rattle.numbers.specs.Little.{le_bytes}
use Rattle.marks.specs.Marks.{place_bits}
use Rattle.marks.proofs.mark_bytes.Goals as goal

pub returns : goal.returns
unfolding le_bytes
returns c =
    let kind : c.args.a.kind % 256 ≡ c.args.a.kind = omega arith in
    let x-bits : c.place_bits.result ≡ place_bits c.args.a.x = c.place_bits.ensures ∙ ap place_bits (to_z-of_z {w = w16} (search rules)) in
    let y-bits : c.place_bits-2.result ≡ place_bits c.args.a.y = c.place_bits-2.ensures ∙ ap place_bits (to_z-of_z {w = w16} (search rules)) in
    rw (c.to_le_bytes.ensures, c.to_le_bytes-2.ensures, c.to_le_bytes-3.ensures, c.to_le_bytes-4.ensures, c.to_le_bytes-5.ensures, x-bits, y-bits, kind)
