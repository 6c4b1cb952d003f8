-- `marks::popup_bytes` meets its contract: both write the lowest byte first. Assumes nothing.
use Prim.Native.Nat.{◌/◌}
use mathlib.Core.Path.{◌≡◌}
use native.Mathlib.Omega.{arith}
use Rattle.numbers.specs.Little.{le_bytes}
use Rattle.marks.proofs.popup_bytes.Goals as goal

pub returns : goal.returns
unfolding le_bytes
returns c =
    let k = c.args.k in
    let third : k / 65536 ≡ k / 256 / 256 = omega arith in
    let fourth : k / 16777216 ≡ k / 256 / 256 / 256 = omega arith in
    rw (c.to_le_bytes.ensures, third, fourth)
