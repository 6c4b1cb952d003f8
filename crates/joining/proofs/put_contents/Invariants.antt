-- `joining::put_contents` meets its contract: what is left of the entries makes the whole, whatever was written so far. Assumes nothing.
use Prim.Native.Nat.{◌+◌, ◌*◌, ◌≤◌}
use mathlib.Core.Path.{◌≡◌}
use lib.ListN.{length, drop}
use lib.Seq.{sets}
use Rattle.contents.specs.Contents.{contents_size, entries}
use Rattle.joining.proofs.put_contents.Given as goal

abbrev pub invariant-loop-code : goal.invariant-loop-code
invariant-loop-code l =
    let i = length l.yielded in
    (l.at ≡ contents_size i) × (length l.out ≡ length l.initial.out) × (l.offset ≤ 4294967296 * (i + 1))
    × (sets l.out l.at (entries l.offset (drop i l.codes) (drop i l.sizes)) ≡ sets l.initial.out 2 (entries l.start l.codes l.sizes))
