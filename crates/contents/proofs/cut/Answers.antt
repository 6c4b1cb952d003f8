-- `contents::cut` meets its contract: the place lies in the sheet, or there are no bytes. Assumes nothing.
use Rattle.std.proofs.Common.{ℕ, ◌+◌, ◌-◌, ◌≡◌, ◌<◌, List, [], length, refl, arith, le-leb, ap, ◌∙◌, Bor}
use Rattle.std.specs.Prelude.{Option, Some, None}
use Rattle.std.specs.Option.{unwrap_or}
use Rattle.std.specs.Slice.{IsGetRangeResult}
use Rattle.std.proofs.lemmas.Bool.{lt-leb}
use Rattle.contents.specs.declared.Extent.{Extent}
use Rattle.contents.specs.Places.{cut_of}
use Rattle.contents.proofs.cut.Goals as goal

-- the bytes there, or none
got : (s : List ℕ) (e : Extent) (none : Bor (List ℕ)) (r : Option (Bor (List ℕ))) → none.now ≡ [] → IsGetRangeResult s e.offset (e.offset + e.length) r
    → (unwrap_or r none).now ≡ cut_of s e
unfolding cut_of
got s e none None z h = let out : length s < e.offset + e.length = omega (arith, h.0) in rw (lt-leb _ _ out) z
got s e none (Some x) z h =
    let d : e.offset + e.length - e.offset ≡ e.length = omega arith in
    rw (le-leb _ _ h.0.1) (h.0.2 ∙ rw d)

pub returns : goal.returns
returns c = ap (λ b. b.now) c.unwrap_or.ensures ∙ got c.args.s.now c.args.e _ c.get.result refl c.get.ensures.lookup
