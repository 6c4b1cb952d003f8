-- `zoom::wheel_scale`: in range the product is exact; where a test fails, no k is 64 times w. Assumes nothing.
use Rattle.std.proofs.Common.{◌≡◌, Bool, false, T, sym, subst}
use lib.Ieee.{of_bits}
use denote.Floats as F
use Rattle.zoom.proofs.Wheel.{asked, small, taken, passes}
use Rattle.zoom.proofs.Lemmas.Wheels.{wheel_is, wheel_none}
use Rattle.zoom.proofs.wheel_scale.Goals as goal

fails : (b : Bool) → b ≡ false → T b → ⊥
fails b e t = subst T e t

pub truncating_f32_to_u64-t-requires : goal.truncating_f32_to_u64-t-requires
unfolding of_bits
truncating_f32_to_u64-t-requires c = let a = asked _ (F.passes _ c.well_formed.0.1) (F.passes _ c.if-w.true) (F.passes _ c.if-w-2.true) in record { lower_bound = a.0; upper_bound = a.1 }

pub int_to_float-t : goal.int_to_float-t
unfolding of_bits
int_to_float-t c = small _ (F.passes _ c.well_formed.0.1) (F.passes _ c.if-w.true) (F.passes _ c.if-w-2.true) _ c.truncating_f32_to_u64-t.ensures

pub float_to_int-result : goal.float_to_int-result
unfolding of_bits
float_to_int-result c = (taken _ (F.passes _ c.well_formed.0.1) (F.passes _ c.if-w.true) (F.passes _ c.if-w-2.true) _ c.truncating_f32_to_u64-t.ensures (F.passes _ c.if-t-p.true)).0

pub returns-then-t-p : goal.returns-then-t-p
unfolding of_bits
returns-then-t-p c = sym (wheel_is _ _ (taken _ (F.passes _ c.well_formed.0.1) (F.passes _ c.if-w.true) (F.passes _ c.if-w-2.true) _ c.truncating_f32_to_u64-t.ensures (F.passes _ c.if-t-p.true)).1)

pub returns-else-t-p : goal.returns-else-t-p
unfolding of_bits
returns-else-t-p c = sym (wheel_none _ (λ k i. fails _ c.if-t-p.false ((passes _ k i).2 _ c.truncating_f32_to_u64-t.ensures)))

pub returns-else-w : goal.returns-else-w
unfolding of_bits
returns-else-w c =
    sym (wheel_none _ (λ k i.
    elim c.else-w.branch [
      | goal.else-w-via-then-w+else-w-2 w ↦ fails _ w.if-w-2.false (passes _ k i).1
      | goal.else-w-via-else-w w ↦ fails _ w.if-w.false (passes _ k i).0
    ]))
