-- `clashing::subject_of` meets its contract: two radii are at most 32,766, and so the square fits. Assumes nothing.
use Prim.Native.Nat.{◌+◌, ◌≤◌}
use mathlib.Core.Path.{◌≡◌, ap, ◌∙◌}
use native.Mathlib.Nat.{mul-le-mul}
use native.Mathlib.Omega.{arith}
use Rattle.marks.specs.Pairs.{popup_at, popup_value}
use Rattle.clashing.specs.Clash.{subject_of}
use Rattle.clashing.proofs.subject_of.Goals as goal

pub popup_at-requires : goal.popup_at-requires
popup_at-requires c = c.requires.popup.there

pub popup_value-popup-requires : goal.popup_value-popup-requires
popup_value-popup-requires c =
    omega (arith, c.popup_at.ensures, c.requires.popup.small)

pub less_small-requires : goal.less_small-requires
less_small-requires c =
    (c.popup_value-popup.ensures.1, rw c.limit_at-value.ensures c.requires.limit_small)

pub overflow_mul-result : goal.overflow_mul-result
overflow_mul-result c =
    let l : c.radius_at.result + c.args.bound ≤ 32766 = omega (arith, c.radius_at.ensures, c.requires.used, c.requires.bound_small) in
    record { fits = omega (arith, mul-le-mul l l) }

pub returns : goal.returns
unfolding subject_of
returns c =
    let l : c.radius_at.result + c.args.bound ≤ 32766 = omega (arith, c.radius_at.ensures, c.requires.used, c.requires.bound_small) in
    let popup : c.popup_value-popup.result ≡ popup_value (popup_at c.args.popups.now c.args.m) = c.popup_value-popup.ensures.0 ∙ ap popup_value c.popup_at.ensures in (
      rw (
        c.label_at.ensures,
        ← c.radius_at.ensures,
        ← c.limit_at-value.ensures,
        ← popup,
        ← c.less_small.ensures,
        ← c.coordinate.ensures.0,
        ← c.coordinate-2.ensures.0,
      ),
      record {
        value_small = rw c.limit_at-value.ensures c.requires.limit_small;
        x_small = c.coordinate.ensures.1;
        y_small = c.coordinate-2.ensures.1;
        reach_small = omega (arith, mul-le-mul l l);
      },
    )
