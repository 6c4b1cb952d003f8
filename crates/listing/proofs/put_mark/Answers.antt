-- `listing::put_mark` meets its contract: the record is the 'never' record or not, and so is the line. Assumes nothing.
use Prim.Native.Nat.{ℕ}
use mathlib.Core.Path.{◌≡◌, sym, ap, ◌∙◌}
use mathlib.Core.Bool.{true, false}
use mathlib.Core.List.{List}
use Rattle.elimination.specs.declared.Record.{Record}
use Rattle.elimination.specs.Process.{stays, gone}
use Rattle.elimination.specs.Records.{is_never, mark_record, fraction_of}
use Rattle.listing.specs.Listed.{removal_at}
use Rattle.listing.proofs.put_mark.Goals as goal

-- what becomes of mark m, by its record d as it was read
module _ (p : List ℕ) (m : ℕ) {d : Record} (is : d ≡ mark_record p m) where
  stays_is : is_never d ≡ true → removal_at p m ≡ stays
  unfolding removal_at
  stays_is e = rw (sym (ap is_never is) ∙ e)

  gone_is : is_never d ≡ false → removal_at p m ≡ gone d.eliminator (fraction_of d)
  unfolding removal_at
  gone_is e = rw (sym (ap is_never is) ∙ e) (ap (λ (x : Record). gone x.eliminator (fraction_of x)) (sym is))

pub returns-then-is_never : goal.returns-then-is_never
returns-then-is_never c =
    let a = c.args in
    rw (← stays_is a.schedule.now a.m c.record_at-d.ensures (sym c.is_never.ensures ∙ c.if-is_never.true)) at c.put_stays.ensures

pub put_gone-requires : goal.put_gone-requires
put_gone-requires c =
    let e = c.record_at-d.ensures in
    let z = c.requires.zoomable (sym (ap is_never e) ∙ sym c.is_never.ensures ∙ c.if-is_never.false) in
    rw (c.fraction_of.ensures, e) (c.requires.record_size_in_bounds.1, z.small, z.positive)

pub returns : goal.returns
returns c =
    let a = c.args in
    rw (c.fraction_of.ensures, ← gone_is a.schedule.now a.m c.record_at-d.ensures (sym c.is_never.ensures ∙ c.if-is_never.false)) at c.put_gone.ensures
