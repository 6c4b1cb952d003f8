-- What the search may leave out: nobody clashes under a root that is over, and nobody in a half that lies too far. Assumes nothing.
use Rattle.std.specs.Prelude.{ℕ, zero, suc, ◌+◌, ◌-◌, ◌*◌, ◌<◌, ◌≤◌, ◌≡◌, refl, Bool, not, cond, List, ltb, eqb, ℤ, pos, negsuc, nat_abs}
use Rattle.std.proofs.Common.{sym, inl, inr, ltb-true, ltb-false, eqb-true, eq-eqb}
use Rattle.std.proofs.Math.Bool.{true, false}
use Rattle.std.proofs.lemmas.Bool.{false≢true}
use native.Mathlib.Omega.{arith}
use Rattle.std.proofs.Math.Nat.{mul-le-mul}
use Rattle.std.proofs.Math.IntN.{sub_ℕ}
use Rattle.lists.proofs.TestLaws.{by_cases, and_left, either, or_right}
use Rattle.fractions.specs.declared.Fraction.{Fraction}
use Rattle.fractions.specs.declared.Value.{Value}
use Rattle.fractions.specs.declared.Value.TheVariants.{Never, At}
use Rattle.fractions.specs.Order.{less, later, level, Less, AtMost, Sound}
use Rattle.fractions.proofs.Laws.{at_most_trans, less_iff, same_iff, less_at_most, at_most_less}
use Rattle.marks.specs.Marks.{x_at, y_at, shifted, used_at, apart, larger, touching_of, touching}
use Rattle.marks.proofs.Laws.{larger_least, distance_x, distance_y, touching_positive}
use Rattle.marks.specs.Pairs.{popup_at, popup_value, pair_value}
use Rattle.marks.proofs.PairLaws.{popup_grows, pairs_positive, pairs_touching, pairs_popup}
use Rattle.elimination.specs.Records.{value_at}
use Rattle.elimination.specs.Reel.{Reel}
use Rattle.index.specs.Index.{beats, coordinate}
use Rattle.clashing.specs.declared.Subject.{Subject}
use Rattle.clashing.specs.Clash.{limit_of, limit_at, clash, is_tight, Fits}
use Rattle.clashing.specs.Cuts.{is_over, gap_to}
use Rattle.clashing.proofs.Laws.Clash.{value_sound, no_less, not_less, Clash, clash_there, clash_later}

-- ---- no clash, by a contradiction

pub no_clash : (r : Reel) (p : List ℕ) (m g : ℕ) → (Clash r p m g → ⊥) → clash r p m g ≡ false
no_clash r p m g h = by_cases (clash r p m g) (λ e. absurd (h (clash_there r p m g e))) (λ e. e)

-- ---- who beats whom, by limits

later_limit : (v w : Value) → later v w ≡ true → AtMost (limit_of w) (limit_of v)
unfolding later limit_of
later_limit Never Never e = absurd (false≢true e)
later_limit Never (At g) e = record { cross = omega arith }
later_limit (At f) Never e = absurd (false≢true e)
later_limit (At f) (At g) e = let l = (less_iff g f).0 e in record { cross = omega (arith, l.cross) }

level_limit : (v w : Value) → level v w ≡ true → AtMost (limit_of w) (limit_of v)
unfolding level limit_of
level_limit Never Never e = record { cross = omega arith }
level_limit Never (At g) e = absurd (false≢true e)
level_limit (At f) Never e = absurd (false≢true e)
level_limit (At f) (At g) e = let l = (same_iff f g).0 e in record { cross = omega (arith, l.cross) }

beats_limit : (p : List ℕ) (a b : ℕ) → beats p a b ≡ true → AtMost (limit_at p b) (limit_at p a)
unfolding beats
beats_limit p a b e =
    elim (either (later (value_at p a) (value_at p b)) _ e) [
      | inl l ↦ later_limit (value_at p a) (value_at p b) l
      | inr l ↦ level_limit (value_at p a) (value_at p b) (and_left (level (value_at p a) (value_at p b)) (ltb a b) l)
    ]

-- a limit at most one that is over is over
under_less : (u w v : Value) → Sound u → Sound w → AtMost (limit_of u) (limit_of w) → Less (limit_of w) (limit_of v) → Less (limit_of u) (limit_of v)
unfolding limit_of
under_less Never Never v su sw a l = l
under_less Never (At g) v su sw a l = absurd (omega (arith, a.cross))
under_less (At f) w v su sw a l = at_most_less {f = f} su a l

-- one at most another that is no later is no later: `v` is removed
under_most : (u w v : Value) → Sound w → 0 < (limit_of v).den → AtMost (limit_of u) (limit_of w) → AtMost (limit_of w) (limit_of v) → AtMost (limit_of u) (limit_of v)
unfolding limit_of
under_most u Never v sw d a l = absurd (omega (arith, l.cross))
under_most u (At g) v sw d a l = at_most_trans {g = g} sw a l

under_zero : (u w : Value) → Sound w → AtMost (limit_of u) (limit_of w) → (limit_of w).num ≡ 0 → (limit_of u).num ≡ 0
unfolding limit_of
under_zero u Never sw a z = absurd (omega arith)
under_zero Never (At g) sw a z = absurd (omega (arith, a.cross))
under_zero (At f) (At g) sw a z = no_product f.num g.den sw (omega (arith, a.cross, zero_times z))
  where
    zero_times : g.num ≡ 0 → g.num * f.den ≡ 0
    zero_times e = rw e (omega arith)

    no_product : (x y : ℕ) → 0 < y → x * y ≡ 0 → x ≡ 0
    no_product zero y d e = refl
    no_product (suc x) y d e = absurd (omega arith)

-- ---- a root that is over

-- a value that is at most a popup's is no 'never'
popup_removed : (v : Value) (k : ℕ) → Sound v → AtMost (limit_of v) (popup_value k) → 0 < (limit_of v).den
unfolding limit_of
popup_removed Never k s a = absurd (omega (arith, a.cross))
popup_removed (At f) k s a = s

module _ (r : Reel) (p : List ℕ) (m : ℕ) where
  abbrev v : Fraction
  v = limit_at p m

  -- A tight mark is removed no later than it pops up, and its pair values are no less.
  tight_popup : is_tight r.popups p m ≡ true → AtMost v (popup_value (popup_at r.popups m))
  tight_popup e = no_less (popup_value (popup_at r.popups m)) v e

  tight_least : is_tight r.popups p m ≡ true → (g : ℕ) → AtMost v (pair_value r.shape r.marks r.popups g m)
  tight_least e g =
      let popups = r.popups in
      at_most_trans {g = popup_value (popup_at popups m)} (omega arith) (tight_popup e)
      (at_most_trans {g = popup_value (larger (popup_at popups g) (popup_at popups m))} (omega arith)
      (popup_grows (larger_least (popup_at popups g) (popup_at popups m)).1) (pairs_popup r.shape r.marks popups g m))

  tight_removed : is_tight r.popups p m ≡ true → 0 < v.den
  tight_removed e = popup_removed (value_at p m) (popup_at r.popups m) (value_sound p m) (tight_popup e)

  -- nobody clashes that is removed at 0, or before m; nor, if m is tight, one that is removed together with m
  pub over_none : (tight : Bool) → tight ≡ is_tight r.popups p m → (g : ℕ) → is_over tight (limit_at p g) v ≡ true → Clash r p m g → ⊥
  over_none tight is g e c =
      let f = pair_value r.shape r.marks r.popups g m in
      let w = limit_at p g in
      elim (either (eqb w.num 0) _ e) [
        | inl z ↦
            (let x : w.num ≡ 0 = eqb-true w.num 0 z in
            let y : f.num * w.den < 0 * f.den = rw x at (clash_later r p m g c).cross in
            omega arith)
        | inr o ↦ go tight is o
      ]
    where
      go : (t : Bool) → t ≡ is_tight r.popups p m → cond t (not (less v (limit_at p g))) (less (limit_at p g) v) ≡ true → ⊥
      go false is o = let x = (less_iff (limit_at p g) v).0 o in omega (arith, x.cross, c.stays.cross)
      go true is o =
          let low = tight_least (sym is) g in
          let later = at_most_less {f = v} (tight_removed (sym is)) low (clash_later r p m g c) in
          let most = no_less v (limit_at p g) o in
          omega (arith, later.cross, most.cross)

  -- a mark that is beaten by one that is over is over
  pub over_under : (tight : Bool) → tight ≡ is_tight r.popups p m → (a b : ℕ) → beats p a b ≡ true
      → is_over tight (limit_at p a) v ≡ true → is_over tight (limit_at p b) v ≡ true
  over_under tight is a b h e =
      elim (either (eqb (limit_at p a).num 0) _ e) [
        | inl z ↦
            (let y = under_zero (value_at p b) (value_at p a) (value_sound p a) x (eqb-true (limit_at p a).num 0 z) in
            rw (eq-eqb (limit_at p b).num 0 y))
        | inr o ↦ or_right (eqb (limit_at p b).num 0) (go tight is o)
      ]
    where
      x : AtMost (limit_at p b) (limit_at p a)
      x = beats_limit p a b h

      go : (t : Bool) → t ≡ is_tight r.popups p m → cond t (not (less v (limit_at p a))) (less (limit_at p a) v) ≡ true
          → cond t (not (less v (limit_at p b))) (less (limit_at p b) v) ≡ true
      go false is o =
          (less_iff (limit_at p b) v).1
          (under_less (value_at p b) (value_at p a) (value_at p m) (value_sound p b) (value_sound p a) x ((less_iff (limit_at p a) v).0 o))
      go true is o =
          not_less v (limit_at p b)
          (under_most (value_at p b) (value_at p a) (value_at p m) (value_sound p a) (tight_removed (sym is)) x (no_less v (limit_at p a) o))

-- ---- a half that lies too far

sub_gap : (a b : ℕ) → nat_abs (sub_ℕ a b) ≡ a - b + (b - a)
sub_gap a b = go (ltb a b) refl
  where
    go : (t : Bool) → ltb a b ≡ t → nat_abs (cond t (negsuc (b - suc a)) (pos (a - b))) ≡ a - b + (b - a)
    go true e = omega (arith, ltb-true a b e)
    go false e = omega (arith, ltb-false a b e)

-- two places are no farther apart once they are shifted
gap_shifted : (a b : ℤ) → shifted a - shifted b + (shifted b - shifted a) ≤ apart a b
gap_shifted (pos a) (pos zero) = omega arith
gap_shifted (pos a) (pos (suc b)) = omega (arith, sub_gap a (suc b))
gap_shifted (pos a) (negsuc b) = omega arith
gap_shifted (negsuc a) (pos zero) = omega (arith, sub_gap 0 (suc a))
gap_shifted (negsuc a) (pos (suc b)) = omega arith
gap_shifted (negsuc a) (negsuc b) = omega (arith, sub_gap (suc b) (suc a))

module _ (shape : ℕ) (s : List ℕ) (m g : ℕ) where
  abbrev between : Bool → ℕ
  between axis = coordinate s axis g - coordinate s axis m + (coordinate s axis m - coordinate s axis g)

  -- the squared distance is at least that on one axis
  far_square : (axis : Bool) (d : ℕ) → d ≤ between axis → d * d ≤ (touching shape s g m).num
  unfolding coordinate touching touching_of
  far_square true d h =
      let x : d ≤ apart (x_at s g) (x_at s m) = omega (arith, gap_shifted (x_at s g) (x_at s m)) in
      omega (arith, mul-le-mul x x, distance_x shape (apart (x_at s g) (x_at s m)) (apart (y_at s g) (y_at s m)))
  far_square false d h =
      let x : d ≤ apart (y_at s g) (y_at s m) = omega (arith, gap_shifted (y_at s g) (y_at s m)) in
      omega (arith, mul-le-mul x x, distance_y shape (apart (x_at s g) (x_at s m)) (apart (y_at s g) (y_at s m)))

  far_radii : (bound : ℕ) → used_at s g ≤ bound → (touching shape s g m).den ≤ (used_at s m + bound) * (used_at s m + bound)
  unfolding touching touching_of
  far_radii bound h = let x : used_at s g + used_at s m ≤ used_at s m + bound = omega arith in mul-le-mul x x

-- the fraction that a gap and a bound give is at most the touching value, and so at most the pair value
pub far_none : (r : Reel) (p : List ℕ) (m g : ℕ) (axis : Bool) (d bound : ℕ)
    → d ≤ coordinate r.marks axis g - coordinate r.marks axis m + (coordinate r.marks axis m - coordinate r.marks axis g)
    → used_at r.marks g ≤ bound
    → less (limit_at p m) (record { num = d * d; den = (used_at r.marks m + bound) * (used_at r.marks m + bound) }) ≡ true
    → Clash r p m g → ⊥
far_none r p m g axis d bound h k e c =
    let s = r.marks in
    let far : Fraction = record { num = d * d; den = (used_at s m + bound) * (used_at s m + bound) } in
    let shape = r.shape in
    let t = touching shape s g m in
    let f = pair_value shape s r.popups g m in
    let x : AtMost far t = record { cross = mul-le-mul (far_square shape s m g axis d h) (far_radii shape s m g bound k) } in
    let y : AtMost far f = at_most_trans {g = t} (touching_positive shape s g m) x (pairs_touching shape s r.popups g m) in
    let z : Less (limit_at p m) f = less_at_most {g = far} (pairs_positive shape s r.popups g m) ((less_iff (limit_at p m) far).0 e) y in
    elim c.kind [
      | inl l ↦ omega (arith, l.cross, z.cross)
      | inr q ↦ omega (arith, q.0.cross, z.cross)
    ]

-- ---- the numbers of a gap

pub gap_small : (left : Bool) (a b : ℕ) → a < 65536 → b < 65536 → gap_to left a b ≤ 65535
gap_small true a b h k = omega arith
gap_small false a b h k = omega arith

pub place_small : {q : Subject} → Fits q → (axis : Bool) → cond axis q.x q.y < 65536
place_small f true = f.x_small
place_small f false = f.y_small
