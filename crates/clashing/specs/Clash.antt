-- Who clashes with the mark that is judged: the two break a rule, or it should have named the other. `r` is a reel and `p` part 2 of its
-- sheet.
use Rattle.std.specs.Prelude.{ℕ, ◌+◌, ◌*◌, ◌<◌, ◌≤◌, ◌≡◌, ◌≢◌, Bool, true, false, not, ◌&&◌, ◌||◌, List, length, eqb}
use Rattle.fractions.specs.declared.Fraction.{Fraction}
use Rattle.fractions.specs.declared.Value.{Value}
use Rattle.fractions.specs.declared.Value.TheVariants.{Never, At}
use Rattle.fractions.specs.Order.{less, Small}
use Rattle.marks.specs.Marks.{mark_size, label_at, used_at, outranks}
use Rattle.marks.specs.Pairs.{popup_size, popup_at, popup_value, pair_value, GoodPopup, GoodPopups}
use Rattle.marks.specs.Good.{GoodMarks}
use Rattle.elimination.specs.Records.{record_size, eliminator_at, value_at}
use Rattle.elimination.specs.Reel.{Reel}
use Rattle.index.specs.Index.{coordinate}
use Rattle.parts.specs.Questions.{is_schedule}
use Rattle.clashing.specs.declared.Subject.{Subject}

-- ---- who clashes with mark m

-- a removal value as a fraction: 'never', later than all, is 1/0
unfoldable pub limit_of : Value → Fraction
limit_of Never = record { num = 1; den = 0 }
limit_of (At f) = f

abbrev pub limit_at : List ℕ → ℕ → Fraction
limit_at p m = limit_of (value_at p m)

-- Mark g is not removed before m, and their pair value is below m's removal value; or it is that value, and then m should have named g.
-- A pair is seen from the mark that is removed first, and from both where they are removed together.
unfoldable pub clash : Reel → List ℕ → ℕ → ℕ → Bool
clash r p m g =
    let v = limit_at p m in
    let w = limit_at p g in
    let f = pair_value r.shape r.marks r.popups g m in
    not (eqb g m) && (not (less w v)
    && (less f v || (not (less v f) && (less f w && (outranks r.edition r.marks g m && outranks r.edition r.marks g (eliminator_at p m))))))

-- ---- mark m, as the others are held against it

-- the largest radius that a mark may have
abbrev pub widest_radius : ℕ
widest_radius = 16383

-- Mark m is removed no later than it pops up. No pair value of m is below that, so that only a mark that is removed later clashes with it.
abbrev pub is_tight : List ℕ → List ℕ → ℕ → Bool
is_tight popups p m = not (less (popup_value (popup_at popups m)) (limit_at p m))

-- mark m of the marks `s`, with what the search asks of it: the bound is one of the radii
unfoldable pub subject_of : ℕ → List ℕ → List ℕ → List ℕ → ℕ → ℕ → Subject
subject_of shape s popups p bound m =
    record {
      m = m;
      label = label_at s m;
      value = limit_at p m;
      tight = is_tight popups p m;
      shape = shape;
      x = coordinate s true m;
      y = coordinate s false m;
      reach = (used_at s m + bound) * (used_at s m + bound);
    }

-- ---- what the functions need

-- parts 1 and 5 passed questions 4 to 6 and 21, and part 2 questions 7 and 8
pub record Asked (r : Reel) (p : List ℕ) : Type 0 where
  pub marks : GoodMarks r.marks r.count
  pub popped : GoodPopups r.popups r.count
  pub schedule_long : length p ≡ record_size * r.count
  pub right : is_schedule r p ≡ true

-- The same of parts 2 and 5 as a proposal carries it: a fact that holds in one way only.
pub record Proposable (r : Reel) (p : List ℕ) : Type 0 where
  pub popups_sized : length r.popups ≢ 0 → length r.popups ≡ popup_size * r.count
  pub popups_small : (m : ℕ) → m < r.count → popup_at r.popups m ≤ 65536
  pub schedule_long : length p ≡ record_size * r.count
  pub right : is_schedule r p ≡ true

-- what a subject is made from
pub record Subjectable (s popups p : List ℕ) (bound m : ℕ) : Type 0 where
  pub marked : mark_size * m + mark_size ≤ length s
  pub popup : GoodPopup popups m
  pub scheduled : record_size * m + record_size ≤ length p
  pub limit_small : Small (limit_at p m)
  pub used : used_at s m ≤ widest_radius
  pub bound_small : bound ≤ widest_radius

-- what a subject has: its mark is one of n, and label and removal value are that mark's
pub record Subjected (s : List ℕ) (n : ℕ) (p : List ℕ) (q : Subject) : Type 0 where
  pub inside : q.m < n
  pub label_is : q.label ≡ label_at s q.m
  pub value_is : q.value ≡ limit_at p q.m

-- what a subject's numbers must be for their products to fit
pub record Fits (q : Subject) : Type 0 where
  pub value_small : Small q.value
  pub x_small : q.x < 65536
  pub y_small : q.y < 65536
  pub reach_small : q.reach ≤ 1073610756
