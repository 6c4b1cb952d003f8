-- 02, request 14: "If two sheets scheduled here, of the same edition and shape, hold the same marks of priority p and above, in the same order and
-- with the same popups, then these marks have the same removal values and, counted among themselves, the same eliminators." What that says of
-- two reels and their schedules.
use Rattle.std.specs.Prelude.{ℕ, ◌+◌, ◌*◌, ◌<◌, ◌≡◌, Bool, List, leb, length, get_or}
use Rattle.lists.specs.Tests.{passing}
use Rattle.marks.specs.Marks.{mark_size, priority_at}
use Rattle.marks.specs.Pairs.{popup_at}
use Rattle.elimination.specs.declared.Record.{Record}
use Rattle.elimination.specs.Records.{never_record, mark_record}
use Rattle.elimination.specs.Reel.{Reel}

-- ---- "marks of priority p and above"

abbrev pub is_important : ℕ → Reel → ℕ → Bool
is_important p r m = leb p (priority_at r.marks m)

-- their numbers, in order
unfoldable pub important : ℕ → Reel → List ℕ
important p r = passing (is_important p r) r.count 0

-- how many there are, and the number of the i-th: they are counted among themselves, from 0 on
abbrev pub important_count : ℕ → Reel → ℕ
important_count p r = length (important p r)

abbrev pub important_at : ℕ → Reel → ℕ → ℕ
important_at p r i = get_or (important p r) i 0

-- ---- "hold the same"

-- Mark a of one reel and mark b of another are the same in all 11 bytes and in their popups; without part 5 a popup is 0.
pub record SameMark (r : Reel) (a : ℕ) (q : Reel) (b : ℕ) : Type 0 where
  pub bytes : (k : ℕ) → k < mark_size → get_or r.marks (mark_size * a + k) 0 ≡ get_or q.marks (mark_size * b + k) 0
  pub popup : popup_at r.popups a ≡ popup_at q.popups b

-- The other marks may be any, and stand anywhere between.
pub record SameImportant (p : ℕ) (r q : Reel) : Type 0 where
  pub edition : r.edition ≡ q.edition
  pub shape : r.shape ≡ q.shape
  pub as_many : important_count p r ≡ important_count p q
  pub marks : (i : ℕ) → i < important_count p r → SameMark r (important_at p r i) q (important_at p q i)

-- ---- "the same removal values and, counted among themselves, the same eliminators"

-- Records of two schedules, where f 0, .., f (c - 1) of the one are g 0, .., g (c - 1) of the other: both are 'never', or both have the same two
-- numbers and name the j-th of these marks.
pub data SameRecord (c : ℕ) (f g : ℕ → ℕ) : Record → Record → Type 0 where
  both_never : SameRecord c f g never_record never_record
  both_by : {j num den : ℕ} → j < c → SameRecord c f g (record { num = num; den = den; eliminator = f j }) (record { num = num; den = den; eliminator = g j })

-- So it is of each mark of priority p and above; `u` is the schedule of r, and `v` that of q.
abbrev pub Unmoved : ℕ → Reel → List ℕ → Reel → List ℕ → Type 0
Unmoved p r u q v =
    (i : ℕ) → i < important_count p r
    → SameRecord (important_count p r) (important_at p r) (important_at p q) (mark_record u (important_at p r i)) (mark_record v (important_at p q i))
