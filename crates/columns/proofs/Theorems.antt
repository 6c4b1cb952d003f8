-- 02: "The inverse returns every multiple of 11 bytes up to 45,056 exactly, also where kind or radius would be refused, and the two undo
-- each other either way round." Of bytes of any such length; jobs has it of the calls.
use Rattle.std.specs.Prelude.{ℕ, ◌*◌, ◌<◌, ◌≤◌, ◌≡◌, refl, List, length}
use Rattle.std.proofs.Common.{◌∙◌, arith}
use Rattle.numbers.specs.Little.{Bytes}
use Rattle.columns.specs.Columns.{Values, in_marks, in_columns, places_by, differences, sums, to_columns, from_columns}
use Rattle.columns.proofs.Lemmas.Running.{sums_same, differences_same, sums_small, differences_small, sums_differences, differences_sums}
use Rattle.columns.proofs.Lemmas.Reading.{Agree, Small, columns_read, columns_same, columns_length, marks_read, marks_same, marks_length, small_marks, small_columns}
use Rattle.columns.proofs.Lemmas.Rejoined.{marks_again, columns_again}

-- ---- as many bytes as are given

pub to_length : (s : List ℕ) (n : ℕ) → length (to_columns s n) ≡ 11 * n
unfolding to_columns
to_length s n = columns_length _ n

pub from_length : (c : List ℕ) (n : ℕ) → length (from_columns c n) ≡ 11 * n
unfolding from_columns
from_length c n = marks_length _ n

-- ---- a change of the places alone: what it keeps of numbers it keeps of values

module _ (change : (ℕ → ℕ) → ℕ → ℕ) where
  changed_agree : ((v w : ℕ → ℕ) (m : ℕ) → ((k : ℕ) → k ≤ m → v k ≡ w k) → change v m ≡ change w m)
      → (v w : Values) (n : ℕ) → Agree v w n → Agree (places_by change v) (places_by change w) n
  changed_agree same v w n a =
      record {
        x = λ m l. same v.x w.x m (λ k h. a.x k (omega arith));
        y = λ m l. same v.y w.y m (λ k h. a.y k (omega arith));
        radius = a.radius;
        priority = a.priority;
        kind = a.kind;
        tag = a.tag;
      }

  changed_small : ((v : ℕ → ℕ) → ((m : ℕ) → v m < 65536) → (m : ℕ) → change v m < 65536) → (v : Values) → Small v → Small (places_by change v)
  changed_small stays v small =
      record {
        x = stays v.x small.x;
        y = stays v.y small.y;
        radius = small.radius;
        priority = small.priority;
        kind = small.kind;
        tag = small.tag;
      }

  changed_back : (undo : (ℕ → ℕ) → ℕ → ℕ) → ((v : ℕ → ℕ) → ((m : ℕ) → v m < 65536) → (m : ℕ) → undo (change v) m ≡ v m)
      → (v : Values) (n : ℕ) → Small v → Agree (places_by undo (places_by change v)) v n
  changed_back undo back v n small =
      record {
        x = λ m l. back v.x small.x m;
        y = λ m l. back v.y small.y m;
        radius = λ m l. refl;
        priority = λ m l. refl;
        kind = λ m l. refl;
        tag = λ m l. refl;
      }

-- ---- either way round

pub there_and_back : (s : List ℕ) (n : ℕ) → Bytes s → length s ≡ 11 * n → from_columns (to_columns s n) n ≡ s
unfolding to_columns from_columns
there_and_back s n b h =
    let v = in_marks s in
    let small = small_marks s b in
    let d = places_by differences v in
    marks_same _ _ n (changed_agree sums sums_same _ d n (columns_read d n (changed_small differences differences_small v small)))
    ∙ marks_same _ v n (changed_back differences sums sums_differences v n small)
    ∙ marks_again s b n h

pub back_and_there : (c : List ℕ) (n : ℕ) → Bytes c → length c ≡ 11 * n → to_columns (from_columns c n) n ≡ c
unfolding to_columns from_columns
back_and_there c n b h =
    let v = in_columns c n in
    let small = small_columns c n b in
    let d = places_by sums v in
    columns_same _ _ n (changed_agree differences differences_same _ d n (marks_read d n (changed_small sums sums_small v small)))
    ∙ columns_same _ v n (changed_back sums differences differences_sums v n small)
    ∙ columns_again c b n h
