-- 02, request 13: "Uniqueness is shown for any symmetric pair value, and disks, popups and squares are cases of it." What a pair value is, the
-- cases by name, and the theorem, which none of them proves again.
use Rattle.std.specs.Prelude.{ℕ, ◌<◌, ◌≤◌, List}
use Rattle.std.proofs.Common.{arith}
use Rattle.fractions.specs.declared.Fraction.{Fraction}
use Rattle.fractions.specs.declared.Value.{Value}
use Rattle.fractions.specs.Order.{Equal}
use Rattle.marks.specs.Marks.{larger, touching, rank_key}
use Rattle.marks.specs.Pairs.{popup_at, pair_value}
use Rattle.marks.proofs.Laws.{larger_symmetric, touching_symmetric, touching_positive, rank_distinct}
use Rattle.marks.proofs.PairLaws.{pair_positive}
use Rattle.elimination.specs.Marks.{Marks, Proper}
use Rattle.elimination.specs.Rules.{Keeps}
use Rattle.elimination.specs.Reel.{Reel}
use Rattle.elimination.proofs.Theorems.{unique}
use Rattle.elimination.specs.Cases.{PairValue, disks, squares, with_popups}

shape_case : (shape : ℕ) (s : List ℕ) → PairValue (touching shape s)
shape_case shape s = record { symmetric = touching_symmetric shape s; positive = touching_positive shape s }

pub disk_case : (s : List ℕ) → PairValue (disks s)
disk_case = shape_case 1

pub square_case : (s : List ℕ) → PairValue (squares s)
square_case = shape_case 2

pub popup_case : (q : List ℕ) (value : ℕ → ℕ → Fraction) → PairValue value → PairValue (with_popups q value)
popup_case q value is =
    record {
      symmetric = λ a b. rw (is.symmetric a b, larger_symmetric (popup_at q a) (popup_at q b));
      positive = λ a b. pair_positive (value a b) (larger (popup_at q a) (popup_at q b)) (is.positive a b);
    }

-- a reel's pair values: those of its shape, with its popups
pub reel_case : (r : Reel) → PairValue (pair_value r.shape r.marks r.popups)
unfolding pair_value
reel_case r = popup_case r.popups (touching r.shape r.marks) (shape_case r.shape r.marks)

-- ---- uniqueness, for every pair value

module _ (edition : ℕ) (s : List ℕ) (n : ℕ) (few : n ≤ 4096) (value : ℕ → ℕ → Fraction) (is : PairValue value) where
  -- n marks, ranked by this edition, with these pair values
  abbrev pub marks_by : Marks
  marks_by = record { count = n; key = rank_key edition s; value = value }

  pub proper_by : Proper marks_by
  proper_by =
      record {
        distinct = λ i j hi hj. rank_distinct edition s i j (omega arith) (omega arith);
        positive = is.positive;
        symmetric = is.symmetric;
      }

  pub unique_by : (r t : ℕ → Value) → Keeps marks_by r → Keeps marks_by t → (i : ℕ) → i < n → Equal (r i) (t i)
  unique_by = unique marks_by proper_by
