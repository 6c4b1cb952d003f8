-- The test of a tree, root by root: the depth bound does not matter, and what holds of both halves of a list goes on to the whole.
use Prim.Native.Nat.{ℕ, zero, suc, ◌+◌, ◌-◌, ◌≤◌}
use Rattle.std.proofs.Common.{arith, sym, ◌∙◌, length-take, length-drop}
use Rattle.std.specs.Prelude.{◌≡◌, Bool, true, false, not, ◌&&◌}
use Rattle.std.proofs.Math.Path.{refl, ap₂}
use Rattle.std.proofs.lemmas.Bool.{false≢true}
use mathlib.Core.List.{List, [], ◌∷◌}
use Rattle.std.proofs.Math.ListN.{length}
use Rattle.lists.proofs.TestLaws.{and_both}
use Rattle.lists.specs.Counting.{count}
use Rattle.lists.proofs.CountLaws.{count_cut}
use Rattle.index.specs.Tree.{half, first, second}
use Rattle.index.specs.Valid.{separated, heads, valid, is_tree, Split}
use Rattle.index.proofs.Lemmas.Separated.{separated_split, split_separated}

-- ---- the halves of a list

pub half_le : (m : ℕ) → half m ≤ m
half_le zero = omega arith
half_le (suc m) = omega arith

pub first_length : (e : List ℕ) → length (first e) ≡ half (length e)
first_length e = omega (arith, length-take (half (length e)) e, half_le (length e))

pub second_length : (e : List ℕ) → length (second e) ≡ length e - half (length e)
second_length e = length-drop (half (length e)) e

pub count_halves : (p : ℕ → Bool) (e : List ℕ) → count p e ≡ count p (first e) + count p (second e)
count_halves p e = count_cut p (half (length e)) e

module _ (P : Bool → List ℕ → Type 0) (none : (axis : Bool) → P axis [])
    (join : (axis : Bool) (r : ℕ) (e : List ℕ) → P (not axis) (first e) → P (not axis) (second e) → P axis (r ∷ e)) where
  up_to : (f : ℕ) (axis : Bool) (l : List ℕ) → length l ≤ f → P axis l
  up_to zero axis [] h = none axis
  up_to zero axis (r ∷ e) h = absurd (omega arith)
  up_to (suc f) axis [] h = none axis
  up_to (suc f) axis (r ∷ e) h =
      join axis r e (up_to f (not axis) (first e) (omega (arith, first_length e, half_le (length e))))
      (up_to f (not axis) (second e) (omega (arith, second_length e)))

  -- what holds of the empty list, and of a list wherever it holds of the halves of all but its first, holds of every list
  pub by_halves : (axis : Bool) (l : List ℕ) → P axis l
  by_halves axis l = up_to (length l) axis l (omega arith)

-- ---- the test

all_true : (a b c d e : Bool) → (a && b) && c && (d && e) ≡ true
    → (a ≡ true) × (b ≡ true) × (c ≡ true) × (d ≡ true) × (e ≡ true)
all_true true true true true e h = (refl, refl, refl, refl, h)
all_true true true true false e h = absurd (false≢true h)
all_true true true false d e h = absurd (false≢true h)
all_true true false c d e h = absurd (false≢true h)
all_true false b c d e h = absurd (false≢true h)

module _ (beats : ℕ → ℕ → Bool) (key : Bool → ℕ → ℕ) where
  valid_same : (f g : ℕ) (axis : Bool) (l : List ℕ) → length l ≤ f → length l ≤ g → valid beats key f axis l ≡ valid beats key g axis l
  unfolding valid
  valid_same zero zero axis l a b = refl
  valid_same zero (suc g) axis [] a b = refl
  valid_same zero (suc g) axis (r ∷ e) a b = absurd (omega arith)
  valid_same (suc f) zero axis [] a b = refl
  valid_same (suc f) zero axis (r ∷ e) a b = absurd (omega arith)
  valid_same (suc f) (suc g) axis [] a b = refl
  valid_same (suc f) (suc g) axis (r ∷ e) a b =
      ap₂
      (λ (u v : Bool). (heads beats r (first e) && heads beats r (second e)) && separated (key axis) (first e) (second e) && (u && v))
      (valid_same f g (not axis) (first e) (omega (arith, short)) (omega (arith, short)))
      (valid_same f g (not axis) (second e) (omega (arith, second_length e)) (omega (arith, second_length e)))
    where
      short : length (first e) ≤ length e
      short = omega (arith, first_length e, half_le (length e))

  -- the test at a root is the tests of its halves, and three more
  pub tree_step : (axis : Bool) (r : ℕ) (e : List ℕ) → is_tree beats key axis (r ∷ e)
      ≡ ((heads beats r (first e) && heads beats r (second e)) && separated (key axis) (first e) (second e)
      && (is_tree beats key (not axis) (first e) && is_tree beats key (not axis) (second e)))
  unfolding valid is_tree
  tree_step axis r e =
      ap₂
      (λ (u v : Bool). (heads beats r (first e) && heads beats r (second e)) && separated (key axis) (first e) (second e) && (u && v))
      (valid_same (length e) (length (first e)) (not axis) (first e) (omega (arith, first_length e, half_le (length e))) (omega arith))
      (valid_same (length e) (length (second e)) (not axis) (second e) (omega (arith, second_length e)) (omega arith))

  pub record Tests (axis : Bool) (r : ℕ) (e : List ℕ) : Type 0 where
    pub left_head : heads beats r (first e) ≡ true
    pub right_head : heads beats r (second e) ≡ true
    pub split : Split (key axis) (first e) (second e)
    pub left : is_tree beats key (not axis) (first e) ≡ true
    pub right : is_tree beats key (not axis) (second e) ≡ true

  pub tested : (axis : Bool) (r : ℕ) (e : List ℕ) → is_tree beats key axis (r ∷ e) ≡ true → Tests axis r e
  tested axis r e h =
      let t = all_true (heads beats r (first e)) (heads beats r (second e)) (separated (key axis) (first e) (second e))
      (is_tree beats key (not axis) (first e)) (is_tree beats key (not axis) (second e)) (sym (tree_step axis r e) ∙ h) in
      record {
        left_head = t.0;
        right_head = t.1;
        split = separated_split (key axis) (first e) (second e) t.2;
        left = t.3;
        right = t.4;
      }

  pub tests_pass : (axis : Bool) (r : ℕ) (e : List ℕ) → Tests axis r e → is_tree beats key axis (r ∷ e) ≡ true
  tests_pass axis r e n =
      tree_step axis r e
      ∙ and_both (and_both (and_both n.left_head n.right_head) (split_separated (key axis) (first e) (second e) n.split))
      (and_both n.left n.right)
