-- The bytes at the place that the contents give a part are its body, by its entry and by its code.
use Prim.Native.Nat.{ℕ, zero, suc, ◌<◌, ◌≤◌}
use Rattle.std.specs.Prelude.{◌≡◌, Bool, true, eqb, get_or}
use Rattle.std.proofs.Math.Path.{refl, sym}
use Rattle.std.proofs.Common.{◌∙◌, arith, lt-ltb, le-ltb, le-leb, eqb-true, ne_eqb}
use Rattle.std.proofs.Math.Bool.{false}
use Rattle.std.proofs.lemmas.Bool.{false≢true}
use mathlib.Core.List.{List, [], ◌∷◌, ◌++◌}
use Rattle.std.proofs.Math.Decide.{dec_lt}
use Rattle.std.proofs.Math.ListN.{length, get_or-eq_default}
use Rattle.std.proofs.lemmas.List.{length-map}
use Rattle.contents.specs.declared.Extent.{Extent}
use Rattle.contents.specs.declared.Layout.{Layout}
use Rattle.contents.specs.Contents.{Part, ◌holds◌, codes_of, bodies_of, has, find, count_at, code_at, offset_at, length_at, start_at, body_at, first_parts, split}
use Rattle.contents.specs.Questions.{top_code}
use Rattle.contents.specs.Laid.{Laid}
use Rattle.contents.specs.Places.{nowhere, extent_at, place_before, layout_of, no_parts, place_of, cut_of, Located}
use Rattle.contents.proofs.Lemmas.Parts.{split_length, split_code, split_body, has_more, find_more, find_none}
use Rattle.contents.proofs.Lemmas.Codes.{codes_differ, codes_positive, codes_most}
use Rattle.contents.proofs.Lemmas.Joined.{end_inside}

-- ---- the bytes at a place

pub cut_nowhere : (s : List ℕ) → cut_of s nowhere ≡ []
unfolding cut_of
cut_nowhere s = rw (le-leb 0 (length s) (omega arith))

-- where entry i says
pub cut_entry : (s : List ℕ) → Laid s → (i : ℕ) → i < count_at s → cut_of s (extent_at s i) ≡ body_at s i
unfolding cut_of
cut_entry s laid i l = rw (lt-ltb i (count_at s) l, le-leb _ _ (end_inside s laid i l))

pub cut_body : (s : List ℕ) → Laid s → (i : ℕ) → cut_of s (extent_at s i) ≡ get_or (bodies_of (split s)) i []
cut_body s laid i =
    elim (dec_lt i (count_at s)) [
      | yes l ↦ cut_entry s laid i l ∙ sym (split_body s i l)
      | no l ↦
          (let b : count_at s ≤ i = omega arith in
          let c : length (bodies_of (split s)) ≤ i = rw (length-map (split s), split_length s) b in
          rw (le-ltb i (count_at s) b) (cut_nowhere s ∙ sym (get_or-eq_default (bodies_of (split s)) [] c)))
    ]

-- ---- the place of a code

-- Where the part of a code lies by the first k entries: nowhere, where there is none, or where its entry says.
data Sought (s : List ℕ) (k code : ℕ) : Type 0 where
  absent : has (first_parts s k) code ≡ false → place_before s k code ≡ nowhere → Sought s k code
  present : (i : ℕ) → i < k → code_at s i ≡ code → has (first_parts s k) code ≡ true → find (first_parts s k) code ≡ body_at s i
      → place_before s k code ≡ extent_at s i → Sought s k code

module _ (s : List ℕ) (laid : Laid s) where
  codes_apart : (i j : ℕ) → i < j → j < count_at s → code_at s i < code_at s j
  codes_apart i j l h =
      let d = codes_differ (codes_of (split s)) laid.codes i j l (rw (length-map (split s), split_length s) h) in
      omega (arith, d, split_code s i (omega arith), split_code s j h)

  pub code_most : (i : ℕ) → i < count_at s → code_at s i ≤ top_code
  code_most i l = rw (← split_code s i l) (codes_most (codes_of (split s)) laid.codes i)

  pub code_positive : (i : ℕ) → i < count_at s → 0 < code_at s i
  code_positive i l =
      rw (← split_code s i l) (codes_positive (codes_of (split s)) laid.codes i (rw (length-map (split s), split_length s) l))

  placed : (k code : ℕ) → k ≤ count_at s → Sought s k code
  unfolding place_before
  placed zero code h = absent refl refl
  placed (suc k) code h = step (eqb (code_at s k) code) refl (placed k code (omega arith))
    where
      more : List Part
      more = first_parts s k ++ ((code_at s k holds body_at s k) ∷ [])

      step : (b : Bool) → eqb (code_at s k) code ≡ b → Sought s k code → Sought s (suc k) code
      step true e (absent none nowhere-is) =
          present k (omega arith) (eqb-true (code_at s k) code e)
          (has_more (first_parts s k) (code_at s k holds body_at s k) code ∙ rw (none, e))
          (find_more (first_parts s k) (code_at s k holds body_at s k) code ∙ rw (none, e)) (rw e)
      step true e (present i l is there found place) =
          absurd (omega (arith, codes_apart i k l (omega arith), is, eqb-true (code_at s k) code e))
      step false e (absent none nowhere-is) =
          absent (has_more (first_parts s k) (code_at s k holds body_at s k) code ∙ rw (none, e)) (rw e nowhere-is)
      step false e (present i l is there found place) =
          present i (omega arith) is
          (has_more (first_parts s k) (code_at s k holds body_at s k) code ∙ rw there)
          (find_more (first_parts s k) (code_at s k holds body_at s k) code ∙ rw there found) (rw e place)

-- ---- the parts of a layout

-- where there is no part
pub located_none : (s : List ℕ) (parts : List Part) (code : ℕ) → has parts code ≡ false → Located s parts code 0 0
located_none s parts code none =
    record {
      inside = omega arith;
      bytes = sym (find_none parts code none);
      there = ((λ h. absurd (omega arith)), (λ e. absurd (false≢true (sym none ∙ e))));
    }

-- a code past the top has no place
place_past : (l : Layout) (code : ℕ) → top_code < code → place_of l code ≡ nowhere
place_past l code h =
    rw (
      ne_eqb code 1 (omega arith),
      ne_eqb code 2 (omega arith),
      ne_eqb code 3 (omega arith),
      ne_eqb code 4 (omega arith),
      ne_eqb code 5 (omega arith),
      ne_eqb code 6 (omega arith),
      ne_eqb code 7 (omega arith),
    )

pub place_none : (code : ℕ) → place_of no_parts code ≡ nowhere
place_none zero = refl
place_none (suc zero) = refl
place_none (suc (suc zero)) = refl
place_none (suc (suc (suc zero))) = refl
place_none (suc (suc (suc (suc zero)))) = refl
place_none (suc (suc (suc (suc (suc zero))))) = refl
place_none (suc (suc (suc (suc (suc (suc zero)))))) = refl
place_none (suc (suc (suc (suc (suc (suc (suc zero))))))) = refl
place_none (suc (suc (suc (suc (suc (suc (suc (suc code)))))))) = place_past no_parts (suc (suc (suc (suc (suc (suc (suc (suc code)))))))) (omega arith)

module _ (s : List ℕ) (laid : Laid s) where
  -- no body starts at 0: the contents stand there
  offset_positive : (i : ℕ) → i < count_at s → 0 < offset_at s i
  unfolding start_at
  offset_positive zero h = omega (arith, laid.offsets 0 h)
  offset_positive (suc i) h = omega (arith, laid.offsets (suc i) h, offset_positive i (omega arith))

  abbrev at_place : ℕ → Extent → Type 0
  at_place code e = (cut_of s e ≡ find (split s) code) × Located s (split s) code e.offset e.length

  placed_at : (code : ℕ) → at_place code (place_before s (count_at s) code)
  unfolding split
  placed_at code = go (placed s laid (count_at s) code (omega arith))
    where
      go : Sought s (count_at s) code → at_place code (place_before s (count_at s) code)
      go (absent none is) = rw is (cut_nowhere s ∙ sym (find_none (split s) code none), located_none s (split s) code none)
      go (present i l is there found place) =
          let e : extent_at s i ≡ record { offset = offset_at s i; length = length_at s i } = rw (lt-ltb i (count_at s) l) in
          rw place (
            cut_entry s laid i l ∙ sym found,
            rw e (record {
              inside = end_inside s laid i l;
              bytes = sym found;
              there = ((λ h. there), (λ h. offset_positive i l));
            }),
          )

  -- a code that no part has
  no_part : (code : ℕ) → ((i : ℕ) → i < count_at s → code_at s i ≡ code → ⊥) → has (split s) code ≡ false
  unfolding split
  no_part code h = go (placed s laid (count_at s) code (omega arith))
    where
      go : Sought s (count_at s) code → has (split s) code ≡ false
      go (absent none is) = none
      go (present i l is there found place) = absurd (h i l is)

  at_nowhere : (code : ℕ) → has (split s) code ≡ false → at_place code nowhere
  at_nowhere code none = (cut_nowhere s ∙ sym (find_none (split s) code none), located_none s (split s) code none)

  pub layout_at : (code : ℕ) → at_place code (place_of (layout_of s) code)
  layout_at zero = at_nowhere 0 (no_part 0 (λ i l e. omega (arith, e, code_positive s laid i l)))
  layout_at (suc zero) = placed_at 1
  layout_at (suc (suc zero)) = placed_at 2
  layout_at (suc (suc (suc zero))) = placed_at 3
  layout_at (suc (suc (suc (suc zero)))) = placed_at 4
  layout_at (suc (suc (suc (suc (suc zero))))) = placed_at 5
  layout_at (suc (suc (suc (suc (suc (suc zero)))))) = placed_at 6
  layout_at (suc (suc (suc (suc (suc (suc (suc zero))))))) = placed_at 7
  layout_at (suc (suc (suc (suc (suc (suc (suc (suc c)))))))) =
      let code = suc (suc (suc (suc (suc (suc (suc (suc c))))))) in
      rw (place_past (layout_of s) code (omega arith)) (at_nowhere code (no_part code (λ i l e. omega (arith, e, code_most s laid i l))))
