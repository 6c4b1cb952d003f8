-- Where the parts of a sheet lie, as plain values, and the bytes there.
use Rattle.std.specs.Prelude.{ℕ, zero, suc, ◌+◌, ◌<◌, ◌≤◌, ◌≡◌, Bool, true, cond, List, [], ◌↔◌, length, take, drop, ltb, leb, eqb}
use Rattle.contents.specs.declared.Extent.{Extent}
use Rattle.contents.specs.declared.Layout.{Layout}
use Rattle.contents.specs.Contents.{Part, find, has, count_at, code_at, offset_at, length_at}

-- no bytes: a part that is not there
abbrev pub nowhere : Extent
nowhere = record { offset = 0; length = 0 }

-- where body i lies, by the contents
abbrev pub extent_at : List ℕ → ℕ → Extent
extent_at s i = cond (ltb i (count_at s)) (record { offset = offset_at s i; length = length_at s i }) nowhere

-- where the part of this code lies, by the first i entries
unfoldable pub place_before : List ℕ → ℕ → ℕ → Extent
place_before s zero code = nowhere
place_before s (suc i) code = cond (eqb (code_at s i) code) (extent_at s i) (place_before s i code)

-- where all parts lie, by the contents
abbrev pub layout_of : List ℕ → Layout
layout_of s =
    let k = count_at s in
    record {
      count = k;
      marks = place_before s k 1;
      schedule = place_before s k 2;
      index = place_before s k 3;
      edition = place_before s k 4;
      popups = place_before s k 5;
      counts = place_before s k 6;
      shape = place_before s k 7;
    }

-- 01: "A refused sheet opens with no parts."
abbrev pub no_parts : Layout
no_parts = record { count = 0; marks = nowhere; schedule = nowhere; index = nowhere; edition = nowhere; popups = nowhere; counts = nowhere; shape = nowhere }

-- where the part of this code lies, by a layout
abbrev pub place_of : Layout → ℕ → Extent
place_of l code =
    cond (eqb code 1) l.marks
    (cond (eqb code 2) l.schedule
    (cond (eqb code 3) l.index
    (cond (eqb code 4) l.edition
    (cond (eqb code 5) l.popups
    (cond (eqb code 6) l.counts
    (cond (eqb code 7) l.shape nowhere))))))

-- Is the part of this code there, by a layout? No body starts at 0, where the contents stand.
abbrev pub is_there : Layout → ℕ → Bool
is_there l code = ltb 0 (place_of l code).offset

-- a layout with this place for this code
abbrev pub with_place : Layout → ℕ → Extent → Layout
with_place l code place =
    record {
      count = l.count;
      marks = cond (eqb code 1) place l.marks;
      schedule = cond (eqb code 2) place l.schedule;
      index = cond (eqb code 3) place l.index;
      edition = cond (eqb code 4) place l.edition;
      popups = cond (eqb code 5) place l.popups;
      counts = cond (eqb code 6) place l.counts;
      shape = cond (eqb code 7) place l.shape;
    }

-- the bytes there; none where the extent does not lie in the sheet
unfoldable pub cut_of : List ℕ → Extent → List ℕ
cut_of s e = cond (leb (e.offset + e.length) (length s)) (take e.length (drop e.offset s)) []

-- What a part's place says of the sheet s, whose parts are these: it lies in the sheet, the bytes there are the part's, and it is above 0
-- exactly where the part is there, so that an empty part and a missing one are told apart.
pub record Located (s : List ℕ) (parts : List Part) (code offset size : ℕ) : Type 0 where
  pub inside : offset + size ≤ length s
  pub bytes : take size (drop offset s) ≡ find parts code
  pub there : (0 < offset) ↔ (has parts code ≡ true)
