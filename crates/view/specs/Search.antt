-- What the contracts of the search down the index cite. `s` is part 1 of a sheet, `p` part 2, `q` part 5 and `t` part 3; an axis is true for x.
use Rattle.std.specs.Prelude.{ℕ, zero, suc, ◌+◌, ◌-◌, ◌*◌, ◌/◌, ◌<◌, ◌≤◌, ◌≡◌, Bool, true, false, cond, List, ◌≢◌, length, get_or, ltb, leb, eqb}
use Rattle.lists.specs.Counting.{count, both}
use Rattle.lists.specs.Blocks.{block}
use Rattle.marks.specs.Marks.{used_at}
use Rattle.marks.specs.Pairs.{GoodPopup}
use Rattle.elimination.specs.Records.{value_at}
use Rattle.zoom.specs.Zoom.{largest_scale}
use Rattle.zoom.specs.Living.{lives_at}
use Rattle.index.specs.Index.{beats, coordinate, axis_key}
use Rattle.index.specs.Valid.{is_tree}
use Rattle.index.specs.Blocks.{entry_at}
use Rattle.index.specs.Check.{Checkable, AllBelow}
use Rattle.bitmap.specs.Map.{map_size, bit_at}
use Rattle.reaching.specs.declared.Bounds.{Bounds}

-- ---- the bounds

-- the greater of `widest` and, where it is not removed, mark m's used radius
unfoldable pub wider : List ℕ → List ℕ → ℕ → ℕ → ℕ → ℕ
wider s p k widest m = cond (leb (used_at s m) widest) widest (cond (lives_at k (value_at p m)) (used_at s m) widest)

-- the greatest used radius of the marks below n that are not removed at z, popped up or not
unfoldable pub widest_living : List ℕ → List ℕ → ℕ → ℕ → ℕ
widest_living s p k zero = 0
widest_living s p k (suc n) = wider s p k (widest_living s p k n) n

-- an edge moved down, at most to 0, or up
unfoldable pub moved : ℕ → Bool → ℕ → ℕ
moved edge low by = cond low (edge - by) (edge + by)

-- the edges widened by what a label of the radius r takes up at z
unfoldable pub bounds_of : Bounds → ℕ → ℕ → Bounds
bounds_of b k r =
    let by = k * r / 64 in
    record { x0 = moved b.x0 true by; x1 = moved b.x1 false by; y0 = moved b.y0 true by; y1 = moved b.y1 false by }

-- the low or the high bound
abbrev pub bound_on : Bounds → Bool → Bool → ℕ
bound_on b axis low = cond axis (cond low b.x0 b.x1) (cond low b.y0 b.y1)

-- mark m lies in the bounds, on the axis
pub record Within (s : List ℕ) (b : Bounds) (m : ℕ) (axis : Bool) : Type 0 where
  pub low : bound_on b axis true ≤ coordinate s axis m
  pub high : coordinate s axis m ≤ bound_on b axis false

-- The coordinate c lies before the bounds, which rules out the left half; or after them, which rules out the right half.
unfoldable pub is_beyond : Bounds → Bool → Bool → ℕ → Bool
is_beyond b axis left c = cond left (ltb c (bound_on b axis true)) (ltb (bound_on b axis false) c)

-- how many of the `size` numbers of a half are searched; `head` is where the `other` numbers of the other half start
unfoldable pub size_to_search : List ℕ → List ℕ → Bounds → Bool → Bool → ℕ → ℕ → ℕ → ℕ
size_to_search s t b axis left head other size =
    cond (eqb other 0) size (cond (is_beyond b axis left (coordinate s axis (entry_at t head))) 0 size)

-- ---- what the search sets

-- how often m stands in l, where it is shown
abbrev pub times_shown : (ℕ → Bool) → ℕ → List ℕ → ℕ
times_shown shown m l = count (both shown (eqb m)) l

-- mark m's bit is in byte i
abbrev pub in_byte : ℕ → ℕ → Bool
in_byte i m = eqb i (m / 8)

-- The bits of the shown marks of l are set: the other bits, the bytes that hold no bit of l, and the length are as they were.
pub record BitsSet (shown : ℕ → Bool) (l before after : List ℕ) : Type 0 where
  pub on : (m : ℕ) → times_shown shown m l ≢ 0 → bit_at after m ≡ 1
  pub off : (m : ℕ) → times_shown shown m l ≡ 0 → bit_at after m ≡ bit_at before m
  pub rest : (i : ℕ) → count (in_byte i) l ≡ 0 → get_or after i 0 ≡ get_or before i 0
  pub long : length after ≡ length before

-- What the search of a block needs: it is a tree in the index of a sheet of n marks, whose bits the map holds; and who is shown is not
-- removed at z = k/64, and lies in the bounds.
pub record Searchable (shown : ℕ → Bool) (s p q t map : List ℕ) (b : Bounds) (k lo size : ℕ) (axis : Bool) : Type 0 where
  pub n : ℕ
  pub whole : Checkable s p t n
  pub below : AllBelow t n
  pub fits : lo + size ≤ n
  pub room : map_size n ≤ length map
  pub tree : is_tree (beats p) (axis_key s) axis (block (entry_at t) lo size) ≡ true
  pub taken : k ≤ largest_scale
  pub popups : (m : ℕ) → m < n → GoodPopup q m
  pub lives : (m : ℕ) → shown m ≡ true → lives_at k (value_at p m) ≡ true
  pub held : (m : ℕ) → m < n → shown m ≡ true → (axis : Bool) → Within s b m axis
