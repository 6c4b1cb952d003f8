-- The search of a block sets the bits of its shown marks: no mark of the block is shown where its root does not live, and none of a half
-- that is passed over.
use Rattle.std.specs.Prelude.{ℕ, ◌+◌, ◌-◌, ◌*◌, ◌/◌, ◌<◌, ◌≤◌, ◌≡◌, Bool, not, cond, ◌≢◌, ◌⊎◌, List, [], ◌∷◌, ◌++◌, length, eqb}
use native.Mathlib.Omega.{arith}
use Rattle.std.proofs.Common.{◌∙◌}
use Rattle.std.proofs.Math.Bool.{true, false}
use Rattle.std.proofs.Math.Logic.{inl, inr}
use borrow.Author.Tests.{ltb-true, lt-ltb, eqb-false}
use Rattle.lists.proofs.TestLaws.{by_cases, and_left, and_right}
use Rattle.lists.specs.Counting.{count, non, both, below}
use Rattle.lists.specs.Blocks.{block}
use Rattle.lists.proofs.CountLaws.{count_le, count_split, both_le}
use Rattle.lists.proofs.BlockLaws.{block_all}
use Rattle.marks.specs.Marks.{mark_size}
use Rattle.elimination.specs.Records.{record_size, value_at}
use Rattle.zoom.specs.Living.{zoom_squared, lives_at}
use Rattle.index.specs.Index.{beats, coordinate, axis_key}
use Rattle.index.specs.Valid.{valid, is_tree}
use Rattle.index.specs.Blocks.{entry_at, left_of, right_of, Halves}
use Rattle.index.specs.Check.{AllMarked}
use Rattle.index.proofs.Laws.{block_halves, none_later, none_left, none_right}
use Rattle.reaching.specs.declared.Bounds.{Bounds}
use Rattle.marks.specs.Pairs.{GoodPopup}
use Rattle.view.specs.Search.{bound_on, Within, is_beyond, size_to_search, BitsSet, Searchable}
use Rattle.view.proofs.Lemmas.Bits.{set_nothing, set_none, set_then}

-- ---- the halves of a block's others, the left one or the right one

abbrev start_of : Bool → ℕ → ℕ → ℕ
start_of left lo size = cond left (lo + 1) (lo + 1 + size / 2)

abbrev size_of : Bool → ℕ → ℕ
size_of left size = cond left (size / 2) (size - 1 - size / 2)

abbrev half_of : Bool → List ℕ → ℕ → ℕ → List ℕ
half_of left t lo size = block (entry_at t) (start_of left lo size) (size_of left size)

-- the head of the other half is beyond the bounds
abbrev other_beyond : Bool → List ℕ → List ℕ → Bounds → Bool → ℕ → ℕ → Bool
other_beyond left s t b axis lo size = is_beyond b axis left (coordinate s axis (entry_at t (start_of (not left) lo size)))

-- how many numbers of a half are searched
abbrev searched_of : Bool → List ℕ → List ℕ → Bounds → Bool → ℕ → ℕ → ℕ
searched_of left s t b axis lo size =
    size_to_search s t b axis left (start_of (not left) lo size) (size_of (not left) size) (size_of left size)

-- of numbers below n only those that are counted below n count
count_below : (n : ℕ) (q : ℕ → Bool) (l : List ℕ) → count (non (below n)) l ≡ 0 → count (both (below n) q) l ≡ 0 → count q l ≡ 0
count_below n q l a b = omega (arith, count_split q (below n) l, both_le (non (below n)) q l)

module _ {shown : ℕ → Bool} {s p q t map : List ℕ} {b : Bounds} {k lo size : ℕ} {axis : Bool}
    (r : Searchable shown s p q t map b k lo size axis) (some : size ≢ 0) where
  -- ---- the root

  pub root_fits : {root : ℕ} → root ≡ entry_at t lo → (mark_size * root + mark_size ≤ length s) × (record_size * root + record_size ≤ length p) × (root / 8 < length map)
  root_fits i = omega (arith, r.below lo (omega arith))

  pub root_popup : {root : ℕ} → root ≡ entry_at t lo → GoodPopup q root
  root_popup i = rw i (r.popups (entry_at t lo) (r.below lo (omega arith)))

  pub all_marked : AllMarked s t
  all_marked i h = omega (arith, r.below i (omega arith))

  parts : Halves (beats p) (axis_key s) axis (entry_at t) lo size
  parts = block_halves s p axis (entry_at t) lo size some r.tree

  none_lives : lives_at k (value_at p (entry_at t lo)) ≡ false → count (λ m. lives_at k (value_at p m)) (block (entry_at t) lo size) ≡ 0
  unfolding lives_at
  none_lives = none_later s p axis (entry_at t) lo size parts (zoom_squared k)

  -- ---- the halves

  half_fits : (left : Bool) → start_of left lo size + size_of left size ≤ lo + size
  half_fits true = omega arith
  half_fits false = omega arith

  half_smaller : (left : Bool) → size_of left size < size
  half_smaller true = omega arith
  half_smaller false = omega arith

  half_tree : (left : Bool) → is_tree (beats p) (axis_key s) (not axis) (half_of left t lo size) ≡ true
  half_tree true = parts.left
  half_tree false = parts.right

  half_below : (left : Bool) → count (non (below r.n)) (half_of left t lo size) ≡ 0
  half_below left =
      block_all (below r.n) (entry_at t) (start_of left lo size) (size_of left size)
      (λ i a b. lt-ltb (entry_at t i) r.n (r.below i (omega (arith, half_fits left))))

  head_small : (left : Bool) → size_of left size ≢ 0 → entry_at t (start_of left lo size) < 65536
  head_small left h = omega (arith, r.below (start_of left lo size) (omega (arith, half_fits left)))

  -- ---- where the root does not live

  pub block_none : {root : ℕ} → root ≡ entry_at t lo → lives_at k (value_at p root) ≡ false
      → BitsSet shown (block (entry_at t) lo size) map map
  block_none i dead =
      let l = block (entry_at t) lo size in
      let none = none_lives (rw (← i) dead) in
      set_none shown l
      (omega (arith, none, count_le shown (λ m. lives_at k (value_at p m)) r.lives l))
      (set_nothing shown map)

  -- ---- where the head of the other half is beyond the bounds

  seen : ℕ → Bool
  seen = both (below r.n) shown

  seen_within : (z : ℕ) → seen z ≡ true → (z < 65536) × Within s b z axis
  unfolding seen
  seen_within z h =
      let l : z < r.n = ltb-true z r.n (and_left (below r.n z) (shown z) h) in
      (omega arith, r.held z l (and_right (below r.n z) (shown z) h) axis)

  none_seen : (left : Bool) → size_of (not left) size ≢ 0 → other_beyond left s t b axis lo size ≡ true
      → count seen (half_of left t lo size) ≡ 0
  unfolding is_beyond
  none_seen true other past =
      let head = start_of false lo size in
      let below-low = ltb-true (coordinate s axis (entry_at t head)) (bound_on b axis true) past in
      none_left s p axis (entry_at t) seen head (size_of false size) other (left_of (entry_at t) lo size) parts.split
      (head_small false other) (λ z h. omega (arith, (seen_within z h).1.low, below-low))
  none_seen false other past =
      let head = start_of true lo size in
      let above-high = ltb-true (bound_on b axis false) (coordinate s axis (entry_at t head)) past in
      none_right s p axis (entry_at t) seen head (size_of true size) other (right_of (entry_at t) lo size) parts.split
      (λ z h. ((seen_within z h).0, omega (arith, (seen_within z h).1.high, above-high)))

  half_none : (left : Bool) → size_of (not left) size ≢ 0 → other_beyond left s t b axis lo size ≡ true
      → count shown (half_of left t lo size) ≡ 0
  unfolding seen
  half_none left other past =
      count_below r.n shown (half_of left t lo size) (half_below left) (none_seen left other past)

  -- a half is searched whole, or none of it is shown
  searched : (left : Bool) {m : ℕ} → m ≡ searched_of left s t b axis lo size
      → (m ≡ size_of left size) ⊎ ((m ≡ 0) × (count shown (half_of left t lo size) ≡ 0))
  unfolding size_to_search
  searched left i =
      let other = size_of (not left) size in
      by_cases (eqb other 0) (λ z. inl (i ∙ rw z))
      (λ z. by_cases (other_beyond left s t b axis lo size)
      (λ past. inr (i ∙ rw (z, past), half_none left (eqb-false other 0 z) past))
      (λ past. inl (i ∙ rw (z, past))))

  -- ---- what the call at a half needs, and what it gives

  module _ (left : Bool) {m : ℕ} (i : m ≡ searched_of left s t b axis lo size) where
    searched_most : m ≤ size_of left size
    searched_most = elim (searched left i) [ inl whole ↦ omega arith | inr none ↦ omega (arith, none.0) ]

    searched_tree : is_tree (beats p) (axis_key s) (not axis) (block (entry_at t) (start_of left lo size) m) ≡ true
    unfolding is_tree valid
    searched_tree = elim (searched left i) [ inl whole ↦ rw whole (half_tree left) | inr none ↦ rw none.0 ]

    -- `top` is the size, under which the call's own has to stay
    pub half_call : {top : ℕ} {after : List ℕ} → size ≡ top → length after ≡ length map
        → (m < top) × Searchable shown s p q t after b k (start_of left lo size) m (not axis)
    half_call {after = after} is long = (omega (arith, searched_most, half_smaller left), half_ready)
      where
        half_ready : Searchable shown s p q t after b k (start_of left lo size) m (not axis)
        half_ready =
            record {
              n = r.n;
              whole = r.whole;
              below = r.below;
              fits = omega (arith, searched_most, half_fits left);
              room = omega (arith, r.room);
              tree = searched_tree;
              taken = r.taken;
              popups = r.popups;
              lives = r.lives;
              held = r.held;
            }

    half_set : {a c : List ℕ} → BitsSet shown (block (entry_at t) (start_of left lo size) m) a c
        → BitsSet shown (half_of left t lo size) a c
    half_set set =
        elim (searched left i) [
          | inl whole ↦ rw whole at set
          | inr none ↦ set_none shown (half_of left t lo size) none.1 (rw none.0 at set)
        ]

  -- ---- the root, then the left half and the right half

  pub block_set : {root l u : ℕ} {a c d : List ℕ} → root ≡ entry_at t lo → BitsSet shown (root ∷ []) map a
      → l ≡ searched_of true s t b axis lo size → BitsSet shown (block (entry_at t) (lo + 1) l) a c
      → u ≡ searched_of false s t b axis lo size → BitsSet shown (block (entry_at t) (lo + 1 + size / 2) u) c d
      → BitsSet shown (block (entry_at t) lo size) map d
  block_set {root} i first l left u right =
      let lt = left_of (entry_at t) lo size in
      let rt = right_of (entry_at t) lo size in
      rw (parts.whole, ← i)
      (set_then shown (root ∷ []) (lt ++ rt) first
      (set_then shown lt rt (half_set true l left) (half_set false u right)))
