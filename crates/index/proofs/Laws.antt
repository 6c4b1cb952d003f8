-- What the other crates cite of the index. `s` is part 1, `p` part 2, `t` part 3 and n the number of marks; the proofs are in Lemmas.
use Rattle.std.specs.Prelude.{ℕ, ◌+◌, ◌*◌, ◌<◌, ◌≤◌, ◌≡◌, Bool, true, false, not, ◌↔◌, ◌≢◌, List, [], ◌∷◌, ◌++◌, length, take, drop, eqb}
use Rattle.std.proofs.Common.{arith, ◌∙◌}
use Rattle.lists.specs.Counting.{count, ◌≈◌, times, non, below}
use Rattle.lists.specs.Blocks.{up_to, block}
use Rattle.lists.proofs.BlockLaws.{up_to_times}
use Rattle.numbers.specs.Little.{le_bytes, Bytes}
use Rattle.numbers.proofs.Laws.{le_bytes_lem, bytes_append}
use Rattle.fractions.specs.declared.Fraction.{Fraction}
use Rattle.fractions.specs.declared.Value.TheVariants.{At}
use Rattle.fractions.specs.Order.{later}
use Rattle.elimination.specs.Records.{value_at}
use Rattle.index.specs.Tree.{first, second}
use Rattle.index.specs.Index.{beats, coordinate, axis_key, index_of, index_bytes, is_index}
use Rattle.index.specs.Valid.{Order, is_tree, Split}
use Rattle.index.specs.Blocks.{entry_at, others_of, left_of, right_of, Halves}
use Rattle.index.specs.Check.{AllBelow}
use Rattle.index.proofs.Lemmas.Beats as Beats
use Rattle.index.proofs.Lemmas.Blocks as Blocks
use Rattle.index.proofs.Lemmas.Separated as Separated
use Rattle.index.proofs.Lemmas.TreeOf as TreeOf
use Rattle.index.proofs.Lemmas.Entries as Entries
use Rattle.index.proofs.Lemmas.Question9 as Question9
use Rattle.index.proofs.Lemmas.Search as Search

-- The bytes of a list of numbers are bytes.
pub index_bytes_lem : (l : List ℕ) → Bytes (index_bytes l)
unfolding index_bytes
index_bytes_lem [] = λ i. omega arith
index_bytes_lem (m ∷ l) = bytes_append (le_bytes 2 m) (index_bytes l) (le_bytes_lem 2 m) (index_bytes_lem l)

-- ---- the tree of n marks

module _ (s p : List ℕ) (n : ℕ) (few : n ≤ 65536) where
  pub index_length : length (index_of s p n) ≡ n
  index_length = Question9.index_size s p n few

  -- Its members are the numbers below n, each once.
  pub index_members : index_of s p n ≈ up_to n
  index_members = Question9.index_alike s p n few

  pub index_below : count (non (below n)) (index_of s p n) ≡ 0
  index_below = Question9.index_below s p n few n (omega arith)

  pub index_once : (m : ℕ) → m < n → times m (index_of s p n) ≡ 1
  index_once m h = index_members (eqb m) ∙ up_to_times n m h

  pub index_tree : is_tree (beats p) (axis_key s) true (index_of s p n) ≡ true
  index_tree = Question9.index_tree s p n few

  -- "2 bytes a mark"
  pub index_long : length (index_bytes (index_of s p n)) ≡ 2 * n
  index_long = omega (arith, Entries.bytes_length (index_of s p n), index_length)

  -- Of lists of n numbers below n no other is a tree.
  pub index_only : (l : List ℕ) → length l ≡ n → count (non (below n)) l ≡ 0 → is_tree (beats p) (axis_key s) true l ≡ true
      → l ≡ index_of s p n
  index_only = Question9.index_only s p n few

  -- ---- what question 9 accepts

  module _ (t : List ℕ) where
    pub index_iff : (is_index s p t n ≡ true) ↔ (t ≡ index_bytes (index_of s p n))
    unfolding is_index
    index_iff = (Entries.same_true t (index_bytes (index_of s p n)), λ e. rw e (Entries.same_self (index_bytes (index_of s p n))))

    -- The numbers that an accepted index holds are the tree.
    pub index_block : is_index s p t n ≡ true → block (entry_at t) 0 n ≡ index_of s p n
    index_block = Question9.index_entries s p n few t

    pub block_tree : is_index s p t n ≡ true → is_tree (beats p) (axis_key s) true (block (entry_at t) 0 n) ≡ true
    block_tree h = rw (index_block h) index_tree

    pub index_entries : is_index s p t n ≡ true → AllBelow t n
    index_entries = Question9.entries_below s p n few t

-- ---- the search down the tree: what it may leave out

module _ (s p : List ℕ) (axis : Bool) (e : ℕ → ℕ) where
  pub block_halves : (lo size : ℕ) → size ≢ 0 → is_tree (beats p) (axis_key s) axis (block e lo size) ≡ true
      → Halves (beats p) (axis_key s) axis e lo size
  block_halves = Search.halves (beats p) (axis_key s) (Beats.beats_order p) axis e

  -- Where a root is not removed later than f, nobody in its block is: the root is removed last.
  pub none_later : (lo size : ℕ) → Halves (beats p) (axis_key s) axis e lo size → (f : Fraction)
      → later (value_at p (e lo)) (At f) ≡ false → count (λ m. later (value_at p m) (At f)) (block e lo size) ≡ 0
  none_later lo size h f =
      Search.none_live (beats p) (axis_key s) (Beats.beats_order p) axis e lo size h (λ m. later (value_at p m) (At f))
      (λ a b. Beats.beats_later p a b f)

  -- The head of the right half bounds the left half on the axis, and the head of the left half the right.
  module _ (shown : ℕ → Bool) (at size : ℕ) (some : size ≢ 0) where
    pub none_left : (l : List ℕ) → Split (axis_key s axis) l (block e at size) → e at < 65536
        → ((z : ℕ) → shown z ≡ true → coordinate s axis (e at) < coordinate s axis z) → count shown l ≡ 0
    unfolding axis_key
    none_left l d small h = Search.none_left (axis_key s axis) shown e at l size some d (λ z q. omega (arith, h z q))

    pub none_right : (r : List ℕ) → Split (axis_key s axis) (block e at size) r
        → ((z : ℕ) → shown z ≡ true → (z < 65536) × (coordinate s axis z < coordinate s axis (e at))) → count shown r ≡ 0
    unfolding axis_key
    none_right r d h = Search.none_right (axis_key s axis) shown e at size r some d (λ z q. omega (arith, h z q))

-- ---- for whoever makes a tree

-- Who beats whom is a strict total order, whatever the bytes.
pub beats_order : (p : List ℕ) → Order (beats p)
beats_order = Beats.beats_order

-- A block that is not empty is its root and the others, and these are their halves.
module _ (e : ℕ → ℕ) (lo size : ℕ) (some : size ≢ 0) where
  pub block_root : block e lo size ≡ e lo ∷ others_of e lo size
  block_root = Blocks.block_root e lo size some

  pub block_left : first (others_of e lo size) ≡ left_of e lo size
  block_left = Blocks.block_left e lo size some

  pub block_right : second (others_of e lo size) ≡ right_of e lo size
  block_right = Blocks.block_right e lo size some

  pub block_others : others_of e lo size ≡ left_of e lo size ++ right_of e lo size
  block_others = Blocks.block_others e lo size some

-- The keys of the two sides of a cut of a block are separated, where each on the left is below each on the right.
pub apart_split : (k e : ℕ → ℕ) (lo m h : ℕ) → h ≤ m → ((i j : ℕ) → lo ≤ i → i < lo + h → lo + h ≤ j → j < lo + m → k (e i) < k (e j))
    → Split k (take h (block e lo m)) (drop h (block e lo m))
apart_split = Separated.apart_split

-- Trees over the halves of a list whose members r beats are, joined under r, a tree.
module _ (beats : ℕ → ℕ → Bool) (key : Bool → ℕ → ℕ) (ord : Order beats) where
  pub tree_join : (axis : Bool) (r : ℕ) (rest l m : List ℕ) → count (non (beats r)) rest ≡ 0 → Split (key axis) (first rest) (second rest)
      → l ≈ first rest → m ≈ second rest → is_tree beats key (not axis) l ≡ true → is_tree beats key (not axis) m ≡ true
      → is_tree beats key axis (r ∷ (l ++ m)) ≡ true
  tree_join = TreeOf.join beats key ord

-- The numbers that 2n bytes hold give the bytes back.
pub bytes_back : (t : List ℕ) → Bytes t → (n : ℕ) → length t ≡ 2 * n → index_bytes (block (entry_at t) 0 n) ≡ t
bytes_back = Entries.bytes_back
