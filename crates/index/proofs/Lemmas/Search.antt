-- What a search down the tree may leave out: all under a root that is already removed, since the root is removed last; and a half that
-- the head of the other half bounds on the axis.
use Rattle.std.specs.Prelude.{ℕ, zero, suc, ◌<◌, ◌≤◌, ◌≡◌, Bool, true, false, not, ◌≢◌, List, ◌++◌, ltb}
use Rattle.std.proofs.Common.{arith, sym, ap, ◌∙◌, true≢false, ltb-true, ltb-false, lt-ltb, le-ltb}
use Rattle.lists.proofs.TestLaws.{by_cases, bit_zero, bit_false, bit_not_zero}
use Rattle.lists.specs.Counting.{count, non, under}
use Rattle.lists.specs.Blocks.{block}
use Rattle.lists.proofs.CountLaws.{count_le, under_le, over_le}
use Rattle.index.specs.Tree.{first, second}
use Rattle.index.specs.Valid.{Order, is_tree, Split}
use Rattle.index.specs.Blocks.{others_of, left_of, right_of, Halves}
use Rattle.index.proofs.Lemmas.Unique.{Node, tree_node}
use Rattle.index.proofs.Lemmas.Blocks.{block_root, block_left, block_right, block_others, block_whole}

module _ (beats : ℕ → ℕ → Bool) (key : Bool → ℕ → ℕ) (ord : Order beats) (axis : Bool) (e : ℕ → ℕ) (lo size : ℕ) where
  pub halves : size ≢ 0 → is_tree beats key axis (block e lo size) ≡ true → Halves beats key axis e lo size
  halves some t =
      record {
        whole = block_whole e lo size some;
        beaten = rw (← block_others e lo size some) n.beaten;
        split = rw (← l, ← r) n.split;
        left = rw (← l) n.left;
        right = rw (← r) n.right;
      }
    where
      n : Node beats key axis (e lo) (others_of e lo size)
      n = tree_node beats key ord axis (e lo) (others_of e lo size) (rw (← block_root e lo size some) t)

      l : first (others_of e lo size) ≡ left_of e lo size
      l = block_left e lo size some

      r : second (others_of e lo size) ≡ right_of e lo size
      r = block_right e lo size some

  -- under a root that does not live nobody lives, where who beats a living mark lives
  pub none_live : Halves beats key axis e lo size → (lives : ℕ → Bool)
      → ((a b : ℕ) → beats a b ≡ true → lives b ≡ true → lives a ≡ true) → lives (e lo) ≡ false → count lives (block e lo size) ≡ 0
  none_live h lives mono dead =
      let others = left_of e lo size ++ right_of e lo size in
      rw h.whole (omega (arith, bit_false dead, h.beaten, count_le lives (non (beats (e lo))) unbeaten others))
    where
      unbeaten : (y : ℕ) → lives y ≡ true → non (beats (e lo)) y ≡ true
      unbeaten y l = ap not (by_cases (beats (e lo) y) (λ b. absurd (true≢false (sym (mono (e lo) y b l) ∙ dead))) (λ b. b))

-- a half is left out where the head of the other half is past what is shown
module _ (k : ℕ → ℕ) (shown : ℕ → Bool) (e : ℕ → ℕ) (at : ℕ) where
  -- the key of the head
  abbrev head : ℕ
  head = k (e at)

  pub none_left : (l : List ℕ) (m : ℕ) → m ≢ 0 → Split k l (block e at m) → ((z : ℕ) → shown z ≡ true → head ≤ k z)
      → count shown l ≡ 0
  none_left l zero some s h = absurd (omega arith)
  none_left l (suc m) some s h = omega (arith, over_le k s.between head past l, count_le shown (non (under k head)) over l)
    where
      past : s.between ≤ head
      past = ltb-false head s.between (bit_zero (ltb head s.between) (omega (arith, s.right)))

      over : (z : ℕ) → shown z ≡ true → non (under k head) z ≡ true
      over z q = ap not (le-ltb (k z) head (h z q))

  pub none_right : (m : ℕ) (r : List ℕ) → m ≢ 0 → Split k (block e at m) r → ((z : ℕ) → shown z ≡ true → k z ≤ head)
      → count shown r ≡ 0
  none_right zero r some s h = absurd (omega arith)
  none_right (suc m) r some s h =
      omega (arith, under_le k (suc head) s.between past r, count_le shown (under k (suc head)) within r)
    where
      past : head < s.between
      past = ltb-true head s.between (bit_not_zero (ltb head s.between) (omega (arith, s.left)))

      within : (z : ℕ) → shown z ≡ true → under k (suc head) z ≡ true
      within z q = lt-ltb (k z) (suc head) (omega (arith, h z q))
