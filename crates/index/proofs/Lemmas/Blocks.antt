-- A block is its root and the two halves of the others, each a block again.
use Rattle.std.specs.Prelude.{ℕ, suc, ◌+◌, ◌-◌, ◌/◌, ◌≡◌, ◌≢◌, ◌∷◌, ◌++◌, length}
use Rattle.std.proofs.Common.{arith, sym, ap, ap₂, ◌∙◌, take-append-drop}
use Rattle.lists.specs.Blocks.{block}
use Rattle.lists.proofs.BlockLaws.{block_length, block_take, block_drop}
use Rattle.index.specs.Tree.{half, first, second}
use Rattle.index.specs.Blocks.{others_of, left_of, right_of}

module _ (e : ℕ → ℕ) where
  module _ (lo size : ℕ) (some : size ≢ 0) where
    pub block_root : block e lo size ≡ e lo ∷ others_of e lo size
    block_root =
        let a : size ≡ suc (size - 1) = omega arith in
        let b : suc lo ≡ lo + 1 = omega arith in
        ap (block e lo) a ∙ ap (λ (i : ℕ). e lo ∷ block e i (size - 1)) b

    halves : half (length (others_of e lo size)) ≡ size / 2
    halves = rw (block_length e (lo + 1) (size - 1)) (omega arith)

    pub block_left : first (others_of e lo size) ≡ left_of e lo size
    block_left = rw halves (block_take e (lo + 1) (size - 1) (size / 2) (omega arith))

    pub block_right : second (others_of e lo size) ≡ right_of e lo size
    block_right = rw halves (block_drop e (lo + 1) (size - 1) (size / 2) (omega arith))

    pub block_others : others_of e lo size ≡ left_of e lo size ++ right_of e lo size
    block_others = sym (take-append-drop (half (length (others_of e lo size))) (others_of e lo size)) ∙ ap₂ ◌++◌ block_left block_right

    pub block_whole : block e lo size ≡ e lo ∷ (left_of e lo size ++ right_of e lo size)
    block_whole = rw (← block_others) block_root
