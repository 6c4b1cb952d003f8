-- The bytes of an index hold its numbers, and the numbers give the bytes back.
use Rattle.std.specs.Prelude.{ℕ, zero, suc, ◌+◌, ◌*◌, ◌<◌, ◌≤◌, ◌≡◌, refl, true, List, [], ◌∷◌, ◌++◌, length, get_or, take, drop, eqb, ltb}
use Rattle.std.proofs.Common.{arith, zero-add, ap₂, ◌∙◌, length-append, take_all, take-add, drop-drop, eqb-true, eq-eqb, ltb-true}
use Rattle.std.proofs.lemmas.Bool.{false≢true}
use Rattle.lists.proofs.TestLaws.{and_left, and_right, and_both, bit_not_zero}
use Rattle.lists.specs.Counting.{count, non, below}
use Rattle.lists.specs.Blocks.{block}
use Rattle.lists.proofs.BlockLaws.{block_is}
use Rattle.numbers.specs.Little.{le_bytes, Bytes}
use Rattle.numbers.proofs.Laws.{le_length, le_after, read_back, write_back}
use Rattle.index.specs.Index.{index_bytes, same_bytes}
use Rattle.index.specs.Blocks.{entry_at}

pub same_true : (s t : List ℕ) → same_bytes s t ≡ true → s ≡ t
unfolding same_bytes
same_true [] [] h = refl
same_true [] (b ∷ t) h = absurd (false≢true h)
same_true (a ∷ s) [] h = absurd (false≢true h)
same_true (a ∷ s) (b ∷ t) h =
    ap₂ ◌∷◌ (eqb-true a b (and_left (eqb a b) (same_bytes s t) h)) (same_true s t (and_right (eqb a b) (same_bytes s t) h))

pub same_self : (t : List ℕ) → same_bytes t t ≡ true
unfolding same_bytes
same_self [] = refl
same_self (a ∷ t) = and_both (eq-eqb a a refl) (same_self t)

pub bytes_length : (l : List ℕ) → length (index_bytes l) ≡ 2 * length l
unfolding index_bytes
bytes_length [] = refl
bytes_length (m ∷ l) = omega (arith, length-append (le_bytes 2 m) (index_bytes l), le_length 2 m, bytes_length l)

-- number i reads back
pub index_read : (l : List ℕ) → count (non (below 65536)) l ≡ 0 → (i : ℕ) → i < length l → entry_at (index_bytes l) i ≡ get_or l i 0
unfolding index_bytes
index_read [] h i g = absurd (omega arith)
index_read (m ∷ l) h zero g =
    read_back 2 [] (index_bytes l) m 0 refl (ltb-true m 65536 (bit_not_zero (ltb m 65536) (omega arith)))
index_read (m ∷ l) h (suc i) g =
    let e : 2 * suc i ≡ length (le_bytes 2 m) + 2 * i = omega (arith, le_length 2 m) in
    rw e (le_after 2 (le_bytes 2 m) (index_bytes l) (2 * i) ∙ index_read l (omega arith) i (omega arith))

pub entries_back : (l : List ℕ) → count (non (below 65536)) l ≡ 0 → block (entry_at (index_bytes l)) 0 (length l) ≡ l
entries_back l h = block_is (entry_at (index_bytes l)) 0 l (λ i g. rw (zero-add i) (index_read l h i g))

-- the numbers of a block give its bytes
block_bytes : (t : List ℕ) → Bytes t → (lo m : ℕ) → 2 * (lo + m) ≤ length t
    → index_bytes (block (entry_at t) lo m) ≡ take (2 * m) (drop (2 * lo) t)
unfolding index_bytes
block_bytes t b lo zero h = refl
block_bytes t b lo (suc m) h =
    let e : 2 * suc m ≡ 2 + 2 * m = omega arith in
    let d : 2 * suc lo ≡ 2 * lo + 2 = omega arith in
    rw (e, take-add 2 (2 * m) (drop (2 * lo) t), drop-drop 2 (2 * lo) t, ← d)
    (ap₂ ◌++◌ (write_back 2 t (2 * lo) b (omega arith)) (block_bytes t b (suc lo) m (omega arith)))

pub bytes_back : (t : List ℕ) → Bytes t → (n : ℕ) → length t ≡ 2 * n → index_bytes (block (entry_at t) 0 n) ≡ t
bytes_back t b n len = block_bytes t b 0 n (omega arith) ∙ take_all (2 * n) t (omega arith)
