-- Question 9: the numbers of part 3 are the tree exactly where all are below n and the check finds a tree.
use Rattle.std.specs.Prelude.{ℕ, ◌*◌, ◌≤◌, ◌≡◌, Bool, true, false, cond, List, length, Option, Some, None, is_some}
use Rattle.std.proofs.Common.{arith, sym, ◌∙◌, ltb-true, lt-ltb}
use Rattle.std.proofs.Math.Path.{refl, ap}
use Rattle.lists.proofs.TestLaws.{by_cases, same_test}
use Rattle.lists.specs.Counting.{count, ◌≈◌, non, below}
use Rattle.lists.specs.Blocks.{up_to, block}
use Rattle.lists.proofs.CountLaws.{alike_length}
use Rattle.lists.proofs.BlockLaws.{block_length, up_to_below, block_all, all_block}
use Rattle.numbers.specs.Little.{Bytes}
use Rattle.index.specs.Index.{beats, axis_key, index_of, index_bytes, is_index}
use Rattle.index.specs.Valid.{is_tree}
use Rattle.index.specs.Blocks.{entry_at}
use Rattle.index.specs.Check.{keys_found, Checkable, AllBelow}
use Rattle.index.specs.declared.Keys.{Keys}
use Rattle.index.proofs.Lemmas.TreeOf.{Made, tree_made, tree_is}
use Rattle.index.proofs.Lemmas.Beats.{beats_order}
use Rattle.index.proofs.Lemmas.Keys.{keys_differ}
use Rattle.index.proofs.Lemmas.Entries.{same_true, same_self, entries_back, bytes_back}

module _ (s p : List ℕ) (n : ℕ) (few : n ≤ 65536) where
  made : Made (beats p) (axis_key s) n true (up_to n)
  made = tree_made (beats p) (axis_key s) (beats_order p) n (λ axis. keys_differ s axis n few)

  pub index_alike : index_of s p n ≈ up_to n
  unfolding index_of
  index_alike = made.alike

  pub index_tree : is_tree (beats p) (axis_key s) true (index_of s p n) ≡ true
  unfolding index_of
  index_tree = made.tree

  pub index_size : length (index_of s p n) ≡ n
  index_size = alike_length (index_of s p n) (up_to n) index_alike ∙ block_length (λ i. i) 0 n

  pub index_below : (b : ℕ) → n ≤ b → count (non (below b)) (index_of s p n) ≡ 0
  index_below b h = index_alike (non (below b)) ∙ up_to_below n b h

  pub index_only : (l : List ℕ) → length l ≡ n → count (non (below n)) l ≡ 0 → is_tree (beats p) (axis_key s) true l ≡ true
      → l ≡ index_of s p n
  unfolding index_of
  index_only = tree_is (beats p) (axis_key s) (beats_order p) n (λ axis. keys_differ s axis n few)

  -- the bytes that question 9 accepts hold the tree
  pub index_entries : (t : List ℕ) → is_index s p t n ≡ true → block (entry_at t) 0 n ≡ index_of s p n
  unfolding is_index
  index_entries t h =
      rw (same_true t (index_bytes (index_of s p n)) h)
      (ap (block (entry_at (index_bytes (index_of s p n))) 0) (sym index_size)
      ∙ entries_back (index_of s p n) (index_below 65536 few))

  pub entries_below : (t : List ℕ) → is_index s p t n ≡ true → AllBelow t n
  entries_below t h i g = ltb-true (entry_at t i) n (all_block (below n) (entry_at t) 0 n none i (omega arith) (omega arith))
    where
      none : count (non (below n)) (block (entry_at t) 0 n) ≡ 0
      none = rw (index_entries t h) (index_below n (omega arith))

  module _ (t : List ℕ) (bytes : Bytes t) (len : length t ≡ 2 * n) where
    pub index_yes : block (entry_at t) 0 n ≡ index_of s p n → is_index s p t n ≡ true
    unfolding is_index
    index_yes h = rw (← h, bytes_back t bytes n len) (same_self t)

-- something is found exactly where the test holds
some_where : (k : Keys) (b : Bool) → is_some (cond b (Some k) None) ≡ b
some_where k true = refl
some_where k false = refl

module _ (s p t : List ℕ) (n : ℕ) (w : Checkable s p t n) where
  -- what `is_index` answers where a number is not below n, and where all are
  pub whole_not : (AllBelow t n → ⊥) → is_index s p t n ≡ false
  whole_not not-all = by_cases (is_index s p t n) (λ e. absurd (not-all (entries_below s p n (omega arith) t e))) (λ e. e)

  tree_is_index : Bytes t → AllBelow t n → is_tree (beats p) (axis_key s) true (block (entry_at t) 0 n) ≡ is_index s p t n
  tree_is_index bytes all = same_test (is_tree (beats p) (axis_key s) true l) (is_index s p t n) there back
    where
      l : List ℕ
      l = block (entry_at t) 0 n

      small : count (non (below n)) l ≡ 0
      small = block_all (below n) (entry_at t) 0 n (λ i a b. lt-ltb (entry_at t i) n (all i (omega arith)))

      there : is_tree (beats p) (axis_key s) true l ≡ true → is_index s p t n ≡ true
      there e =
          index_yes s p n (omega arith) t bytes w.index_long
          (index_only s p n (omega arith) l (block_length (entry_at t) 0 n) small e)

      back : is_index s p t n ≡ true → is_tree (beats p) (axis_key s) true l ≡ true
      back e = rw (index_entries s p n (omega arith) t e) (index_tree s p n (omega arith))

  pub whole_is : Bytes t → AllBelow t n → {f : Option Keys} → f ≡ keys_found s p true (block (entry_at t) 0 n) → is_some f ≡ is_index s p t n
  unfolding keys_found
  whole_is bytes all e = rw (e, ← tree_is_index bytes all) (some_where _ _)
