-- What the search of the whole index leaves in a cleared map is the map of the definition: the index holds each number below n once, and
-- no other.
use Rattle.std.specs.Prelude.{ℕ, ◌*◌, ◌/◌, ◌<◌, ◌≤◌, ◌≡◌, refl, Bool, true, not, List, length, get_or, eqb}
use Rattle.std.proofs.Common.{arith, sym, ap, ◌∙◌, le-ltb, eqb-true, eq-eqb}
use Rattle.std.proofs.lemmas.Bool.{false≢true}
use Rattle.lists.proofs.TestLaws.{by_cases, and_left, and_right, and_both}
use Rattle.lists.specs.Counting.{count, both, non, below}
use Rattle.lists.specs.Blocks.{block}
use Rattle.lists.proofs.CountLaws.{count_le, times_le}
use Rattle.numbers.specs.Little.{Bytes}
use Rattle.zoom.specs.Zoom.{largest_scale}
use Rattle.index.specs.Index.{index_of}
use Rattle.index.specs.Blocks.{entry_at}
use Rattle.index.proofs.Laws.{index_below, index_once, index_block, block_tree, index_entries}
use Rattle.bitmap.specs.Map.{map_size, bit_at}
use Rattle.bitmap.specs.Facts.{Shows, MapCleared, count_bits}
use Rattle.bitmap.proofs.Laws.{map_same, count_same, map_is, cleared_bit, count_shown_lem, count_bits_le}
use Rattle.view.specs.View.{Viewable, Viewed}
use Rattle.reaching.specs.declared.Bounds.{Bounds}
use Rattle.marks.proofs.PairLaws.{good_popup}
use Rattle.reaching.specs.declared.Window.{Window}
use Rattle.reaching.specs.Shown.{shown}
use Rattle.reaching.specs.Questions.{is_window, question11}
use Rattle.reaching.specs.Turning.{turned_back, shown_here}
use Rattle.reaching.proofs.Laws.{shown_back}
use Rattle.view.specs.Search.{widest_living, bounds_of, in_byte, BitsSet, Searchable}
use Rattle.view.proofs.Lemmas.Reaching.{shown_lives, shown_within}

module _ {s p q t map : List ℕ} {n : ℕ} (v : Viewable s p q t map n) where
  few : n ≤ 65536
  few = omega arith

  -- `b` is what the code has worked out
  pub whole_searchable : {cleared : List ℕ} (shape k : ℕ) (e : Bounds) {b : Bounds} → length cleared ≡ length map → k ≤ largest_scale
      → b ≡ bounds_of e k (widest_living s p k n) → Searchable (shown_here shape s p q k e) s p q t cleared b k 0 n true
  whole_searchable shape k e long taken is =
      record {
        n = n;
        whole = v.whole;
        below = index_entries s p n few t v.index_right;
        fits = omega arith;
        room = omega (arith, v.room);
        tree = block_tree s p n few t v.index_right;
        taken = taken;
        popups = λ m h. good_popup v.popups h;
        lives = shown_lives shape s p q k e;
        held = λ m h x axis. rw is (shown_within shape s p q k e m n h x axis);
      }

  -- ---- the map

  module _ {shown : ℕ → Bool} {cleared after : List ℕ} (c : MapCleared (map_size n) map cleared)
      (found : BitsSet shown (block (entry_at t) 0 n) cleared after) where
    set : BitsSet shown (index_of s p n) cleared after
    set = rw (index_block s p n few t v.index_right) at found

    is_set : (m : ℕ) → m < n → shown m ≡ true → bit_at after m ≡ 1
    is_set m h e =
        let q = both shown (eqb m) in
        set.on m (λ z. omega (arith, z, index_once s p n few m h, times_le q m (and_both e (eq-eqb m m refl)) (index_of s p n)))

    -- a test that no number below n passes
    none_of : (q : ℕ → Bool) → ((y : ℕ) → q y ≡ true → n ≤ y) → count q (index_of s p n) ≡ 0
    none_of q h = omega (arith, index_below s p n few, count_le q (non (below n)) (λ y e. ap not (le-ltb y n (h y e))) (index_of s p n))

    is_clear_lem : (m : ℕ) → m < 8 * map_size n → (shown m ≡ true → n ≤ m) → bit_at after m ≡ 0
    is_clear_lem m h past = set.off m (none_of (both shown (eqb m)) same) ∙ cleared_bit c m h
      where
        same : (y : ℕ) → both shown (eqb m) y ≡ true → n ≤ y
        same y e =
            let i : m ≡ y = eqb-true m y (and_right (shown y) (eqb m y) e) in
            omega (arith, past (ap shown i ∙ and_left (shown y) (eqb m y) e))

    shows : Shows shown n after
    shows =
        record {
          bits = λ m h.
              by_cases (shown m) (λ e. rw e (is_set m h e))
              (λ e. rw e (is_clear_lem m (omega arith) (λ q. absurd (false≢true (sym e ∙ q)))));
          unused = λ m h l. is_clear_lem m l (λ q. h);
        }

    rest : (i : ℕ) → map_size n ≤ i → get_or after i 0 ≡ get_or map i 0
    rest i h = set.rest i (none_of (in_byte i) (λ y e. omega (arith, h, eqb-true i (y / 8) e))) ∙ c.rest i h

    pub viewed : Bytes after → {r : ℕ} → r ≡ count_bits (bit_at after) (8 * map_size n) → Viewed shown n map after r
    viewed bytes r =
        record { map_is = map_is shows bytes map v.room (set.long ∙ c.long) rest; count_is = r ∙ count_shown_lem shows }

-- tests that agree are viewed alike
viewed_same : {p q : ℕ → Bool} {n : ℕ} {before after : List ℕ} {r : ℕ} → ((m : ℕ) → m < n → p m ≡ q m) → Viewed p n before after r → Viewed q n before after r
viewed_same {p} {q} {n} h v =
    record { map_is = rw (← map_same p q n h) v.map_is; count_is = v.count_is ∙ count_same p q n h }

-- What is found in the window turned back is what is shown in the window.
pub viewed_back : (shape : ℕ) (s p q : List ℕ) → Bytes s → (k : ℕ) {n : ℕ} (w : Window) {e : Bounds} → is_window w ≡ true → question11 w ≡ true → e ≡ turned_back w
    → {before after : List ℕ} {r : ℕ} → Viewed (shown_here shape s p q k e) n before after r → Viewed (shown shape s p q k w) n before after r
viewed_back shape s p q bytes k w taken order is v = viewed_same (λ m h. rw is (sym (shown_back w taken order shape s bytes k m p q))) v

-- the count of a map fits 32 bits
pub count_fits : (map : List ℕ) {n r : ℕ} → n ≤ 4096 → r ≡ count_bits (bit_at map) (8 * map_size n) → r < 4294967296
count_fits map {n} few e = omega (arith, e, count_bits_le map (8 * map_size n))
