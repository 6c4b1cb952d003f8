-- Rows of one width: each is found again, a list is its rows, and a loop writes them one by one. Assumes nothing.
use Prim.Native.Nat.{ℕ, zero, suc, ◌+◌, ◌-◌, ◌*◌, ◌^◌, ◌<◌, ◌≤◌}
use Rattle.std.specs.Prelude.{◌≡◌, get_or, take}
use Rattle.std.proofs.Math.Path.{refl, sym, ap}
use Rattle.std.proofs.Common.{ap₂, ◌∙◌, add-one, take-append-drop, length-take, take_at, take_all, take-take, length-take-le, get_or-take, get_or-drop}
use mathlib.Core.List.{List, [], ◌++◌, append-nil}
use Rattle.std.proofs.Math.Decide.{dec_lt}
use Rattle.std.proofs.Math.Nat.{zero-add, mul-suc, mul-le-mul_left}
use native.Mathlib.Omega.{arith}
use Rattle.std.proofs.Math.ListN.{length, drop, length-append, length-drop, drop_of_length-le}
use Rattle.std.proofs.lemmas.List.Edits.{sets}
use Rattle.std.proofs.Math.Seq.{take-append-le, drop-append-add, drop_at, take-add, drop-drop}
use Rattle.std.proofs.lemmas.List.{drop-append-le}
use Rattle.lists.proofs.StoreLaws.{sets_append}
use Rattle.numbers.specs.Little.{le_at, le_bytes, Bytes}
use Rattle.numbers.proofs.Laws.{bytes_take, bytes_drop, bytes_append, le_length, le_drop, le_take, le_append, read_back}
use Rattle.rows.specs.Rows.{rows, row_at, without}

-- row i ends at or before row n
within : (w i n : ℕ) → i < n → w * i + w ≤ w * n
within w i n h = rw (mul-suc w i) at (mul-le-mul_left {m = suc i} {n = n} w h)

module _ (row : ℕ → List ℕ) (w : ℕ) where
  pub rows_length : (n : ℕ) → ((i : ℕ) → i < n → length (row i) ≡ w) → length (rows row n) ≡ w * n
  unfolding rows
  rows_length zero h = omega arith
  rows_length (suc n) h =
      rw (length-append (rows row n) (row n), mul-suc w n)
      (ap₂ ◌+◌ (rows_length n (λ i l. h i (omega arith))) (h n (omega arith)))

  -- row i of the first n
  pub rows_at : (n i : ℕ) → ((j : ℕ) → j < n → length (row j) ≡ w) → i < n → take w (drop (w * i) (rows row n)) ≡ row i
  unfolding rows
  rows_at zero i h l = absurd (omega arith)
  rows_at (suc n) i h l =
      let long = rows_length n (λ j k. h j (omega arith)) in
      elim (dec_lt i n) [
        | yes k ↦
            (let room : w * i + w ≤ length (rows row n) = rw long (within w i n k) in
            let left : w ≤ length (drop (w * i) (rows row n)) = simp length-drop (omega arith) in
            rw (drop-append-le (w * i) (rows row n) (row n) (omega arith), take-append-le w (drop (w * i) (rows row n)) (row n) left)
            (rows_at n i (λ j q. h j (omega arith)) k))
        | no k ↦
            (let e : i ≡ n = omega arith in
            rw (e, drop_at (rows row n) (row n) (w * n) long) (take_all w (row n) (omega (arith, h n (omega arith)))))
      ]

  -- a list of n rows is its rows
  rows_take : (s : List ℕ) (n : ℕ) → ((i : ℕ) → i < n → row i ≡ take w (drop (w * i) s)) → rows row n ≡ take (w * n) s
  unfolding rows
  rows_take s zero h = let e : w * 0 ≡ 0 = omega arith in rw e
  rows_take s (suc n) h =
      rw (mul-suc w n, take-add (w * n) w s)
      (ap₂ ◌++◌ (rows_take s n (λ i l. h i (omega arith))) (h n (omega arith)))

  pub rows_whole : (s : List ℕ) (n : ℕ) → length s ≡ w * n → ((i : ℕ) → i < n → row i ≡ take w (drop (w * i) s)) → rows row n ≡ s
  rows_whole s n e h = rows_take s n h ∙ take_all (w * n) s (omega arith)

pub rows_bytes : (row : ℕ → List ℕ) (n : ℕ) → ((i : ℕ) → i < n → Bytes (row i)) → Bytes (rows row n)
unfolding rows
rows_bytes row zero h = λ i. omega arith
rows_bytes row (suc n) h = bytes_append (rows row n) (row n) (rows_bytes row n (λ i l. h i (omega arith))) (h n (omega arith))

-- ---- rows behind rows, and a row taken out

-- a row of the first of two lists
front_row : (w i : ℕ) (s t : List ℕ) → w * i + w ≤ length s → row_at w (s ++ t) i ≡ row_at w s i
front_row w i s t h =
    let left : w ≤ length (drop (w * i) s) = simp length-drop (omega arith) in
    rw (drop-append-le (w * i) s t (omega arith), take-append-le w (drop (w * i) s) t left)

module _ (w : ℕ) (s : List ℕ) (n : ℕ) (long : length s ≡ w * n) where
  -- what stands before a row that is put behind them
  pub append_below : (t : List ℕ) (i : ℕ) → i < n → row_at w (s ++ t) i ≡ row_at w s i
  append_below t i h = front_row w i s t (omega (arith, within w i n h, long))

  -- which, taken out, leaves them
  pub without_last : (t : List ℕ) → length t ≡ w → without w (s ++ t) n ≡ s
  unfolding without
  without_last t k =
      let all : length (s ++ t) ≤ w * n + w = omega (arith, length-append s t) in
      rw (take_at s t (w * n) long, drop_of_length-le (s ++ t) all, append-nil s)

  module _ (m : ℕ) (low : m < n) where
    abbrev front : List ℕ
    front = take (w * m) s

    abbrev behind : List ℕ
    behind = drop (w * m + w) s

    front_long : length front ≡ w * m
    front_long = length-take-le (w * m) s (omega (arith, within w m n low, long))

    pub without_length : length (without w s m) + w ≡ length s
    unfolding without
    without_length = omega (arith, length-append front behind, front_long, length-drop (w * m + w) s, within w m n low, long)

    pub without_below : (i : ℕ) → i < m → row_at w (without w s m) i ≡ row_at w s i
    unfolding without
    without_below i h =
        let room : w * i + w ≤ length front = omega (arith, within w i m h, front_long) in
        front_row w i front behind room
        ∙ sym (front_row w i front (drop (w * m) s) room)
        ∙ ap (λ (l : List ℕ). row_at w l i) (take-append-drop (w * m) s)

    -- "higher numbers drop by one"
    pub without_above : (i : ℕ) → m ≤ i → row_at w (without w s m) i ≡ row_at w s (suc i)
    unfolding without
    without_above i h =
        let le : w * m ≤ w * i = mul-le-mul_left {m = m} {n = i} w h in
        let past : w * i ≡ length front + (w * i - w * m) = omega (arith, front_long) in
        let next : w * m + w + (w * i - w * m) ≡ w * suc i = omega (arith, mul-suc w i) in
        ap (take w)
        (ap (λ (k : ℕ). drop k (front ++ behind)) past ∙ drop-append-add front behind (w * i - w * m)
        ∙ drop-drop (w * i - w * m) (w * m + w) s ∙ ap (λ (k : ℕ). drop k s) next)

pub without_bytes : (w : ℕ) (s : List ℕ) (m : ℕ) → Bytes s → Bytes (without w s m)
unfolding without
without_bytes w s m b = bytes_append (take (w * m) s) (drop (w * m + w) s) (bytes_take (w * m) s b) (bytes_drop (w * m + w) s b)

-- ---- fields of a row of w bytes, at `at`

module _ (s row : List ℕ) (w at : ℕ) (e : take w (drop at s) ≡ row) where
  pub field_le : (k j : ℕ) → j + k ≤ w → le_at k s (at + j) ≡ le_at k row j
  field_le k j h = rw (← e, le_take k w (drop at s) j h, le_drop k at s j)

  pub field_get : (j : ℕ) → j < w → get_or s (at + j) 0 ≡ get_or row j 0
  field_get j h = rw (← e, get_or-take w (drop at s) j 0 h, get_or-drop at s j 0)

-- a number of k bytes that is found
pub le_found : (k : ℕ) (s : List ℕ) (at v : ℕ) → v < 2 ^ (8 * k) → take k (drop at s) ≡ le_bytes k v → le_at k s at ≡ v
le_found k s at v h e =
    let z : at + 0 ≡ at = omega arith in
    let room : 0 + k ≤ length (le_bytes k v) = rw (le_length k v) (omega arith) in
    (rw z at (field_le s (le_bytes k v) k at e k 0 (omega arith)))
    ∙ sym (le_append k (le_bytes k v) [] 0 room) ∙ read_back k [] [] v 0 refl h

-- ---- pieces of a row

pub cut_length : (s : List ℕ) (k at : ℕ) → at + k ≤ length s → length (take k (drop at s)) ≡ k
cut_length s k at h = simp (length-take, length-drop) (omega arith)

-- the start and the end of what stands at `at`
module _ (s front tail : List ℕ) (f k at : ℕ) (l : length front ≡ f) (e : take (f + k) (drop at s) ≡ front ++ tail) where
  head_of : take f (drop at s) ≡ front
  head_of = sym (take-take f (f + k) (drop at s) (omega arith)) ∙ ap (take f) e ∙ take_at front tail f l

  tail_of : at + (f + k) ≤ length s → take k (drop (at + f) s) ≡ tail
  tail_of h =
      let long : f ≤ length (drop at s) = simp length-drop (omega arith) in
      let cut : take f (drop at s) ++ take k (drop f (drop at s)) ≡ front ++ tail = rw (take-add f k (drop at s)) at e in
      rw (← drop-drop f at s)
      (sym (drop_at (take f (drop at s)) (take k (drop f (drop at s))) f (length-take-le f (drop at s) long))
      ∙ ap (drop f) cut ∙ drop_at front tail f l)

-- the three pieces of a row
pub record Pieces (s a b c : List ℕ) (p q r at : ℕ) : Type 0 where
  pub first : take p (drop at s) ≡ a
  pub second : take q (drop (at + p) s) ≡ b
  pub third : take r (drop (at + (p + q)) s) ≡ c

pub pieces_of : (s a b c : List ℕ) (p q r at : ℕ) → length a ≡ p → length b ≡ q → at + (p + (q + r)) ≤ length s
    → take (p + (q + r)) (drop at s) ≡ a ++ (b ++ c) → Pieces s a b c p q r at
pieces_of s a b c p q r at la lb h e =
    let t = tail_of s a (b ++ c) p (q + r) at la e h in
    let far : at + (p + q) ≡ at + p + q = omega arith in
    record {
      first = head_of s a (b ++ c) p (q + r) at la e;
      second = head_of s b c q r (at + p) lb t;
      third = rw far (tail_of s b c q r (at + p) lb t (omega arith));
    }

-- a row of three pieces
pub pieces : (s : List ℕ) (at p q r : ℕ)
    → take p (drop at s) ++ (take q (drop (at + p) s) ++ take r (drop (at + (p + q)) s)) ≡ take (p + (q + r)) (drop at s)
pieces s at p q r =
    let e : at + (p + q) ≡ at + p + q = omega arith in
    rw (e, ← drop-drop p at s, ← drop-drop q (at + p) s, take-add p (q + r) (drop at s), take-add q r (drop p (drop at s)), ← drop-drop p at s)

-- ---- writing

-- three pieces, each where the last ended
pub pieces_sets : (l : List ℕ) {l₁ l₂ l₃ : List ℕ} (a b c : List ℕ) (at : ℕ) {i j : ℕ}
    → (i ≡ at + length a) × (l₁ ≡ sets l at a) → (j ≡ i + length b) × (l₂ ≡ sets l₁ i b) → l₃ ≡ sets l₂ j c
    → l₃ ≡ sets l at (a ++ (b ++ c))
pieces_sets l a b c at p q e = rw (e, q.1, q.0, p.1, p.0, sets_append l at a, sets_append _ (at + length a) b)

module _ (row : ℕ → List ℕ) (w : ℕ) (before : List ℕ) where
  pub rows_none : before ≡ sets before 0 (rows row 0)
  unfolding rows
  rows_none = refl

  -- one turn of a loop that writes row i
  pub rows_more : (i : ℕ) {l after : List ℕ} → ((j : ℕ) → j < i → length (row j) ≡ w) → l ≡ sets before 0 (rows row i)
      → after ≡ sets l (w * i) (row i) → after ≡ sets before 0 (rows row (i + 1))
  unfolding rows
  rows_more i h e f =
      rw (add-one i, f, e, sets_append before 0 (rows row i) (row i), zero-add (length (rows row i)), rows_length row w i h)
