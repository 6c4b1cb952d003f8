-- What is laid out as marks or as columns is read back, and is as long as it should be.
use Rattle.std.specs.Prelude.{ℕ, ◌+◌, ◌*◌, ◌^◌, ◌≤◌, ◌<◌, ◌≡◌, refl, List, [], ◌++◌, length}
use Rattle.std.proofs.Common.{ap, ap₂, ◌∙◌, append-nil, add-zero, zero-add, length-append}
use native.Mathlib.Omega.{arith}
use Rattle.numbers.specs.Little.{le_at, le_bytes, Bytes}
use Rattle.numbers.proofs.Laws.{le_length, le_bound, le_append, le_after, read_back}
use Rattle.columns.specs.Columns.{Values, mark, mark_of, as_marks, in_marks, column, as_columns, in_columns}
use Rattle.columns.proofs.Lemmas.Pieces.{pieces_same, pieces_length, pieces_at}

-- the same values of the first n marks
pub record Agree (v w : Values) (n : ℕ) : Type 0 where
  pub x : (m : ℕ) → m < n → v.x m ≡ w.x m
  pub y : (m : ℕ) → m < n → v.y m ≡ w.y m
  pub radius : (m : ℕ) → m < n → v.radius m ≡ w.radius m
  pub priority : (m : ℕ) → m < n → v.priority m ≡ w.priority m
  pub kind : (m : ℕ) → m < n → v.kind m ≡ w.kind m
  pub tag : (m : ℕ) → m < n → v.tag m ≡ w.tag m

-- values that fit their bytes
pub record Small (v : Values) : Type 0 where
  pub x : (m : ℕ) → v.x m < 65536
  pub y : (m : ℕ) → v.y m < 65536
  pub radius : (m : ℕ) → v.radius m < 65536
  pub priority : (m : ℕ) → v.priority m < 65536
  pub kind : (m : ℕ) → v.kind m < 256
  pub tag : (m : ℕ) → v.tag m < 65536

-- ---- one column

pub column_length : (w : ℕ) (value : ℕ → ℕ) (n : ℕ) → length (column w value n) ≡ w * n
column_length w value n = pieces_length w (λ m. le_bytes w (value m)) (λ m. le_length w (value m)) n

column_same : (w : ℕ) (f g : ℕ → ℕ) (n : ℕ) → ((m : ℕ) → m < n → f m ≡ g m) → column w f n ≡ column w g n
column_same w f g n h = pieces_same _ _ n (λ m l. ap (le_bytes w) (h m l))

column_at : (w : ℕ) (value : ℕ → ℕ) (n m : ℕ) → value m < 2 ^ (8 * w) → m < n → le_at w (column w value n) (w * m) ≡ value m
column_at w value n m h l =
    let e = pieces_at w (λ m. le_bytes w (value m)) (λ m. le_length w (value m)) w 0 n m (omega arith) l in
    let r : le_at w (le_bytes w (value m)) 0 ≡ value m = simp append-nil at (read_back w [] [] (value m) 0 refl h) in
    simp add-zero at e ∙ r

-- in the first column, and behind it
first : (w : ℕ) (value : ℕ → ℕ) (n m : ℕ) (q : List ℕ) → value m < 2 ^ (8 * w) → m < n → w * m + w ≤ w * n
    → le_at w (column w value n ++ q) (w * m) ≡ value m
first w value n m q h l k =
    le_append w (column w value n) q (w * m) (rw (column_length w value n) k) ∙ column_at w value n m h l

behind : (width w : ℕ) (value : ℕ → ℕ) (n : ℕ) (q : List ℕ) (at to : ℕ) → at ≡ w * n + to
    → le_at width (column w value n ++ q) at ≡ le_at width q to
behind width w value n q at to e = rw (e, ← column_length w value n) (le_after width (column w value n) q to)

-- ---- all columns

pub columns_length : (v : Values) (n : ℕ) → length (as_columns v n) ≡ 11 * n
unfolding as_columns
columns_length v n = simp (length-append, column_length) (omega arith)

pub columns_same : (v w : Values) (n : ℕ) → Agree v w n → as_columns v n ≡ as_columns w n
unfolding as_columns
columns_same v w n a =
    ap₂ ◌++◌ (column_same 2 _ _ n a.x)
    (ap₂ ◌++◌ (column_same 2 _ _ n a.y)
    (ap₂ ◌++◌ (column_same 2 _ _ n a.radius)
    (ap₂ ◌++◌ (column_same 2 _ _ n a.priority)
    (ap₂ ◌++◌ (column_same 1 _ _ n a.kind) (column_same 2 _ _ n a.tag)))))

module _ (v : Values) (n : ℕ) (small : Small v) where
  pub columns_read : Agree (in_columns (as_columns v n) n) v n
  unfolding as_columns
  columns_read =
      record {
        x = λ m l. rw (zero-add (2 * m)) (first 2 v.x n m _ (small.x m) l (omega arith));
        y = λ m l. behind 2 2 v.x n _ (2 * n + 2 * m) (2 * m) (omega arith) ∙ first 2 v.y n m _ (small.y m) l (omega arith);
        radius = λ m l.
            behind 2 2 v.x n _ (4 * n + 2 * m) (2 * n + 2 * m) (omega arith)
            ∙ behind 2 2 v.y n _ (2 * n + 2 * m) (2 * m) (omega arith)
            ∙ first 2 v.radius n m _ (small.radius m) l (omega arith);
        priority = λ m l.
            behind 2 2 v.x n _ (6 * n + 2 * m) (4 * n + 2 * m) (omega arith)
            ∙ behind 2 2 v.y n _ (4 * n + 2 * m) (2 * n + 2 * m) (omega arith)
            ∙ behind 2 2 v.radius n _ (2 * n + 2 * m) (2 * m) (omega arith)
            ∙ first 2 v.priority n m _ (small.priority m) l (omega arith);
        kind = λ m l.
            behind 1 2 v.x n _ (8 * n + 1 * m) (6 * n + 1 * m) (omega arith)
            ∙ behind 1 2 v.y n _ (6 * n + 1 * m) (4 * n + 1 * m) (omega arith)
            ∙ behind 1 2 v.radius n _ (4 * n + 1 * m) (2 * n + 1 * m) (omega arith)
            ∙ behind 1 2 v.priority n _ (2 * n + 1 * m) (1 * m) (omega arith)
            ∙ first 1 v.kind n m _ (small.kind m) l (omega arith);
        tag = λ m l.
            behind 2 2 v.x n _ (9 * n + 2 * m) (7 * n + 2 * m) (omega arith)
            ∙ behind 2 2 v.y n _ (7 * n + 2 * m) (5 * n + 2 * m) (omega arith)
            ∙ behind 2 2 v.radius n _ (5 * n + 2 * m) (3 * n + 2 * m) (omega arith)
            ∙ behind 2 2 v.priority n _ (3 * n + 2 * m) (1 * n + 2 * m) (omega arith)
            ∙ behind 2 1 v.kind n _ (1 * n + 2 * m) (2 * m) (omega arith)
            ∙ column_at 2 v.tag n m (small.tag m) l;
      }

-- ---- marks

pub mark_length : (v : Values) (m : ℕ) → length (mark_of v m) ≡ 11
mark_length v m = simp (length-append, le_length)

pub marks_length : (v : Values) (n : ℕ) → length (as_marks v n) ≡ 11 * n
unfolding as_marks
marks_length v n = pieces_length 11 (mark_of v) (mark_length v) n

pub marks_same : (v w : Values) (n : ℕ) → Agree v w n → as_marks v n ≡ as_marks w n
unfolding as_marks
marks_same v w n a =
    pieces_same _ _ n
    (λ m l. rw (a.x m l, a.y m l, a.radius m l, a.priority m l, a.kind m l, a.tag m l))

-- each value of one mark
module _ (x y radius priority kind tag : ℕ) where
  mark_x : x < 65536 → le_at 2 (mark x y radius priority kind tag) 0 ≡ x
  unfolding le_at le_bytes
  mark_x h = omega arith

  mark_y : y < 65536 → le_at 2 (mark x y radius priority kind tag) 2 ≡ y
  unfolding le_at le_bytes
  mark_y h = omega arith

  mark_radius : radius < 65536 → le_at 2 (mark x y radius priority kind tag) 4 ≡ radius
  unfolding le_at le_bytes
  mark_radius h = omega arith

  mark_priority : priority < 65536 → le_at 2 (mark x y radius priority kind tag) 6 ≡ priority
  unfolding le_at le_bytes
  mark_priority h = omega arith

  mark_kind : kind < 256 → le_at 1 (mark x y radius priority kind tag) 8 ≡ kind
  unfolding le_at le_bytes
  mark_kind h = omega arith

  mark_tag : tag < 65536 → le_at 2 (mark x y radius priority kind tag) 9 ≡ tag
  unfolding le_at le_bytes
  mark_tag h = omega arith

module _ (v : Values) (n : ℕ) (small : Small v) where
  in_mark : (width at m : ℕ) → at + width ≤ 11 → m < n → le_at width (as_marks v n) (11 * m + at) ≡ le_at width (mark_of v m) at
  unfolding as_marks
  in_mark width at m h l = pieces_at 11 (mark_of v) (mark_length v) width at n m h l

  pub marks_read : Agree (in_marks (as_marks v n)) v n
  marks_read =
      record {
        x = λ m l. in_mark 2 0 m (omega arith) l ∙ mark_x _ _ _ _ _ _ (small.x m);
        y = λ m l. in_mark 2 2 m (omega arith) l ∙ mark_y _ _ _ _ _ _ (small.y m);
        radius = λ m l. in_mark 2 4 m (omega arith) l ∙ mark_radius _ _ _ _ _ _ (small.radius m);
        priority = λ m l. in_mark 2 6 m (omega arith) l ∙ mark_priority _ _ _ _ _ _ (small.priority m);
        kind = λ m l. in_mark 1 8 m (omega arith) l ∙ mark_kind _ _ _ _ _ _ (small.kind m);
        tag = λ m l. in_mark 2 9 m (omega arith) l ∙ mark_tag _ _ _ _ _ _ (small.tag m);
      }

-- ---- values that are read from bytes fit

pub small_marks : (s : List ℕ) → Bytes s → Small (in_marks s)
small_marks s b =
    record {
      x = λ m. le_bound 2 s _ b;
      y = λ m. le_bound 2 s _ b;
      radius = λ m. le_bound 2 s _ b;
      priority = λ m. le_bound 2 s _ b;
      kind = λ m. le_bound 1 s _ b;
      tag = λ m. le_bound 2 s _ b;
    }

pub small_columns : (c : List ℕ) (n : ℕ) → Bytes c → Small (in_columns c n)
small_columns c n b =
    record {
      x = λ m. le_bound 2 c _ b;
      y = λ m. le_bound 2 c _ b;
      radius = λ m. le_bound 2 c _ b;
      priority = λ m. le_bound 2 c _ b;
      kind = λ m. le_bound 1 c _ b;
      tag = λ m. le_bound 2 c _ b;
    }
