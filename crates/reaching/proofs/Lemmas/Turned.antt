-- The window turned back: it is as far from a place as the window is from the turned place, and its edges are edges. Assumes nothing.
use Prim.Native.Nat.{ℕ, zero, suc, ◌+◌, ◌-◌, ◌*◌, ◌≤◌}
use Rattle.std.proofs.Common.{arith, ◌∙◌, leb-true, le-leb}
use Rattle.std.specs.Prelude.{◌≡◌, refl, Bool, true, false, ◌&&◌, List, ℤ, pos, negsuc, neg_ℤ, ◌-ℤ◌}
use Rattle.std.proofs.Math.Path.{ap}
use Rattle.std.proofs.lemmas.Bool.{false≢true}
use Rattle.std.proofs.Math.Dec.{leb}
use Rattle.std.proofs.Math.IntN.{+ℤ_comm, neg_ℤ-neg_ℤ}
use Rattle.std.specs.Int.Signed.{le_z}
use Rattle.lists.proofs.TestLaws.{by_cases, and_left, and_right}
use Rattle.numbers.specs.Little.{Bytes}
use Rattle.marks.specs.Marks.{mark_size, y_offset, x_at, y_at, shifted, used_at, distance}
use Rattle.marks.proofs.Laws.{place_fits, distance_symmetric}
use Rattle.elimination.specs.Records.{value_at}
use Rattle.zoom.specs.Living.{lives_at}
use Rattle.index.specs.Index.{coordinate}
use Rattle.turns.specs.declared.Place.{Place}
use Rattle.turns.specs.Turns.{turned_place}
use Rattle.turns.specs.Small.{UpTo, Within}
use Rattle.turns.proofs.Laws.{turned_0, turned_1, turned_2, turned_3, turned_four, turned_within}
use Rattle.reaching.specs.declared.Window.{Window}
use Rattle.reaching.specs.Shown.{above, gap, distance_squared, label_reaches, place_at, edges_of, reaches, shown}
use Rattle.counting.specs.Lives.{popped_up, lives}
use Rattle.reaching.specs.Questions.{is_edge, IsEdge, is_window, question11}
use Rattle.reaching.specs.Turning.{corner_of, lower, higher, lacking, turned_back, Edged, gap_here, distance_here, reaches_here, visible_here, shown_here}
use Rattle.reaching.proofs.Lemmas.Edges.{edge_abs, abs_edge, edge_shifted, shifted_le, gap_here_lem, neg_edge, place_edge}

and_assoc : (a b c : Bool) → (a && b) && c ≡ a && (b && c)
and_assoc true b c = refl
and_assoc false b c = refl

-- ---- negatives

neg_le : (a b : ℤ) → le_z a b ≡ true → le_z (neg_ℤ b) (neg_ℤ a) ≡ true
neg_le (pos zero) (pos zero) h = refl
neg_le (pos zero) (pos (suc b)) h = refl
neg_le (pos (suc a)) (pos zero) h = absurd (let l = leb-true (suc a) 0 h in omega arith)
neg_le (pos (suc a)) (pos (suc b)) h = le-leb a b (omega (arith, leb-true (suc a) (suc b) h))
neg_le (pos a) (negsuc b) h = absurd (false≢true h)
neg_le (negsuc a) (pos zero) h = le-leb 0 (suc a) (omega arith)
neg_le (negsuc a) (pos (suc b)) h = refl
neg_le (negsuc a) (negsuc b) h = le-leb (suc b) (suc a) (omega (arith, leb-true b a h))

gap_neg : (low high z : ℤ) → gap low high (neg_ℤ z) ≡ gap (neg_ℤ high) (neg_ℤ low) z
unfolding gap
gap_neg low high z =
    let a : above (low -ℤ neg_ℤ z) ≡ above (z -ℤ neg_ℤ low) =
    rw (neg_ℤ-neg_ℤ z, neg_ℤ-neg_ℤ low) (ap above (+ℤ_comm low z)) in
    let b : above (neg_ℤ z -ℤ high) ≡ above (neg_ℤ high -ℤ z) = ap above (+ℤ_comm (neg_ℤ z) (neg_ℤ high)) in
    omega (arith, a, b)

-- ---- the lower and the higher of two edges

record Sorted (a b low high : ℕ) : Type 0 where
  low_is : lower a b ≡ low
  high_is : higher a b ≡ high

sorted : (a b : ℕ) → a ≤ b → Sorted a b a b
sorted a b h = record { low_is = rw (le-leb a b h); high_is = rw (le-leb a b h) }

swapped : (a b : ℕ) → b ≤ a → Sorted a b b a
swapped a b h =
    by_cases (leb a b) (λ e. let l = leb-true a b e in record { low_is = rw e (omega arith); high_is = rw e (omega arith) })
    (λ e. record { low_is = rw e; high_is = rw e })

in_order_lem : (a b : ℤ) → le_z a b ≡ true → Sorted (shifted a) (shifted b) (shifted a) (shifted b)
in_order_lem a b h = sorted (shifted a) (shifted b) (shifted_le a b h)

turned_order : (a b : ℤ) → le_z a b ≡ true → Sorted (shifted (neg_ℤ a)) (shifted (neg_ℤ b)) (shifted (neg_ℤ b)) (shifted (neg_ℤ a))
turned_order a b h = swapped (shifted (neg_ℤ a)) (shifted (neg_ℤ b)) (shifted_le (neg_ℤ b) (neg_ℤ a) (neg_le a b h))

-- ---- distances

-- the gap to a place, and to a place on the other side of 0
straight : {low high z : ℤ} → IsEdge low → IsEdge high → IsEdge z → gap low high z ≡ gap_here (shifted low) (shifted high) (shifted z)
straight {low} {high} {z} = gap_here_lem low high z

across : {low high z : ℤ} → IsEdge low → IsEdge high → IsEdge z → gap low high (neg_ℤ z) ≡ gap_here (shifted (neg_ℤ high)) (shifted (neg_ℤ low)) (shifted z)
across {low} {high} {z} l h p = gap_neg low high z ∙ gap_here_lem (neg_ℤ high) (neg_ℤ low) z (neg_edge high h) (neg_edge low l) p

both_most : (a b : ℕ) → a ≤ 65536 → b ≤ 65536 → (lower a b ≤ 65536) × (higher a b ≤ 65536)
both_most a b p q = by_cases (leb a b) (λ e. rw e (p, q)) (λ e. rw e (q, p))

-- a turned corner of edges has edges
pub corner_within : (t : ℕ) {x y : ℤ} → IsEdge x → IsEdge y → Within 32768 (turned_place t (record { x = x; y = y }))
corner_within t {x} {y} p q = turned_within t (record { x_within = record { most = edge_abs x p }; y_within = record { most = edge_abs y q } })

up_to_shifted : {z : ℤ} → UpTo 32768 z → shifted z ≤ 65536
up_to_shifted {z} u = edge_shifted z (abs_edge z u.most)

corner_most : (t : ℕ) {x y : ℤ} → IsEdge x → IsEdge y → ((corner_of t x y).x ≤ 65536) × ((corner_of t x y).y ≤ 65536)
unfolding corner_of
corner_most t p q = let u = corner_within t p q in (up_to_shifted u.x_within, up_to_shifted u.y_within)

-- ---- the window

module _ (w : Window) (taken : is_window w ≡ true) where
  abbrev xs : Bool
  xs = is_edge w.x0 && is_edge w.x1

  abbrev ys : Bool
  ys = is_edge w.y0 && is_edge w.y1

  asked : ((leb w.turn 3 && xs) ≡ true) × (ys ≡ true)
  unfolding is_window
  asked = (and_left (leb w.turn 3 && xs) ys taken, and_right (leb w.turn 3 && xs) ys taken)

  pub turn_most : w.turn ≤ 3
  turn_most = leb-true w.turn 3 (and_left (leb w.turn 3) xs asked.0)

  pub x0_edge : IsEdge w.x0
  x0_edge = record { is = and_left (is_edge w.x0) (is_edge w.x1) (and_right (leb w.turn 3) xs asked.0) }

  pub x1_edge : IsEdge w.x1
  x1_edge = record { is = and_right (is_edge w.x0) (is_edge w.x1) (and_right (leb w.turn 3) xs asked.0) }

  pub y0_edge : IsEdge w.y0
  y0_edge = record { is = and_left (is_edge w.y0) (is_edge w.y1) asked.1 }

  pub y1_edge : IsEdge w.y1
  y1_edge = record { is = and_right (is_edge w.y0) (is_edge w.y1) asked.1 }

  pub back_edged : Edged (turned_back w)
  unfolding turned_back
  back_edged =
      let a = corner_most (lacking w) x0_edge y0_edge in
      let b = corner_most (lacking w) x1_edge y1_edge in
      let x = both_most _ _ a.0 b.0 in
      let y = both_most _ _ a.1 b.1 in
      record { x0_most = x.0; x1_most = x.1; y0_most = y.0; y1_most = y.1 }

  module _ (order : question11 w ≡ true) where
    ordered : (le_z w.x0 w.x1 ≡ true) × (le_z w.y0 w.y1 ≡ true)
    unfolding question11
    ordered = (and_left (le_z w.x0 w.x1) (le_z w.y0 w.y1) order, and_right (le_z w.x0 w.x1) (le_z w.y0 w.y1) order)

    module _ (shape : ℕ) (q : Place) (x_edge : IsEdge q.x) (y_edge : IsEdge q.y) where
      abbrev first : Place
      first = record { x = w.x0; y = w.y0 }

      abbrev last : Place
      last = record { x = w.x1; y = w.y1 }

      -- how far q lies from the window turned back by t quarter turns
      abbrev far_back : ℕ → ℕ
      far_back t =
          let a = corner_of (4 - t) w.x0 w.y0 in
          let b = corner_of (4 - t) w.x1 w.y1 in
          distance shape (gap_here (lower a.x b.x) (higher a.x b.x) (shifted q.x)) (gap_here (lower a.y b.y) (higher a.y b.y) (shifted q.y))

      distance_back : (t : ℕ) → t ≤ 3 → distance_squared shape (edges_of w) (turned_place t q) ≡ far_back t
      unfolding distance_squared corner_of
      distance_back zero h =
          let x = in_order_lem w.x0 w.x1 ordered.0 in
          let y = in_order_lem w.y0 w.y1 ordered.1 in
          rw (turned_0 q, turned_four first, turned_four last, x.low_is, x.high_is, y.low_is, y.high_is)
          (rw (straight x0_edge x1_edge x_edge, straight y0_edge y1_edge y_edge))
      distance_back (suc zero) h =
          let x = turned_order w.x0 w.x1 ordered.0 in
          let y = in_order_lem w.y0 w.y1 ordered.1 in
          rw (turned_1 q, turned_3 first, turned_3 last, x.low_is, x.high_is, y.low_is, y.high_is)
          (rw (across x0_edge x1_edge y_edge, straight y0_edge y1_edge x_edge) (distance_symmetric shape _ _))
      distance_back (suc (suc zero)) h =
          let x = turned_order w.x0 w.x1 ordered.0 in
          let y = turned_order w.y0 w.y1 ordered.1 in
          rw (turned_2 q, turned_2 first, turned_2 last, x.low_is, x.high_is, y.low_is, y.high_is)
          (rw (across x0_edge x1_edge x_edge, across y0_edge y1_edge y_edge))
      distance_back (suc (suc (suc zero))) h =
          let x = in_order_lem w.x0 w.x1 ordered.0 in
          let y = turned_order w.y0 w.y1 ordered.1 in
          rw (turned_3 q, turned_1 first, turned_1 last, x.low_is, x.high_is, y.low_is, y.high_is)
          (rw (straight x0_edge x1_edge y_edge, across y0_edge y1_edge x_edge) (distance_symmetric shape _ _))
      distance_back (suc (suc (suc (suc t)))) h = absurd (omega arith)

    module _ (shape : ℕ) (s : List ℕ) (bytes : Bytes s) (k m : ℕ) where
      reaches_back : reaches shape s k w m ≡ reaches_here shape s k (turned_back w) m
      unfolding reaches reaches_here label_reaches turned_back distance_here coordinate
      reaches_back =
          ap (λ (d : ℕ). leb (4096 * d) (k * k * (used_at s m * used_at s m)))
          (distance_back shape (place_at s m) (place_edge (x_at s m) (place_fits s (mark_size * m) bytes)) (place_edge (y_at s m) (place_fits s (mark_size * m + y_offset) bytes)) w.turn turn_most)

      -- Who is shown in the window is who is shown in the window turned back.
      pub shown_back : (p q : List ℕ) → shown shape s p q k w m ≡ shown_here shape s p q k (turned_back w) m
      unfolding shown lives shown_here visible_here
      shown_back p q = rw reaches_back (and_assoc (lives_at k (value_at p m)) (popped_up q k m) (reaches_here shape s k (turned_back w) m))
