-- Laws of radii, touching values and ranks. Assumes nothing.
use Rattle.std.specs.Prelude.{ℕ, zero, suc, ◌+◌, ◌-◌, ◌*◌, ◌<◌, ◌≤◌, ◌≡◌, refl, Bool, true, false, cond, ◌&&◌, ◌||◌, List, ◌↔◌, ◌≢◌, ltb, leb, eqb, ℤ, pos, negsuc, neg_ℤ, nat_abs, ◌+ℤ◌, ◌-ℤ◌}
use Rattle.std.proofs.Common.{sym, ap, ◌∙◌, mul-pos, mul-le-mul, arith, ltb-true, eqb-true, leb-true, leb-false, le-leb, lt-ltb, le-ltb, eq-eqb, ne_eqb, SFits, to_z, of_z, to_z-of_z}
use Rattle.std.proofs.lemmas.Bool.{false≢true}
use Rattle.std.proofs.Math.Decide.{dec_lt}
use borrow.Author.Rules.{sfits_of}
use Rattle.std.proofs.Math.Dec.{eqb-suc-zero}
use Rattle.std.proofs.Math.IntN.{sub_ℕ, +ℤ_comm, neg_ℤ-+ℤ, neg_ℤ-neg_ℤ}
use Rattle.std.specs.Int.Signed.{mag}
use Rattle.std.specs.Int.{w16}
use Rattle.lists.proofs.TestLaws.{or_and, by_cases}
use Rattle.numbers.specs.Little.{le_at, signed, Bytes}
use Rattle.numbers.proofs.Laws.{le_bound, signed_fits}
use Rattle.fractions.specs.Order.{Small}
use Rattle.marks.specs.Marks.{mark_size, y_offset, priority_offset, radius_at, kind_at, priority_at, used_at, house_of, is_kind, is_radius, used_radius}
use Rattle.std.specs.Prelude.{Some, None}
use Rattle.marks.specs.declared.Label.{Label}
use Rattle.marks.specs.Marks.{Group, note, spot, streak, patch, break, kind_group, group_number, group_radius, house_radius, old_group_radius, old_radius}
use Rattle.marks.specs.Marks.{label_at, apart, larger, distance, touching_of, touching, rank_radius, outranks, rank_key}

-- ---- kinds

-- the kinds that have a house radius are those below 200, and that is theirs
pub house_there : (kind : ℕ) → kind < 200 → house_of kind ≡ Some (house_radius kind)
unfolding house_of
house_there kind h = rw (lt-ltb kind 200 h)

pub house_none : (kind : ℕ) → 200 ≤ kind → house_of kind ≡ None
unfolding house_of
house_none kind h = rw (le-ltb kind 200 h)

-- "is the kind below 200?"
pub kind_iff : (kind : ℕ) → (is_kind kind ≡ true) ↔ (kind < 200)
unfolding is_kind
kind_iff kind = (
  (λ e. elim (dec_lt kind 200) [ yes l ↦ l | no l ↦ absurd (false≢true (rw (house_none kind (omega arith)) at e)) ]),
  (λ l. rw (house_there kind l)),
)

-- there are five groups
group_few : (g : Group) → group_number g < 5
group_few note = omega arith
group_few spot = omega arith
group_few streak = omega arith
group_few patch = omega arith
group_few break = omega arith

pub kind_group_few : (kind : ℕ) → group_number (kind_group kind) < 5
kind_group_few kind = group_few (kind_group kind)

-- ---- radii

-- from 40 to 200
abbrev HouseSize : ℕ → Type 0
HouseSize r = (40 ≤ r) × (r ≤ 200)

group_size : (g : Group) → HouseSize (group_radius g)
group_size note = omega arith
group_size spot = omega arith
group_size streak = omega arith
group_size patch = omega arith
group_size break = omega arith

house_size : (kind : ℕ) → HouseSize (house_radius kind)
unfolding house_radius
house_size kind = group_size (kind_group kind)

pub house_positive : (kind : ℕ) → 0 < house_radius kind
house_positive kind = omega (arith, house_size kind)

-- those of the old table are from 40 to 200 too
old_group_size : (g : Group) → HouseSize (old_group_radius g)
old_group_size note = omega arith
old_group_size spot = omega arith
old_group_size streak = omega arith
old_group_size patch = omega arith
old_group_size break = omega arith

pub old_positive : (kind : ℕ) → 0 < old_radius kind
unfolding old_radius
old_positive kind = omega (arith, old_group_size (kind_group kind))

pub old_bound : (kind : ℕ) → old_radius kind ≤ 16383
unfolding old_radius
old_bound kind = omega (arith, old_group_size (kind_group kind))

pub used_positive : (radius kind : ℕ) → 0 < used_radius radius kind
unfolding used_radius
used_positive zero kind = house_positive kind
used_positive (suc radius) kind = rw (eqb-suc-zero radius) (omega arith)

pub used_bound : (radius kind : ℕ) → is_radius radius ≡ true → used_radius radius kind ≤ 16383
unfolding used_radius is_radius
used_bound zero kind h = omega (arith, house_size kind)
used_bound (suc radius) kind h = rw (eqb-suc-zero radius) (leb-true (suc radius) 16383 h)

-- ---- places and their differences

-- a place as read is a number of 16 bits with a sign
pub place_fits : (s : List ℕ) (at : ℕ) → Bytes s → SFits w16 (signed 2 (le_at 2 s at))
place_fits s at b = signed_fits w16 (le_at 2 s at) (record { fits = le_bound 2 s at b })

-- as one call returns it, and the next call reads it
pub place_passed : {z v : ℤ} → mag z < 32768 → z ≡ v → to_z w16 (of_z w16 z) ≡ v
place_passed h e = to_z-of_z {w = w16} (sfits_of h) ∙ e

sub_abs : (a b most : ℕ) → (0 < most) × (a ≤ most) × (b ≤ most) → nat_abs (sub_ℕ a b) ≤ most
sub_abs a b most h = go (ltb a b)
  where
    go : (t : Bool) → nat_abs (cond t (negsuc (b - suc a)) (pos (a - b))) ≤ most
    go true = omega arith
    go false = omega arith

difference_abs : (a b : ℤ) (half : ℕ) → mag a < half → mag b < half → nat_abs (a -ℤ b) < half + half
difference_abs (pos a) (pos zero) half p q = omega arith
difference_abs (pos a) (pos (suc b)) half p q = omega (arith, sub_abs a (suc b) half (omega arith))
difference_abs (pos a) (negsuc b) half p q = omega arith
difference_abs (negsuc a) (pos zero) half p q = omega (arith, sub_abs 0 (suc a) half (omega arith))
difference_abs (negsuc a) (pos (suc b)) half p q = omega arith
difference_abs (negsuc a) (negsuc b) half p q = omega (arith, sub_abs (suc b) (suc a) half (omega arith))

-- two places are at most 65,535 apart on an axis
pub difference_bound : (a b : ℤ) → SFits w16 a → SFits w16 b → apart a b ≤ 65535
difference_bound a b p q = omega (arith, difference_abs a b 32768 p.sfits q.sfits)

abs_negℤ : (z : ℤ) → nat_abs (neg_ℤ z) ≡ nat_abs z
abs_negℤ (pos zero) = refl
abs_negℤ (pos (suc n)) = refl
abs_negℤ (negsuc n) = refl

difference_turned : (a b : ℤ) → b -ℤ a ≡ neg_ℤ (a -ℤ b)
difference_turned a b =
    sym (neg_ℤ-+ℤ a (neg_ℤ b) ∙ ap (λ (z : ℤ). neg_ℤ a +ℤ z) (neg_ℤ-neg_ℤ b) ∙ +ℤ_comm (neg_ℤ a) b)

apart_symmetric : (a b : ℤ) → apart a b ≡ apart b a
apart_symmetric a b = rw (difference_turned a b, abs_negℤ (a -ℤ b))

-- ---- the larger of two

pub larger_symmetric : (a b : ℕ) → larger a b ≡ larger b a
larger_symmetric a b =
    by_cases (leb a b)
    (λ e. by_cases (leb b a) (λ g. rw (e, g) (omega (arith, leb-true a b e, leb-true b a g))) (λ g. rw (e, g)))
    (λ e. by_cases (leb b a) (λ g. rw (e, g)) (λ g. absurd (omega (arith, leb-false a b e, leb-false b a g))))

pub larger_least : (a b : ℕ) → (a ≤ larger a b) × (b ≤ larger a b)
larger_least a b = by_cases (leb a b) (λ e. rw e (omega (arith, leb-true a b e), omega arith)) (λ e. rw e (omega arith, omega (arith, leb-false a b e)))

pub larger_most : (a b most : ℕ) → a ≤ most → b ≤ most → larger a b ≤ most
larger_most a b most p q = by_cases (leb a b) (λ e. rw e q) (λ e. rw e p)

-- squaring keeps the order
pub larger_squared : (a b : ℕ) → larger a b * larger a b ≡ larger (a * a) (b * b)
larger_squared a b =
    by_cases (leb a b)
    (λ e. let h = leb-true a b e in rw (e, le-leb (a * a) (b * b) (mul-le-mul h h)))
    (λ e.
    let h : b ≤ a = omega (arith, leb-false a b e) in
    rw e (by_cases (leb (a * a) (b * b)) (λ g. rw g (omega (arith, leb-true (a * a) (b * b) g, mul-le-mul h h))) (λ g. rw g)))

-- ---- distances

pub distance_grows : (shape : ℕ) {a b c d : ℕ} → a ≤ c → b ≤ d → distance shape a b ≤ distance shape c d
unfolding distance
distance_grows shape {a} {b} {c} {d} p q =
    by_cases (eqb shape 2)
    (λ e.
    let g = larger_least c d in
    let h = larger_most a b (larger c d) (omega (arith, g.0)) (omega (arith, g.1)) in
    rw e (mul-le-mul h h))
    (λ e. rw e (omega (arith, mul-le-mul p p, mul-le-mul q q)))

pub distance_symmetric : (shape a b : ℕ) → distance shape a b ≡ distance shape b a
unfolding distance
distance_symmetric shape a b = by_cases (eqb shape 2) (λ e. rw (e, larger_symmetric a b)) (λ e. rw e (omega arith))

-- No difference squared is more than it, and it is no more than the sum of their squares.
pub distance_x : (shape a b : ℕ) → a * a ≤ distance shape a b
unfolding distance
distance_x shape a b =
    let h = (larger_least a b).0 in
    by_cases (eqb shape 2) (λ e. rw e (mul-le-mul h h)) (λ e. rw e (omega arith))

pub distance_y : (shape a b : ℕ) → b * b ≤ distance shape a b
distance_y shape a b = omega (arith, distance_symmetric shape a b, distance_x shape b a)

pub distance_most : (shape a b : ℕ) → distance shape a b ≤ a * a + b * b
unfolding distance
distance_most shape a b =
    by_cases (eqb shape 2)
    (λ e. rw (e, larger_squared a b) (larger_most (a * a) (b * b) (a * a + b * b) (omega arith) (omega arith)))
    (λ e. rw e (omega arith))

pub distance_bound : (shape : ℕ) {a b : ℕ} → a ≤ 65535 → b ≤ 65535 → distance shape a b ≤ 8589672450
distance_bound shape {a} {b} p q = omega (arith, distance_most shape a b, mul-le-mul p p, mul-le-mul q q)

-- ---- touching values

pub touching_of_symmetric : (shape : ℕ) (a b : Label) → touching_of shape a b ≡ touching_of shape b a
unfolding touching_of
touching_of_symmetric shape a b =
    let e : a.radius + b.radius ≡ b.radius + a.radius = omega arith in
    rw (apart_symmetric a.x b.x, apart_symmetric a.y b.y, e)

pub touching_symmetric : (shape : ℕ) (s : List ℕ) (a b : ℕ) → touching shape s a b ≡ touching shape s b a
unfolding touching
touching_symmetric shape s a b = touching_of_symmetric shape (label_at s a) (label_at s b)

-- for all shapes, s, a and b: a mark past the end of s has a used radius above 0 too
pub touching_positive : (shape : ℕ) (s : List ℕ) (a b : ℕ) → 0 < (touching shape s a b).den
unfolding touching touching_of
touching_positive shape s a b =
    let h : 0 < used_at s a + used_at s b = omega (arith, used_positive (radius_at s a) (kind_at s a)) in
    mul-pos h h

-- places of 16 bits
pub record Placed (a : Label) : Type 0 where
  pub x_fits : SFits w16 a.x
  pub y_fits : SFits w16 a.y

pub touching_of_small : (shape : ℕ) (a b : Label) → Placed a → Placed b → a.radius ≤ 16383 → b.radius ≤ 16383 → Small (touching_of shape a b)
unfolding touching_of
touching_of_small shape a b p q ra rb =
    let d = distance_bound shape (difference_bound a.x b.x p.x_fits q.x_fits) (difference_bound a.y b.y p.y_fits q.y_fits) in
    let r : a.radius + b.radius ≤ 32766 = omega arith in
    record { num_small = d; den_small = omega (arith, mul-le-mul r r) }

label_placed : (s : List ℕ) (m : ℕ) → Bytes s → Placed (label_at s m)
label_placed s m b = record { x_fits = place_fits s (mark_size * m) b; y_fits = place_fits s (mark_size * m + y_offset) b }

pub touching_small : (shape : ℕ) (s : List ℕ) (a b : ℕ) → Bytes s → used_at s a ≤ 16383 → used_at s b ≤ 16383
    → Small (touching shape s a b)
unfolding touching
touching_small shape s a b k = touching_of_small shape (label_at s a) (label_at s b) (label_placed s a k) (label_placed s b k)

-- ---- rank

pub rank_distinct : (edition : ℕ) (s : List ℕ) (a b : ℕ) → a < 4096 → b < 4096 → rank_key edition s a ≡ rank_key edition s b → a ≡ b
unfolding rank_key
rank_distinct edition s a b p q e = omega arith

pub rank_radius_bound : (edition : ℕ) (s : List ℕ) (m : ℕ) → used_at s m ≤ 16383 → rank_radius edition s m ≤ 16383
unfolding rank_radius
rank_radius_bound edition s m h = go (eqb edition 2)
  where
    go : (t : Bool) → cond t (used_at s m) 0 ≤ 16383
    go true = h
    go false = omega arith

-- over the priorities x and y of a and b, and what counts of their radii, u and v
module _ (x y u v a b : ℕ) (hx : x < 65536) (hy : y < 65536) (hu : u ≤ 16383) (hv : v ≤ 16383) (ha : a < 4096) (hb : b < 4096) where
  key_of_rank : ltb y x || (eqb x y && (ltb v u || (eqb u v && ltb a b))) ≡ true
      → ((65535 - x) * 16384 + (16383 - u)) * 4096 + a < ((65535 - y) * 16384 + (16383 - v)) * 4096 + b
  key_of_rank e =
      or_and (ltb y x) (eqb x y) (ltb v u || (eqb u v && ltb a b)) e (λ h. omega (arith, ltb-true y x h))
      (λ h d.
      or_and (ltb v u) (eqb u v) (ltb a b) d (λ k. omega (arith, eqb-true x y h, ltb-true v u k))
      (λ k l. omega (arith, eqb-true x y h, eqb-true u v k, ltb-true a b l)))

  rank_of_key : ((65535 - x) * 16384 + (16383 - u)) * 4096 + a < ((65535 - y) * 16384 + (16383 - v)) * 4096 + b
      → ltb y x || (eqb x y && (ltb v u || (eqb u v && ltb a b))) ≡ true
  rank_of_key h =
      elim (dec_lt y x) [
        | yes l ↦ rw (lt-ltb y x l)
        | no l ↦ elim (dec_lt v u) [
          | yes k ↦ rw (le-ltb y x (omega arith), eq-eqb x y (omega arith), lt-ltb v u k)
          | no k ↦ rw (le-ltb y x (omega arith), eq-eqb x y (omega arith), le-ltb v u (omega arith), eq-eqb u v (omega arith), lt-ltb a b (omega arith))
        ]
      ]

key_says : (edition : ℕ) (s : List ℕ) (a b : ℕ) → Bytes s → a < 4096 → b < 4096 → rank_radius edition s a ≤ 16383 → rank_radius edition s b ≤ 16383
    → (outranks edition s a b ≡ true) ↔ (rank_key edition s a < rank_key edition s b)
unfolding outranks rank_key
key_says edition s a b k p q u v =
    let x = le_bound 2 s (mark_size * a + priority_offset) k in
    let y = le_bound 2 s (mark_size * b + priority_offset) k in (
      key_of_rank (priority_at s a) (priority_at s b) (rank_radius edition s a) (rank_radius edition s b) a b x y u v p q,
      rank_of_key (priority_at s a) (priority_at s b) (rank_radius edition s a) (rank_radius edition s b) a b x y u v p q,
    )

pub outranks_key : (edition : ℕ) (s : List ℕ) (a b : ℕ) → Bytes s → a < 4096 → b < 4096 → used_at s a ≤ 16383 → used_at s b ≤ 16383
    → (outranks edition s a b ≡ true) ↔ (rank_key edition s a < rank_key edition s b)
outranks_key edition s a b k p q u v =
    key_says edition s a b k p q (rank_radius_bound edition s a u) (rank_radius_bound edition s b v)

-- ---- rank in edition 1

no_radius : (edition : ℕ) (s : List ℕ) (m : ℕ) → edition ≢ 2 → rank_radius edition s m ≡ 0
unfolding rank_radius
no_radius edition s m d = rw (ne_eqb edition 2 d)

-- 01's "higher priority first; equal priority, lower number first", in every edition but 2
pub first_edition : (edition : ℕ) (s : List ℕ) (a b : ℕ) → edition ≢ 2
    → outranks edition s a b ≡ ltb (priority_at s b) (priority_at s a) || (eqb (priority_at s a) (priority_at s b) && ltb a b)
unfolding outranks
first_edition edition s a b d = rw (no_radius edition s a d, no_radius edition s b d)

-- There no radius counts, and none need be good: the keys have the order of edition 1.
pub first_edition_key : (edition : ℕ) (s : List ℕ) (a b : ℕ) → edition ≢ 2 → Bytes s → a < 4096 → b < 4096
    → (outranks 1 s a b ≡ true) ↔ (rank_key edition s a < rank_key edition s b)
first_edition_key edition s a b d k p q =
    let u = no_radius edition s a d in
    let v = no_radius edition s b d in
    rw (first_edition 1 s a b (λ e. omega arith), ← first_edition edition s a b d) (key_says edition s a b k p q (omega arith) (omega arith))
