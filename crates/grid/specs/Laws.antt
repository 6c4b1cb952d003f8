-- What a search uses of the table: it starts empty, a row more keeps what it tells, and it stays where other bytes of the buffer change. And what
-- a region tells: nothing in it touches a label sooner than its bound. Assumes nothing.
use Rattle.std.specs.Prelude.{ℕ, zero, suc, ◌+◌, ◌-◌, ◌*◌, ◌<◌, ◌≤◌, ◌≡◌, refl, Bool, true, false, cond, List, ◌≢◌, ltb, ℤ, pos, negsuc, nat_abs, length}
use Rattle.std.proofs.Common.{sym, ap, ◌∙◌, inl, inr, arith, mul-le-mul, below_more, eq-eqb, ne_eqb, ltb-true, ltb-false}
use Rattle.std.proofs.Math.Decide.{ℕ_discrete}
use Rattle.std.proofs.Math.IntN.{sub_ℕ}
use Rattle.lists.specs.Stores.{Clear, Kept}
use Rattle.numbers.proofs.Laws.{number_kept}
use Rattle.fractions.specs.declared.Fraction.{Fraction}
use Rattle.fractions.specs.Order.{less, Less, AtMost, Small}
use Rattle.fractions.proofs.Laws.{less_iff, order, at_most_trans, less_positive}
use Rattle.marks.specs.declared.Label.{Label}
use Rattle.marks.specs.Marks.{shifted, apart, touching_of}
use Rattle.marks.proofs.Laws.{distance_grows}
use Rattle.grid.specs.declared.Region.{Region}
use Rattle.grid.specs.Table.{cell_count, region_count, region_size, table_size, group_region, region_at, link_from, link_at, last_at, EntriesLow, Chained, assign}
use Rattle.grid.specs.Boxes.{Inside, Holds, widened, outside, bound_of}
use Rattle.grid.specs.Steps.{LinkPut, Cleared, Added}

-- ---- one row more in a region

-- what was held is held
pub widened_holds : {r : Region} {b : Label} {g : Fraction} (a : Label) (f : Fraction) (last : ℕ) → Holds r b g → Holds (widened r a f last) b g
widened_holds {r} {b} {g} a f last h =
    record {
      inside = record {
        west = omega (arith, h.inside.west);
        east = omega (arith, h.inside.east);
        south = omega (arith, h.inside.south);
        north = omega (arith, h.inside.north);
        radius = omega (arith, h.inside.radius);
      };
      latest = go (less r.latest f) refl;
    }
  where
    go : (t : Bool) → less r.latest f ≡ t → AtMost g (cond t f r.latest)
    go true e =
        let l : Less r.latest f = (less_iff _ _).0 e in
        at_most_trans {g = r.latest} (less_positive l) h.latest (record { cross = omega arith })
    go false e = h.latest

-- and so is the new row
pub widened_here : (r : Region) (a : Label) (f : Fraction) (last : ℕ) → shifted a.x ≤ 65535 → shifted a.y ≤ 65535 → Holds (widened r a f last) a f
widened_here r a f last hx hy =
    record {
      inside = record { west = omega arith; east = omega arith; south = omega arith; north = omega arith; radius = omega arith };
      latest = go (less r.latest f) refl;
    }
  where
    go : (t : Bool) → less r.latest f ≡ t → AtMost f (cond t f r.latest)
    go true e = record { cross = omega arith }
    go false e = elim (order f r.latest) [ inl h ↦ h | inr h ↦ absurd (let z : ◌≡◌ {A = Bool} true false = sym ((less_iff _ _).1 h) ∙ e in tell z) ]
      where
        tell : ◌≡◌ {A = Bool} true false → ⊥
        tell z = let y : ◌≡◌ {A = ℕ} 0 1 = cc in omega arith

pub widened_small : (r : Region) (a : Label) (f : Fraction) (last : ℕ) → Small r.latest → Small f → Small (widened r a f last).latest
widened_small r a f last p q = go (less r.latest f)
  where
    go : (t : Bool) → Small (cond t f r.latest)
    go true = q
    go false = p

pub widened_some : (r : Region) (a : Label) (f : Fraction) (last : ℕ) → 0 < r.latest.num + r.latest.den → 0 < f.num + f.den
    → 0 < (widened r a f last).latest.num + (widened r a f last).latest.den
widened_some r a f last p q = go (less r.latest f)
  where
    go : (t : Bool) → 0 < (cond t f r.latest).num + (cond t f r.latest).den
    go true = q
    go false = p

-- ---- bounds

sub_difference : (a b : ℕ) → nat_abs (sub_ℕ a b) ≡ a - b + (b - a)
sub_difference a b = go (ltb a b) refl
  where
    go : (t : Bool) → ltb a b ≡ t → nat_abs (cond t (negsuc (b - suc a)) (pos (a - b))) ≡ a - b + (b - a)
    go true e = let l = ltb-true a b e in omega arith
    go false e = let l = ltb-false a b e in omega arith

-- shifting moves no two places further apart
difference_shifted : (a b : ℤ) → shifted a - shifted b + (shifted b - shifted a) ≤ apart a b
difference_shifted (pos a) (pos zero) = omega arith
difference_shifted (pos a) (pos (suc b)) = omega (arith, sub_difference a (suc b))
difference_shifted (pos a) (negsuc b) = omega arith
difference_shifted (negsuc a) (pos zero) = omega (arith, sub_difference 0 (suc a))
difference_shifted (negsuc a) (pos (suc b)) = omega arith
difference_shifted (negsuc a) (negsuc b) = omega (arith, sub_difference (suc b) (suc a))

-- places that are not apart are one
pub same_place : (a b : ℤ) → apart a b ≡ 0 → a ≡ b
same_place (pos a) (pos zero) e = let z : a ≡ 0 = omega arith in rw z
same_place (pos a) (pos (suc b)) e = let z : a ≡ suc b = omega (arith, sub_difference a (suc b)) in rw z
same_place (pos a) (negsuc b) e = absurd (omega arith)
same_place (negsuc a) (pos zero) e = absurd (omega (arith, sub_difference 0 (suc a)))
same_place (negsuc a) (pos (suc b)) e = absurd (omega arith)
same_place (negsuc a) (negsuc b) e = let z : a ≡ b = omega (arith, sub_difference (suc b) (suc a)) in rw z

pub apart_self : (a : ℤ) → apart a a ≡ 0
apart_self (pos zero) = omega arith
apart_self (pos (suc a)) = omega (arith, sub_difference (suc a) (suc a))
apart_self (negsuc a) = omega (arith, sub_difference (suc a) (suc a))

-- no label in a region touches sooner
pub bound_least : (shape : ℕ) (r : Region) (a b : Label) → Inside r b → AtMost (bound_of shape r a) (touching_of shape b a)
unfolding touching_of
bound_least shape r a b i =
    let l : b.radius + a.radius ≤ r.radius + a.radius = omega (arith, i.radius) in
    let x : outside r.west r.east (shifted a.x) ≤ apart b.x a.x = omega (arith, difference_shifted b.x a.x, i.west, i.east) in
    let y : outside r.south r.north (shifted a.y) ≤ apart b.y a.y = omega (arith, difference_shifted b.y a.y, i.south, i.north) in
    record { cross = mul-le-mul (distance_grows shape x y) (mul-le-mul l l) }

pub bound_positive : (shape : ℕ) (r : Region) (a b : Label) → Inside r b → 0 < (touching_of shape b a).den → 0 < (bound_of shape r a).den
unfolding touching_of
bound_positive shape r a b i h =
    let l : b.radius + a.radius ≤ r.radius + a.radius = omega (arith, i.radius) in omega (arith, h, mul-le-mul l l)

-- ---- where other bytes change

pub region_kept : {s t : List ℕ} {a b : ℕ} → Kept s t a b → (at i : ℕ) → Clear (at + region_size * i) region_size a b → region_at t at i ≡ region_at s at i
unfolding region_at
region_kept {s} {t} {a} {b} k at i o =
    rw (
      number_kept k 2 (at + region_size * i) (omega arith),
      number_kept k 2 (at + region_size * i + 2) (omega arith),
      number_kept k 2 (at + region_size * i + 4) (omega arith),
      number_kept k 2 (at + region_size * i + 6) (omega arith),
      number_kept k 2 (at + region_size * i + 8) (omega arith),
      number_kept k 2 (at + region_size * i + 10) (omega arith),
      number_kept k 8 (at + region_size * i + 12) (omega arith),
      number_kept k 4 (at + region_size * i + 20) (omega arith),
    )

-- the regions and the first p links are the same in v as in w
pub record SameTable (w v : List ℕ) (at groups p : ℕ) : Type 0 where
  pub long : length v ≡ length w
  pub region : (i : ℕ) → i < region_count groups → region_at v at i ≡ region_at w at i
  pub link : (q : ℕ) → q < p → link_at v at groups q ≡ link_at w at groups q

-- a write before the table
pub same_kept : {w v : List ℕ} {a b : ℕ} → Kept w v a b → (at groups p : ℕ) → b ≤ at → SameTable w v at groups p
same_kept k at groups p o =
    record {
      long = k.long;
      region = λ i h. region_kept k at i (omega arith);
      link = λ q h. number_kept k 2 (link_from at groups q) (omega arith);
    }

-- a link behind these
pub same_linked : {w v : List ℕ} {at groups p x : ℕ} → LinkPut w v at groups p x → SameTable w v at groups p
same_linked {w} {v} {at} {groups} {p} {x} k =
    record {
      long = k.kept.long;
      region = λ i h. region_kept k.kept at i (omega arith);
      link = λ q h. number_kept k.kept 2 (link_from at groups q) (omega arith);
    }

module _ {w v : List ℕ} {at groups p : ℕ} (s : SameTable w v at groups p) where
  last_same : (c : ℕ) → c < cell_count groups → last_at v at c ≡ last_at w at c
  last_same c h = ap (λ (r : Region). r.last) (s.region c (omega arith))

  pub ready_same : EntriesLow w at groups p → EntriesLow v at groups p
  ready_same r =
      record {
        room = omega (arith, s.long, r.room);
        last_low = λ c h. rw (last_same c h) (r.last_low c h);
        link_low = λ j h. rw (s.link j h) (r.link_low j h);
        radius_low = λ i h. rw (s.region i h) (r.radius_low i h);
        latest_small = λ i h. rw (s.region i h) (r.latest_small i h);
        latest_some = λ i h. rw (s.region i h) (r.latest_some i h);
      }

  pub chained_same : {cell : ℕ → ℕ} → Chained w at groups p cell → Chained v at groups p cell
  chained_same {cell} r =
      record {
        last_in = λ c h i e. r.last_in c h i (sym (last_same c h) ∙ e);
        last_all = λ q h l. rw (last_same (cell q) l) (r.last_all q h l);
        link_in = λ j h l i e. r.link_in j h l i (sym (s.link j h) ∙ e);
        link_all = λ j h l q b e. rw (s.link j h) (r.link_all j h l q b e);
      }

-- ---- the empty table

module _ {w v : List ℕ} {at groups : ℕ} (k : Cleared w v at groups (region_count groups)) where
  last_none : (c : ℕ) → c < cell_count groups → last_at v at c ≡ 0
  last_none c h = ap (λ (r : Region). r.last) (k.regions c (omega arith))

  pub ready_none : at + table_size groups ≤ length w → EntriesLow v at groups 0
  ready_none room =
      record {
        room = omega (arith, k.kept.long);
        last_low = λ c h. omega (arith, last_none c h);
        link_low = λ j h. absurd (omega arith);
        radius_low = λ i h. rw (k.regions i h) (omega arith);
        latest_small = λ i h. rw (k.regions i h) (record { num_small = omega arith; den_small = omega arith });
        latest_some = λ i h. rw (k.regions i h) (omega arith);
      }

  pub chained_none : (cell : ℕ → ℕ) → Chained v at groups 0 cell
  chained_none cell =
      record {
        last_in = λ c h i e. absurd (omega (arith, last_none c h));
        last_all = λ q h. absurd (omega arith);
        link_in = λ j h. absurd (omega arith);
        link_all = λ j h. absurd (omega arith);
      }

-- ---- one row more

-- `assign` keeps the cells of other rows
pub assign_same : (cell : ℕ → ℕ) {p : ℕ} (c : ℕ) {q : ℕ} → q < p → assign cell p c q ≡ cell q
assign_same cell {p} c {q} h = rw (ne_eqb q p (λ e. omega arith))

pub assign_here : (cell : ℕ → ℕ) (p c : ℕ) → assign cell p c p ≡ c
assign_here cell p c = rw (eq-eqb p p refl)

-- row p in no cell
module _ {w v : List ℕ} {at groups p : ℕ} (k : LinkPut w v at groups p 0) (rd : EntriesLow w at groups p) (room : link_from at groups p + 2 ≤ length w) where
  pub ready_left : EntriesLow v at groups (p + 1)
  ready_left =
      let s = same_linked k in
      let r = ready_same s rd in
      record {
        room = omega (arith, k.kept.long);
        last_low = λ c h. omega (arith, r.last_low c h);
        link_low = below_more _ p r.link_low (omega (arith, k.here));
        radius_low = r.radius_low;
        latest_small = r.latest_small;
        latest_some = r.latest_some;
      }

  pub chained_left : (cell : ℕ → ℕ) → Chained w at groups p cell → Chained v at groups (p + 1) (assign cell p (cell_count groups))
  chained_left cell ch =
      record {
        last_in = λ c h i e.
            let b : i < p = omega (arith, (ready_same (same_linked k) rd).last_low c h, e) in assign_same cell (cell_count groups) b ∙ x.last_in c h i e;
        last_all = below_more _ p (λ q h l. let e = assign_same cell (cell_count groups) h in rw e (x.last_all q h (rw e at l)))
            (λ l. absurd (omega (arith, assign_here cell p (cell_count groups))));
        link_in = below_more _ p
            (λ j h l i e.
            let f = assign_same cell (cell_count groups) h in
            let b : i < p = omega (arith, (ready_same (same_linked k) rd).link_low j h, e) in
            assign_same cell (cell_count groups) b ∙ x.link_in j h (rw f at l) i e ∙ sym f)
            (λ l. absurd (omega (arith, assign_here cell p (cell_count groups))));
        link_all = below_more _ p
            (λ j h l q b e.
            let f = assign_same cell (cell_count groups) h in
            let g : q < p = omega arith in
            x.link_all j h (rw f at l) q b (sym (assign_same cell (cell_count groups) g) ∙ e ∙ f))
            (λ l. absurd (omega (arith, assign_here cell p (cell_count groups))));
      }
    where
      x : Chained v at groups p cell
      x = chained_same (same_linked k) ch

-- row p in cell c
module _ {w v : List ℕ} {at groups p c : ℕ} {a : Label} {f : Fraction} (x : Added w v at groups p c a f) (hc : c < cell_count groups)
    (rd : EntriesLow w at groups p) (room : link_from at groups p + 2 ≤ length w) where
  -- what a row more keeps holds of each region
  region_more : (i : ℕ) → i < region_count groups → (P : Region → Type 0) → ((last : ℕ) (r : Region) → P r → P (widened r a f last))
      → P (region_at w at i) → P (region_at v at i)
  region_more i h P keeps k =
      elim (ℕ_discrete i c) [
        | yes e ↦ rw (e, x.own) (keeps (p + 1) _ (rw e at k))
        | no d ↦
            elim (ℕ_discrete i (group_region groups c)) [
              | yes e ↦ rw (e, x.group) (keeps 0 _ (rw e at k))
              | no e ↦ rw (x.others i h d e) k
            ]
      ]

  pub holds_more : (i : ℕ) → i < region_count groups → {b : Label} {g : Fraction} → Holds (region_at w at i) b g → Holds (region_at v at i) b g
  holds_more i h {b} {g} = region_more i h (λ (r : Region). Holds r b g) (λ last r k. widened_holds a f last k)

  last_here : last_at v at c ≡ p + 1
  last_here = ap (λ (r : Region). r.last) x.own

  last_other : (d : ℕ) → d < cell_count groups → d ≢ c → last_at v at d ≡ last_at w at d
  last_other d h n = ap (λ (r : Region). r.last) (x.others d (omega arith) n (λ e. omega arith))

  pub ready_more : a.radius ≤ 16383 → Small f → 0 < f.num + f.den → EntriesLow v at groups (p + 1)
  ready_more ha hf some =
      record {
        room = omega (arith, x.kept.long);
        last_low = λ d h.
            elim (ℕ_discrete d c) [ yes e ↦ rw (e, last_here) (omega arith) | no e ↦ rw (last_other d h e) (omega (arith, rd.last_low d h)) ];
        link_low = below_more _ p (λ j h. rw (x.links j h) (rd.link_low j h)) (rw x.link (rd.last_low c hc));
        radius_low = λ i h. region_more i h (λ (r : Region). r.radius ≤ 16383) (λ last r l. omega (arith, ha)) (rd.radius_low i h);
        latest_small = λ i h. region_more i h (λ (r : Region). Small r.latest) (λ last r l. widened_small r a f last l hf) (rd.latest_small i h);
        latest_some = λ i h.
            region_more i h (λ (r : Region). 0 < r.latest.num + r.latest.den) (λ last r l. widened_some r a f last l some) (rd.latest_some i h);
      }

  module _ (cell : ℕ → ℕ) (ch : Chained w at groups p cell) where
    last_in : (d : ℕ) → d < cell_count groups → (i : ℕ) → last_at v at d ≡ suc i → assign cell p c i ≡ d
    last_in d h i e =
        elim (ℕ_discrete d c) [
          | yes g ↦
              (let y : p + 1 ≡ suc i = sym last_here ∙ ap (last_at v at) (sym g) ∙ e in
              let z : i ≡ p = omega arith in
              rw (z, g) (assign_here cell p c))
          | no g ↦
              (let y : last_at w at d ≡ suc i = sym (last_other d h g) ∙ e in
              let b : i < p = omega (arith, rd.last_low d h, y) in
              assign_same cell c b ∙ ch.last_in d h i y)
        ]

    last_all : (q : ℕ) → q < p → assign cell p c q < cell_count groups → q < last_at v at (assign cell p c q)
    last_all q h l =
        let s = assign_same cell c h in
        let k : cell q < cell_count groups = rw s at l in
        rw s
        (elim (ℕ_discrete (cell q) c) [
          | yes e ↦ rw (e, last_here) (omega arith)
          | no e ↦ rw (last_other (cell q) k e) (ch.last_all q h k)
        ])

    pub chained_more : Chained v at groups (p + 1) (assign cell p c)
    chained_more =
        record {
          last_in = last_in;
          last_all = below_more _ p last_all (λ l. rw (assign_here cell p c, last_here) (omega arith));
          link_in = below_more _ p
              (λ j h l i e.
              let s = assign_same cell c h in
              let y : link_at w at groups j ≡ suc i = sym (x.links j h) ∙ e in
              let b : i < p = omega (arith, rd.link_low j h, y) in
              assign_same cell c b ∙ ch.link_in j h (rw s at l) i y ∙ sym s)
              (λ l i e.
              let y : last_at w at c ≡ suc i = sym x.link ∙ e in
              let b : i < p = omega (arith, rd.last_low c hc, y) in
              assign_same cell c b ∙ ch.last_in c hc i y ∙ sym (assign_here cell p c));
          link_all = below_more _ p
              (λ j h l q b e.
              let s = assign_same cell c h in
              let g : q < p = omega arith in
              rw (x.links j h) (ch.link_all j h (rw s at l) q b (sym (assign_same cell c g) ∙ e ∙ s)))
              (λ l q b e.
              let y : cell q ≡ c = sym (assign_same cell c b) ∙ e ∙ assign_here cell p c in
              rw x.link (rw y at (ch.last_all q b (rw y hc))));
        }
