-- What the functions make of the table.
use Rattle.std.specs.Prelude.{ℕ, ◌+◌, ◌*◌, ◌<◌, ◌≡◌, List, ◌≢◌}
use Rattle.lists.specs.Stores.{Kept}
use Rattle.fractions.specs.declared.Fraction.{Fraction}
use Rattle.marks.specs.declared.Label.{Label}
use Rattle.grid.specs.declared.Region.{Region}
use Rattle.grid.specs.Table.{region_count, region_size, table_size, group_region, region_at, empty_region, link_from, link_at, last_at}
use Rattle.grid.specs.Boxes.{widened}

-- v is w with x as the link of row q
pub record LinkPut (w v : List ℕ) (at groups q x : ℕ) : Type 0 where
  pub kept : Kept w v (link_from at groups q) (link_from at groups q + 2)
  pub here : link_at v at groups q ≡ x

-- v is w with r as region i
pub record RegionPut (w v : List ℕ) (at i : ℕ) (r : Region) : Type 0 where
  pub kept : Kept w v (at + region_size * i) (at + region_size * i + region_size)
  pub here : region_at v at i ≡ r

-- v is w with the first i regions empty
pub record Cleared (w v : List ℕ) (at groups i : ℕ) : Type 0 where
  pub kept : Kept w v at (at + table_size groups)
  pub regions : (j : ℕ) → j < i → region_at v at j ≡ empty_region

-- v is w with row p, of this label and removal value, as the last of cell c: every region and every link of the rows so far
pub record Added (w v : List ℕ) (at groups p c : ℕ) (a : Label) (f : Fraction) : Type 0 where
  pub kept : Kept w v at (link_from at groups p + 2)
  pub own : region_at v at c ≡ widened (region_at w at c) a f (p + 1)
  pub group : region_at v at (group_region groups c) ≡ widened (region_at w at (group_region groups c)) a f 0
  pub others : (i : ℕ) → i < region_count groups → i ≢ c → i ≢ group_region groups c → region_at v at i ≡ region_at w at i
  pub link : link_at v at groups p ≡ last_at w at c
  pub links : (q : ℕ) → q < p → link_at v at groups q ≡ link_at w at groups q
