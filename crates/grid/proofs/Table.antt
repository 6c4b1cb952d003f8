-- The table as a whole: cleared, and with one row more. Assumes nothing.
use Prim.Native.Nat.{ℕ, ◌+◌, ◌*◌, ◌<◌, ◌≤◌}
use mathlib.Core.Path.{◌≡◌, sym, ◌∙◌}
use mathlib.Core.List.{List}
use mathlib.Core.Logic.{◌≢◌}
use native.Mathlib.Omega.{arith}
use native.Mathlib.Decide.{dec_lt}
use borrow.Author.Count.{below_more}
use lib.ListN.{length}
use lib.Seq.{sets}
use Rattle.lists.specs.Stores.{Clear}
use Rattle.lists.proofs.StoreLaws.{kept_wide, kept_then}
use Rattle.numbers.specs.Little.{le_bytes}
use Rattle.numbers.proofs.Laws.{read_back_sets, kept_write, number_kept}
use Rattle.fractions.specs.declared.Fraction.{Fraction}
use Rattle.marks.specs.declared.Label.{Label}
use Rattle.grid.specs.declared.Region.{Region}
use Rattle.grid.specs.Table.{cell_count, region_count, region_size, group_region, region_at, empty_region, link_from, last_at}
use Rattle.grid.specs.Boxes.{widened}
use Rattle.grid.specs.Steps.{LinkPut, RegionPut, Cleared, Added}
use Rattle.grid.specs.Laws.{region_kept}

-- regions do not meet
pub regions_apart : (at i j : ℕ) → j ≢ i → Clear (at + region_size * j) region_size (at + region_size * i) (at + region_size * i + region_size)
regions_apart at i j d = elim (dec_lt j i) [ yes h ↦ omega arith | no h ↦ omega arith ]

pub region_other : {w v : List ℕ} {at i : ℕ} {r : Region} → RegionPut w v at i r → (j : ℕ) → j ≢ i → region_at v at j ≡ region_at w at j
region_other {at = at} {i = i} k j d = region_kept k.kept at j (regions_apart at i j d)

pub link_is : {w v : List ℕ} (at groups q x : ℕ) → link_from at groups q + 2 ≤ length w → x < 65536 → v ≡ sets w (link_from at groups q) (le_bytes 2 x)
    → LinkPut w v at groups q x
link_is {w} at groups q x room h e =
    record {
      kept = rw e (kept_write 2 w (link_from at groups q) x);
      here = rw e (read_back_sets 2 w (link_from at groups q) x room h);
    }

-- ---- cleared

pub cleared_more : {w v u : List ℕ} {at groups i : ℕ} → i < region_count groups → Cleared w v at groups i → RegionPut v u at i empty_region
    → Cleared w u at groups (i + 1)
cleared_more {w} {v} {u} {at} {groups} {i} h c k =
    record {
      kept = kept_then c.kept (kept_wide k.kept (omega arith) (omega arith));
      regions = below_more _ i (λ j l. region_other k j (λ e. omega arith) ∙ c.regions j l) k.here;
    }

-- ---- one row more

module _ {w t u v : List ℕ} (at groups p c : ℕ) (a : Label) (f : Fraction) (hc : c < cell_count groups) (k1 : LinkPut w t at groups p (last_at w at c))
    (k2 : RegionPut t u at c (widened (region_at w at c) a f (p + 1)))
    (k3 : RegionPut u v at (group_region groups c) (widened (region_at w at (group_region groups c)) a f 0)) where
  in_table : group_region groups c < region_count groups
  in_table = omega arith

  apart : group_region groups c ≢ c
  apart e = omega arith

  pub added : Added w v at groups p c a f
  added =
      record {
        kept = kept_then (kept_wide k1.kept (omega arith) (omega arith))
            (kept_then (kept_wide k2.kept (omega arith) (omega arith)) (kept_wide k3.kept (omega arith) (omega arith)));
        own = region_other k3 c (λ e. apart (sym e)) ∙ k2.here;
        group = k3.here;
        others = λ i h d e. region_other k3 i e ∙ region_other k2 i d ∙ region_kept k1.kept at i (omega arith);
        link = number_kept k3.kept 2 (link_from at groups p) (omega arith) ∙ number_kept k2.kept 2 (link_from at groups p) (omega arith)
            ∙ k1.here;
        links = λ q h.
            number_kept k3.kept 2 (link_from at groups q) (omega arith) ∙ number_kept k2.kept 2 (link_from at groups q) (omega arith)
            ∙ number_kept k1.kept 2 (link_from at groups q) (omega arith);
      }
