-- Edges: what question 20 says of their size, and which places can be one. Assumes nothing.
use Rattle.std.specs.Prelude.{zero, suc, ◌-◌, ◌<◌, ◌≤◌, ◌≡◌, refl, true, ℤ, pos, negsuc, neg_ℤ, nat_abs, ◌-ℤ◌}
use Rattle.std.proofs.Common.{arith, SFits, leb-true, le-leb}
use Rattle.std.proofs.lemmas.Bool.{false≢true}
use Rattle.std.specs.Int.Signed.{mag, le_z}
use Rattle.std.specs.Int.{w16}
use Rattle.lists.proofs.TestLaws.{and_left, and_right, and_both}
use Rattle.marks.specs.Marks.{shifted}
use Rattle.reaching.specs.Shown.{above, gap}
use Rattle.reaching.specs.Questions.{is_edge, IsEdge}
use Rattle.reaching.specs.Turning.{gap_here}
use Rattle.reaching.proofs.Lemmas.Places.{from, from_above}

pub edge_abs : (z : ℤ) → IsEdge z → nat_abs z ≤ 32768
unfolding is_edge
edge_abs (pos a) h = leb-true a 32768 (and_right (le_z (negsuc 32767) (pos a)) (le_z (pos a) (pos 32768)) h.is)
edge_abs (negsuc a) h = omega (arith, leb-true a 32767 (and_left (le_z (negsuc 32767) (negsuc a)) (le_z (negsuc a) (pos 32768)) h.is))

pub abs_edge : (z : ℤ) → nat_abs z ≤ 32768 → IsEdge z
unfolding is_edge
abs_edge (pos a) h = record { is = and_both {b = le_z (negsuc 32767) (pos a)} refl (le-leb a 32768 h) }
abs_edge (negsuc a) h = record { is = and_both (le-leb a 32767 (omega arith)) refl }

pub edge_mag : (z : ℤ) → IsEdge z → mag z < 32769
edge_mag (pos a) h = omega (arith, edge_abs (pos a) h)
edge_mag (negsuc a) h = omega (arith, edge_abs (negsuc a) h)

pub edge_from : (z : ℤ) → IsEdge z → from 32769 z ≡ suc (shifted z)
edge_from (pos a) h = omega arith
edge_from (negsuc a) h = omega (arith, edge_abs (negsuc a) h)

pub edge_shifted : (z : ℤ) → IsEdge z → shifted z ≤ 65536
edge_shifted (pos a) h = omega (arith, edge_abs (pos a) h)
edge_shifted (negsuc a) h = omega arith

pub shifted_le : (a b : ℤ) → le_z a b ≡ true → shifted a ≤ shifted b
shifted_le (pos a) (pos b) h = omega (arith, leb-true a b h)
shifted_le (pos a) (negsuc b) h = absurd (false≢true h)
shifted_le (negsuc a) (pos b) h = omega arith
shifted_le (negsuc a) (negsuc b) h = omega (arith, leb-true b a h)

-- the shift keeps their differences
shifted_above : (a b : ℤ) → IsEdge a → IsEdge b → above (a -ℤ b) ≡ shifted a - shifted b
shifted_above a b p q = omega (arith, from_above 32769 a b (edge_mag a p) (edge_mag b q), edge_from a p, edge_from b q)

pub gap_here_lem : (low high z : ℤ) → IsEdge low → IsEdge high → IsEdge z → gap low high z ≡ gap_here (shifted low) (shifted high) (shifted z)
unfolding gap
gap_here_lem low high z l h p = omega (arith, shifted_above low z l p, shifted_above z high p h)

pub neg_edge : (z : ℤ) → IsEdge z → IsEdge (neg_ℤ z)
neg_edge (pos zero) h = h
neg_edge (pos (suc a)) h = abs_edge (negsuc a) (edge_abs (pos (suc a)) h)
neg_edge (negsuc a) h = abs_edge (pos (suc a)) (edge_abs (negsuc a) h)

-- the place of a mark
pub place_edge : (z : ℤ) → SFits w16 z → IsEdge z
place_edge (pos a) f = abs_edge (pos a) (omega (arith, f.sfits))
place_edge (negsuc a) f = abs_edge (negsuc a) (omega (arith, f.sfits))
