-- A reel's marks as an instance of Marks: their ranks and pair values are proper.
use Rattle.std.specs.Prelude.{◌≤◌}
use Rattle.marks.specs.Pairs.{pair_value}
use Rattle.elimination.specs.Marks.{Proper}
use Rattle.elimination.specs.Reel.{Reel, marks_of}
use Rattle.elimination.proofs.Cases.{reel_case, proper_by}

pub sheet_proper : (r : Reel) → r.count ≤ 4096 → Proper (marks_of r)
sheet_proper r few = proper_by r.edition r.marks r.count few (pair_value r.shape r.marks r.popups) (reel_case r)
