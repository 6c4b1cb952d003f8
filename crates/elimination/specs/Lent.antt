-- The reel that is lent: its bytes are a caller's.
use Rattle.elimination.specs.declared.reel.Reel.{Reel as Lent}
use Rattle.elimination.specs.Reel.{Reel}

-- what it holds
abbrev pub lent : Lent → Reel
lent r = record { marks = r.marks.now; count = r.count; edition = r.edition; shape = r.shape; popups = r.popups.now }
