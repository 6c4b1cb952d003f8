-- What the search for those that clash may leave out: blocks by their root, and halves by their distance. An axis is true for x.
use Rattle.std.specs.Prelude.{ℕ, ◌-◌, ◌*◌, Bool, not, cond, ◌||◌, eqb}
use Rattle.fractions.specs.declared.Fraction.{Fraction}
use Rattle.fractions.specs.Order.{less}
use Rattle.clashing.specs.declared.Subject.{Subject}

-- A block ends at a root that is removed at 0, or before m; if m is tight, also at one that is removed together with m.
abbrev pub is_over : Bool → Fraction → Fraction → Bool
is_over tight w v = eqb w.num 0 || cond tight (not (less v w)) (less w v)

-- how far a half lies from the place, at least: the left half is at most at `split`, the right half at least there
abbrev pub gap_to : Bool → ℕ → ℕ → ℕ
gap_to left place split = cond left (place - split) (split - place)

-- The half lies so far that no radius within the bound reaches m before m is removed.
abbrev pub is_far : Subject → Bool → Bool → ℕ → Bool
is_far q axis left split =
    let d = gap_to left (cond axis q.x q.y) split in less q.value (record { num = d * d; den = q.reach })

unfoldable pub size_to_search : Subject → Bool → Bool → ℕ → ℕ → ℕ
size_to_search q axis left split size = cond (is_far q axis left split) 0 size
