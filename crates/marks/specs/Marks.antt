-- 01, "A mark" and "Touching, rank, removal" up to the process, with the house radii of 02, request 2, the rank by editions of request 6 and the shapes of request 13. `s` is part 1 of a sheet, the marks' bytes, and `m` a mark's number.
use Rattle.std.specs.Prelude.{ℕ, suc, ◌+◌, ◌-◌, ◌*◌, Bool, cond, ◌&&◌, ◌||◌, List, ◌++◌, ltb, leb, eqb, ℤ, pos, negsuc, ◌-ℤ◌, nat_abs, Option, Some, None}
use Rattle.numbers.specs.Little.{le_at, le_bytes, signed}
use Rattle.fractions.specs.declared.Fraction.{Fraction}
use Rattle.marks.specs.declared.Mark.{Mark}
use Rattle.marks.specs.declared.Label.{Label}

-- ---- "A mark takes 11 bytes: place x and y (signed, 2 bytes each, map units), radius (2, screen pixels),
-- priority (2, higher is more important), kind (1), tag (2, not interpreted)."

abbrev pub mark_size : ℕ
mark_size = 11

-- where the fields behind x begin
abbrev pub y_offset : ℕ
y_offset = 2

abbrev pub radius_offset : ℕ
radius_offset = 4

abbrev pub priority_offset : ℕ
priority_offset = 6

abbrev pub kind_offset : ℕ
kind_offset = 8

abbrev pub tag_offset : ℕ
tag_offset = 9

abbrev pub x_at : List ℕ → ℕ → ℤ
x_at s m = signed 2 (le_at 2 s (mark_size * m))

abbrev pub y_at : List ℕ → ℕ → ℤ
y_at s m = signed 2 (le_at 2 s (mark_size * m + y_offset))

-- a coordinate, shifted to be at least 0: the order stays
abbrev pub shifted : ℤ → ℕ
shifted (pos a) = a + 32768
shifted (negsuc a) = 32768 - suc a

abbrev pub radius_at : List ℕ → ℕ → ℕ
radius_at s m = le_at 2 s (mark_size * m + radius_offset)

abbrev pub priority_at : List ℕ → ℕ → ℕ
priority_at s m = le_at 2 s (mark_size * m + priority_offset)

abbrev pub kind_at : List ℕ → ℕ → ℕ
kind_at s m = le_at 1 s (mark_size * m + kind_offset)

abbrev pub tag_at : List ℕ → ℕ → ℕ
tag_at s m = le_at 2 s (mark_size * m + tag_offset)

-- a place as its two bytes hold it: -1 is 65,535
unfoldable pub place_bits : ℤ → ℕ
place_bits (pos a) = a
place_bits (negsuc a) = 65535 - a

-- the bytes of a mark of these six fields; `mark_reads` of Laws: they are read back
abbrev pub mark_bytes : Mark → List ℕ
mark_bytes a =
    le_bytes 2 (place_bits a.x) ++ (le_bytes 2 (place_bits a.y) ++ (le_bytes 2 a.radius ++ (le_bytes 2 a.priority ++ (le_bytes 1 a.kind ++ le_bytes 2 a.tag))))

-- ---- the kind and the radius

-- "0 to 9 note .., 10 to 49 spot .., 50 to 99 streak .., 100 to 149 moisture patch .., 150 to 199 break .."
pub data Group : Type 0 where
  note : Group
  spot : Group
  streak : Group
  patch : Group
  break : Group

unfoldable pub kind_group : ℕ → Group
kind_group kind =
    cond (ltb kind 10) note (cond (ltb kind 50) spot (cond (ltb kind 100) streak (cond (ltb kind 150) patch break)))

-- 02, request 12: "the five groups of 01 in order", from 0 on
abbrev pub group_number : Group → ℕ
group_number note = 0
group_number spot = 1
group_number streak = 2
group_number patch = 3
group_number break = 4

-- The house radius of each group. 02, request 2: "The house radius of kinds 100 to 149 becomes 150."
abbrev pub group_radius : Group → ℕ
group_radius note = 40
group_radius spot = 60
group_radius streak = 90
group_radius patch = 150
group_radius break = 200

unfoldable pub house_radius : ℕ → ℕ
house_radius kind = group_radius (kind_group kind)

-- "The number in 01's old table", which filling alone goes by: "note 40, .. spot 60, .. streak 90, .. moisture patch 120, .. break 200"
abbrev pub old_group_radius : Group → ℕ
old_group_radius note = 40
old_group_radius spot = 60
old_group_radius streak = 90
old_group_radius patch = 120
old_group_radius break = 200

unfoldable pub old_radius : ℕ → ℕ
old_radius kind = old_group_radius (kind_group kind)

-- "Kinds 200 to 255 don't exist." The house radius of a kind, or refusal 5.
unfoldable pub house_of : ℕ → Option ℕ
house_of kind = cond (ltb kind 200) (Some (house_radius kind)) None

-- what each answer stands for: its number, "5. .. is the kind below 200?"
abbrev pub house_number : Option ℕ → ℕ
house_number (Some radius) = 0
house_number None = 5

-- 5. "is the kind below 200?": `kind_iff` of Laws
unfoldable pub is_kind : ℕ → Bool
is_kind kind = eqb (house_number (house_of kind)) 0

-- "Radius is 1 to 16,383. Radius 0 means the house radius of the kind."
unfoldable pub is_radius : ℕ → Bool
is_radius radius = leb radius 16383

unfoldable pub used_radius : ℕ → ℕ → ℕ
used_radius radius kind = cond (eqb radius 0) (house_radius kind) radius

abbrev pub used_at : List ℕ → ℕ → ℕ
used_at s m = used_radius (radius_at s m) (kind_at s m)

-- ---- touching

-- the label of mark m: its place and its used radius
abbrev pub label_at : List ℕ → ℕ → Label
label_at s m = record { x = x_at s m; y = y_at s m; radius = used_at s m }

-- how far two places lie apart on an axis
abbrev pub apart : ℤ → ℤ → ℕ
apart a b = nat_abs (a -ℤ b)

abbrev pub larger : ℕ → ℕ → ℕ
larger a b = cond (leb a b) b a

-- "The squared distance" of two places that lie so far apart on the axes. 02, request 13: "Part 7, one byte, names 1 disk or 2 square", and
-- "for squares the distance is the larger of the x and y differences". By any shape but 2 it is that of disks. It grows with each of the
-- two differences: `distance_grows` of Laws.
unfoldable pub distance : ℕ → ℕ → ℕ → ℕ
distance shape dx dy = cond (eqb shape 2) (larger dx dy * larger dx dy) (dx * dx + dy * dy)

-- "Two marks touch first where z² equals their touching value: the squared distance over the squared sum of radii,
-- kept as these two whole numbers, never reduced."
unfoldable pub touching_of : ℕ → Label → Label → Fraction
touching_of shape a b =
    record {
      num = distance shape (apart a.x b.x) (apart a.y b.y);
      den = (a.radius + b.radius) * (a.radius + b.radius);
    }

unfoldable pub touching : ℕ → List ℕ → ℕ → ℕ → Fraction
touching shape s a b = touching_of shape (label_at s a) (label_at s b)

-- ---- rank

-- What counts between equal priorities before the number. 02, request 6: in edition 2 "the larger used radius"; in edition 1,
-- and by any number but 2, nothing.
unfoldable pub rank_radius : ℕ → List ℕ → ℕ → ℕ
rank_radius edition s m = cond (eqb edition 2) (used_at s m) 0

-- "Rank: higher priority first"; "between equal priorities the larger used radius ranks higher, then the lower number."
-- Mark `a` ranks higher than mark `b`. In edition 1 this is 01's sentence: `first_edition` of Laws.
unfoldable pub outranks : ℕ → List ℕ → ℕ → ℕ → Bool
outranks edition s a b =
    ltb (priority_at s b) (priority_at s a)
    || (eqb (priority_at s a) (priority_at s b)
    && (ltb (rank_radius edition s b) (rank_radius edition s a) || (eqb (rank_radius edition s a) (rank_radius edition s b) && ltb a b)))

-- The same as one number of 42 bits, the smaller the higher the rank: `outranks_key` of Laws.
unfoldable pub rank_key : ℕ → List ℕ → ℕ → ℕ
rank_key edition s m = ((65535 - priority_at s m) * 16384 + (16383 - rank_radius edition s m)) * 4096 + m
