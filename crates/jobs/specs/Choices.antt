-- 02, request 6: "Part 4, one byte, names edition 1 or 2; without it edition 1 holds." Request 13: "Part 7, one byte, names 1 disk or 2 square;
-- without it disks are meant." So a sheet without such a part and the same sheet with one that names 1 are scheduled, viewed and checked alike,
-- but for that part's own bytes. Assumes nothing.
use Rattle.std.specs.Prelude.{ℕ, ◌≡◌, List, [], ◌∷◌, ◌⊎◌}
use Rattle.contents.specs.Contents.{Part, with_part}

-- the parts that name 1 or 2
abbrev pub IsChoiceCode : ℕ → Type 0
IsChoiceCode code = (code ≡ 4) ⊎ (code ≡ 7)

-- the same parts, and one that names 1 where its code belongs
abbrev pub with_first : ℕ → List Part → List Part
with_first code parts = with_part code (1 ∷ []) parts
